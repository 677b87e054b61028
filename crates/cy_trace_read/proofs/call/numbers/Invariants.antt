use Rattle.std.proofs.Common.{◌≡◌, option_map, Some}
use Rattle.cy_trace_read.specs.LineReading.{numbers, words_left}
use Rattle.cy_trace_read.proofs.ReadingSteps.{onto, bytes_left}
use Rattle.cy_trace_read.proofs.call.numbers.Given as goal

abbrev pub invariant-loop-rest : goal.invariant-loop-rest
invariant-loop-rest l = onto l.numbers.items (numbers (words_left (option_map (λ w. w.now) l.rest))) ≡ numbers (words_left (Some l.bytes))

abbrev pub decreases-loop-rest : goal.decreases-loop-rest
decreases-loop-rest l = bytes_left l.rest
