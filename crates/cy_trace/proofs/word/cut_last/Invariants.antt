use Rattle.std.proofs.Common.{◌≡◌, true, drop}
use Rattle.cy_trace.specs.Cuts.{lacks}
use Rattle.cy_trace.proofs.word.cut_last.Given as goal

abbrev pub invariant-loop-place : goal.invariant-loop-place
invariant-loop-place l = lacks l.mark (drop l.place l.bytes) ≡ true
