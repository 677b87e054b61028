use Rattle.std.proofs.Common.{◌≡◌, true, take}
use Rattle.cy_trace.specs.Cuts.{lacks}
use Rattle.cy_trace.proofs.word.cut.Given as goal

abbrev pub invariant-loop-place : goal.invariant-loop-place
invariant-loop-place l = lacks l.mark (take l.place l.bytes) ≡ true
