use Rattle.std.proofs.Common.{◌≡◌, take}
use Rattle.std.specs.Prelude.{map}
use Rattle.cy_info.specs.Info.{greatest}
use Rattle.cy_info.proofs.facts.greatest_time.Given as goal

abbrev pub invariant-loop-place : goal.invariant-loop-place
invariant-loop-place l = l.time ≡ greatest (map (λ m. m.time) (take l.place l.whole.messages))
