use Rattle.std.proofs.Common.{◌≡◌, ◌∷◌, take}
use Rattle.std.specs.Prelude.{map}
use Rattle.cy_reader.specs.Named.{message_at}
use Rattle.cy_info.specs.Info.{least}
use Rattle.cy_info.proofs.facts.least_time.Given as goal

abbrev pub invariant-loop-place : goal.invariant-loop-place
invariant-loop-place l = l.time ≡ least ((message_at l.whole 0).time ∷ map (λ m. m.time) (take l.place l.whole.messages))
