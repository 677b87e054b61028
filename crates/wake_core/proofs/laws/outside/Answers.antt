-- The law, from the lemmas on each part.
use Rattle.wake_core.proofs.Outside.{outside_sound}
use Rattle.wake_core.proofs.laws.outside.Goals as goal

pub returns : goal.returns
returns k = record { sound = outside_sound }
