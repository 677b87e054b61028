-- The laws, from the lemmas on each part.
use Rattle.wake_core.proofs.Standing.{arrival_stands}
use Rattle.wake_core.proofs.laws.taped.Goals as goal

pub returns : goal.returns
returns k = record {
  arrived = λ w s. arrival_stands s.delivered;
}
