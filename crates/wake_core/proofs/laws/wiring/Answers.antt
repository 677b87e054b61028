-- The law, from the lemmas on sources, and from what each class answers.
use Rattle.wake_core.proofs.Rooted.{wired}
use Rattle.wake_core.proofs.HeldTimes.{held_so}
use Rattle.wake_core.proofs.laws.wiring.Goals as goal

pub returns : goal.returns
returns k = record {
  wired = λ names plans counts w counted.
      wired names plans w counts counted (λ c p earlier tuple until out at e. (held_so k.outcomes_are_answers.ensures p.kind earlier tuple until out e).time);
}
