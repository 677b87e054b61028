-- The laws, from the lemmas on each part.
use Rattle.std.proofs.Common.{ap}
use Rattle.wake_core.specs.Plain.{Plain}
use Rattle.wake_core.proofs.Consisting.{spend_in, spend_consistent}
use Rattle.wake_core.proofs.Sounding.{spend_sound}
use Rattle.wake_core.proofs.Runs.{same_calls}
use Rattle.wake_core.proofs.laws.spend.Goals as goal

pub returns : goal.returns
returns k = record {
  held = spend_in;
  consistent = spend_consistent;
  sound = spend_sound;
  calls = λ p c seen w v e. same_calls w v (ap (λ (u : Plain). u.calls) e.effect);
}
