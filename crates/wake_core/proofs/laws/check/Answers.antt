-- The laws, from the lemmas on each part.
use Rattle.std.proofs.Common.{ap}
use Rattle.wake_core.specs.Plain.{Plain}
use Rattle.wake_core.proofs.Consisting.{check_in, check_consistent}
use Rattle.wake_core.proofs.Sounding.{check_sound}
use Rattle.wake_core.proofs.Runs.{same_calls}
use Rattle.wake_core.proofs.laws.check.Goals as goal

pub returns : goal.returns
returns k = record {
  held = check_in;
  consistent = check_consistent;
  sound = check_sound;
  calls = λ p c w v e. same_calls w v (ap (λ (u : Plain). u.calls) e.effect);
}
