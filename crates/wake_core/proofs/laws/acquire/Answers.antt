-- The laws, from the lemmas on each part.
use Rattle.std.proofs.Common.{ap}
use Rattle.wake_core.specs.Plain.{Plain}
use Rattle.wake_core.proofs.Consisting.{acquire_in, acquire_consistent}
use Rattle.wake_core.proofs.Sounding.{acquire_sound}
use Rattle.wake_core.proofs.Runs.{same_calls}
use Rattle.wake_core.proofs.laws.acquire.Goals as goal

pub returns : goal.returns
returns k = record {
  held = acquire_in;
  consistent = acquire_consistent;
  sound = acquire_sound;
  calls = λ p c w v e. same_calls w v (ap (λ (u : Plain). u.calls) e.effect);
}
