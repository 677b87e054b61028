-- The laws, from the lemmas on each part.
use Rattle.std.proofs.Common.{ap}
use Rattle.wake_core.specs.Plain.{Plain}
use Rattle.wake_core.proofs.Consisting.{release_in, release_consistent}
use Rattle.wake_core.proofs.Sounding.{release_sound}
use Rattle.wake_core.proofs.Runs.{same_calls}
use Rattle.wake_core.proofs.laws.release.Goals as goal

pub returns : goal.returns
returns k = record {
  held = release_in;
  consistent = release_consistent;
  sound = release_sound;
  calls = λ p c w v e. same_calls w v (ap (λ (u : Plain). u.calls) e.effect);
}
