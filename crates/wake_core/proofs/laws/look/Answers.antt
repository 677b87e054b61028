-- The laws, from the lemmas on each part.
use Rattle.std.proofs.Common.{ap}
use Rattle.wake_core.specs.Plain.{Plain}
use Rattle.wake_core.proofs.Consisting.{look_consistent}
use Rattle.wake_core.proofs.Sounding.{look_sound}
use Rattle.wake_core.proofs.Runs.{same_calls}
use Rattle.wake_core.proofs.laws.look.Goals as goal

pub returns : goal.returns
returns k = record {
  held = λ p c later w h. h;
  consistent = look_consistent;
  sound = look_sound;
  calls = λ p c w v e. same_calls w v (ap (λ (u : Plain). u.calls) e.effect);
}
