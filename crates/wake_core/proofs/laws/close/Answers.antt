-- The laws, from the lemmas on each part.
use Rattle.std.proofs.Common.{ap, refl, true}
use Rattle.wake_core.specs.Plain.{Plain}
use Rattle.wake_core.proofs.Sounding.{same_consistent, close_sound}
use Rattle.wake_core.proofs.Runs.{same_calls}
use Rattle.wake_core.proofs.laws.close.Goals as goal

pub returns : goal.returns
returns k = record {
  held = λ w h. h;
  consistent = λ w s. same_consistent w record w { closing = true } refl s;
  sound = close_sound;
  calls = λ w v e. same_calls w v (ap (λ (u : Plain). u.calls) e.effect);
}
