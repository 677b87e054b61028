-- The laws, from the lemmas on each part.
use Rattle.std.proofs.Common.{ap, refl}
use Rattle.wake_core.specs.Plain.{Plain}
use Rattle.wake_core.proofs.Sounding.{same_consistent, tick_sound}
use Rattle.wake_core.proofs.Runs.{same_calls}
use Rattle.wake_core.proofs.laws.tick.Goals as goal

pub returns : goal.returns
returns k = record {
  held = λ time w h. h;
  consistent = λ time w s. same_consistent w record w { clock = time } refl s;
  sound = tick_sound;
  calls = λ time w v e. same_calls w v (ap (λ (u : Plain). u.calls) e.effect);
}
