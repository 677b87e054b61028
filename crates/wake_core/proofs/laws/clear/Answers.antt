-- The laws, from the lemmas on each part.
use Rattle.std.proofs.Common.{ap}
use Rattle.wake_core.specs.Plain.{Plain}
use Rattle.wake_core.proofs.Consisting.{clear_consistent}
use Rattle.wake_core.proofs.Sounding.{clear_sound}
use Rattle.wake_core.proofs.Runs.{same_calls}
use Rattle.wake_core.proofs.laws.clear.Goals as goal

pub returns : goal.returns
returns k = record {
  held = λ p c rest w h. h;
  consistent = clear_consistent;
  sound = clear_sound;
  calls = λ p c w v e. same_calls w v (ap (λ (u : Plain). u.calls) e.effect);
}
