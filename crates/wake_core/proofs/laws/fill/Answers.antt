-- The laws, from the lemmas on each part.
use Rattle.std.proofs.Common.{ap}
use Rattle.wake_core.specs.Plain.{Plain}
use Rattle.wake_core.proofs.Consisting.{fill_consistent}
use Rattle.wake_core.proofs.Sounding.{fill_sound}
use Rattle.wake_core.proofs.Runs.{same_calls}
use Rattle.wake_core.proofs.laws.fill.Goals as goal

pub returns : goal.returns
returns k = record {
  held = λ p v j later w h. h;
  consistent = fill_consistent;
  sound = fill_sound;
  calls = λ p u j w v e. same_calls w v (ap (λ (u : Plain). u.calls) e.effect);
}
