-- The laws, from the lemmas on each part.
use Rattle.std.proofs.Common.{ap}
use Rattle.wake_core.specs.Plain.{Plain}
use Rattle.wake_core.proofs.Consisting.{stop_in, stop_consistent}
use Rattle.wake_core.proofs.Sounding.{stop_sound}
use Rattle.wake_core.proofs.Runs.{same_calls}
use Rattle.wake_core.proofs.laws.stop.Goals as goal

pub returns : goal.returns
returns k = record {
  held = stop_in;
  consistent = stop_consistent;
  sound = stop_sound;
  calls = λ w v e. same_calls w v (ap (λ (u : Plain). u.calls) e.effect);
}
