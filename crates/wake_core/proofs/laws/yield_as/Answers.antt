-- The laws, from the lemmas on each part.
use Rattle.std.proofs.Common.{ap}
use Rattle.wake_core.specs.Plain.{Plain}
use Rattle.wake_core.proofs.Consisting.{yield_in, yield_consistent}
use Rattle.wake_core.proofs.Sounding.{yield_sound}
use Rattle.wake_core.proofs.Runs.{same_calls}
use Rattle.wake_core.proofs.laws.yield_as.Goals as goal

pub returns : goal.returns
returns k = record {
  held = yield_in;
  consistent = yield_consistent;
  sound = yield_sound;
  calls = λ p c state w v e. same_calls w v (ap (λ (u : Plain). u.calls) e.effect);
}
