-- The laws, from the lemmas on each part.
use Rattle.std.proofs.Common.{ap}
use Rattle.wake_core.specs.Plain.{Plain}
use Rattle.wake_core.proofs.Consisting.{ready_in, ready_consistent}
use Rattle.wake_core.proofs.Sounding.{ready_sound}
use Rattle.wake_core.proofs.Runs.{same_calls}
use Rattle.wake_core.proofs.laws.ready.Goals as goal

pub returns : goal.returns
returns k = record {
  held = ready_in;
  consistent = ready_consistent;
  sound = ready_sound;
  calls = λ p c w v e. same_calls w v (ap (λ (u : Plain). u.calls) e.effect);
}
