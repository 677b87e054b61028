-- The laws, from the lemmas on each part.
use Rattle.std.proofs.Common.{ap}
use Rattle.wake_core.specs.Plain.{Plain}
use Rattle.wake_core.proofs.Taping.{tape_in, tape_consistent}
use Rattle.wake_core.proofs.Sounding.{tape_sound}
use Rattle.wake_core.proofs.Runs.{same_calls}
use Rattle.wake_core.proofs.laws.tape.Goals as goal

pub returns : goal.returns
returns k = record {
  held = tape_in;
  consistent = tape_consistent;
  sound = tape_sound;
  calls = λ t w v e. same_calls w v (ap (λ (u : Plain). u.calls) e.effect);
}
