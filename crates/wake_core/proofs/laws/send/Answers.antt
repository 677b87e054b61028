-- The laws, from the lemmas on each part.
use Rattle.std.proofs.Common.{ap}
use Rattle.wake_core.specs.Plain.{Plain}
use Rattle.wake_core.proofs.Taping.{send_in, send_consistent, send_all}
use Rattle.wake_core.proofs.Sounding.{send_sound}
use Rattle.wake_core.proofs.Runs.{same_calls}
use Rattle.wake_core.proofs.laws.send.Goals as goal

pub returns : goal.returns
returns k = record {
  held = send_in;
  consistent = send_consistent;
  all = λ p c next t w held is s. send_all p c next t w held is s;
  sound = send_sound;
  calls = λ p c next t w v e. same_calls w v (ap (λ (u : Plain). u.calls) e.effect);
}
