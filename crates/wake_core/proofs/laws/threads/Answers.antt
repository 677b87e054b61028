-- The laws, from the lemmas on each part.
use Rattle.wake_core.proofs.Runs.{idle_held, idle_consistent, idle_sound, replaced_sound}
use Rattle.wake_core.proofs.laws.threads.Goals as goal

pub returns : goal.returns
returns k = record {
  held = idle_held;
  consistent = idle_consistent;
  sound = idle_sound;
  replaced = replaced_sound;
}
