-- The laws, from the lemmas on each part.
use Rattle.wake_core.proofs.Runs.{opening_sound, events_sound, events_calls, none_lost}
use Rattle.wake_core.proofs.laws.run.Goals as goal

pub returns : goal.returns
returns k = record {
  opening = opening_sound;
  sound = events_sound k.fetches_find.ensures.find;
  none_lost = none_lost;
  one_holder = λ w h. h.one;
  calls = events_calls;
}
