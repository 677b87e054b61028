-- The laws, from the lemmas on each part.
use Rattle.wake_core.proofs.Sounding.{fetched_in, fetched_consistent, fetch_sound}
use Rattle.wake_core.proofs.Runs.{fetch_calls}
use Rattle.wake_core.proofs.laws.fetch.Goals as goal

pub returns : goal.returns
returns k = record {
  held = fetched_in;
  consistent = fetched_consistent k.fetches_find.ensures.find;
  sound = fetch_sound k.fetches_find.ensures.find;
  calls = fetch_calls;
}
