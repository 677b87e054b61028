-- The laws, from the lemmas on what a fetch makes.
use Rattle.std.proofs.Common.{refl}
use Rattle.wake_core.proofs.Fetched.{next_visited}
use Rattle.wake_core.proofs.FoundBounds.{found_messages, found_position, planned_kept}
use Rattle.wake_core.proofs.laws.found.Goals as goal

pub returns : goal.returns
returns k = record {
  messages = found_messages;
  position = found_position k.fetches_find.ensures.find;
  planned = planned_kept;
  visitor = λ w c x r v shows at some s. next_visited k.fetches_find.ensures.find w c (w.cursors c) x r v at shows.kind shows.calls shows.arrivals shows.roles shows.queue shows.overflow some refl s;
}
