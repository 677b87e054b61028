-- The laws, from the lemmas on each part.
use Rattle.std.proofs.Common.{ap, ◌∙◌}
use Rattle.wake_core.specs.Plain.{lists_reader}
use Rattle.wake_core.proofs.Readers.{lists_reader_first}
use Rattle.wake_core.proofs.Totals.{output_room, message_total, arrival_room, call_in_room}
use Rattle.wake_core.proofs.laws.room.Goals as goal

pub returns : goal.returns
returns k = record {
  output = output_room;
  message = message_total;
  next_arrival = λ w p v j later x first at s. arrival_room w p v j x (ap (lists_reader v j) first ∙ lists_reader_first v j later) at s;
  call = call_in_room k.fetches_find.ensures.find;
}
