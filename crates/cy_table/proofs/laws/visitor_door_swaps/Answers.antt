-- The swap of a visitor's door.
use Rattle.std.proofs.Common.{◌+◌, ◌*◌}
use Rattle.cy_table.proofs.Places.{word_is, is_word}
use Rattle.cy_table.proofs.Doors.{enter_visitor, visitor_shut}
use Rattle.cy_table.proofs.laws.visitor_door_swaps.Goals as goal

pub returns : goal.returns
returns k = record {
  open_door = λ r w s id c v out sits less bare free. enter_visitor r w s id v sits c less bare (word_is s (4 * c + 7) 0 free) out;
  shut_door = λ r w s id c v out sits less shut. visitor_shut r w s id v sits c less (λ z. shut (is_word s (4 * c + 7) 0 z)) out;
}
