-- The swap of the tape's door.
use Rattle.cy_table.proofs.Places.{word_is, is_word}
use Rattle.cy_table.proofs.Doors.{enter_tape, tape_shut}
use Rattle.cy_table.proofs.laws.tape_door_swaps.Goals as goal

pub returns : goal.returns
returns k = record {
  open_door = λ r w s id v out sits bare free. enter_tape r w s id v sits bare (word_is s 3 0 free) out;
  shut_door = λ r w s id v out sits shut. tape_shut r w s id v sits (λ z. shut (is_word s 3 0 z)) out;
}
