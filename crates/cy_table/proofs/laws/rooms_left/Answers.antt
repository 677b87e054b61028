-- Room, by the laws of room.
use Rattle.cy_table.proofs.Leaving.{send_room, play_room, fill_room, calls_kept, fetch_fits}
use Rattle.cy_table.proofs.laws.rooms_left.Goals as goal

pub returns : goal.returns
returns k = record {
  send = λ r w s id v g o sits e pends. send_room r w s id v sits k.room.ensures g o e pends;
  play = λ r w s v t sits may. play_room r w s v sits k.room.ensures t may;
  fill = λ r w s id v c j later sits first inside. fill_room r w s id v sits k.room.ensures c j later first inside;
  calls = λ r w s c rules inside. calls_kept k.found.ensures r w s c rules inside;
  fetch = λ r w s id v g a f sits e asked has one is. fetch_fits r w s id v sits k.room.ensures k.found.ensures k.unsent.ensures g a f e asked has one is;
}
