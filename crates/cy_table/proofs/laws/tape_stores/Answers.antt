-- The stores of the tape's door, by the laws of the tape.
use Rattle.cy_table.proofs.Sending.{tape_becomes, send_becomes, number_known}
use Rattle.cy_table.proofs.laws.tape_stores.Goals as goal

pub returns : goal.returns
returns k = record {
  play = λ r w s v x t out sits has may. tape_becomes r w s v sits x t has may out (k.tape.ensures.sound t) k.put.ensures;
  send = λ r w s id v g x o out sits e has pends may. send_becomes r w s id v sits g x o e has pends may out
      k.send.ensures k.unsent.ensures k.put.ensures;
  number = λ r w s id v g o sits e pends. number_known r w s id v sits k.unsent.ensures g o e pends;
}
