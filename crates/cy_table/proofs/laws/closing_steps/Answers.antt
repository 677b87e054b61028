-- The load and the store of closing, by the law of Close.
use Rattle.cy_table.proofs.Telling.{closing_seen, closing_is, close_becomes}
use Rattle.cy_table.proofs.laws.closing_steps.Goals as goal

pub returns : goal.returns
returns k = record {
  load = λ r w s id v out sits. closing_seen r w s id v sits out;
  is_true = λ r w s id v sits. closing_is r w s id v sits;
  close = λ r w s v out sits may. close_becomes r w s v sits may out k.close.ensures.sound;
}
