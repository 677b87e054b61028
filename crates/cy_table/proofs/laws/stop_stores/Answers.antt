-- The store of the stop word, by the law of Stop.
use Rattle.cy_table.proofs.Raising.{stop_becomes}
use Rattle.cy_table.proofs.laws.stop_stores.Goals as goal

pub returns : goal.returns
returns k = record { stop = λ r w s v out sits may. stop_becomes r w s v sits may out k.stop.ensures.sound }
