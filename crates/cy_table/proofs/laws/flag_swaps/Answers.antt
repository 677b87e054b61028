-- The swap of a flag, by the law of Spend.
use Rattle.cy_table.proofs.Telling.{spend_becomes}
use Rattle.cy_table.proofs.laws.flag_swaps.Goals as goal

pub returns : goal.returns
returns k = record { spend = λ r w s id v g out sits e may. spend_becomes r w s id v sits g e may out (k.spend.ensures.sound id g.croutine v.clock) }
