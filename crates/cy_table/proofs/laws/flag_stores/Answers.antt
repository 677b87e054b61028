-- The store of a flag, by the law of Clear.
use Rattle.cy_table.proofs.Telling.{clear_becomes}
use Rattle.cy_table.proofs.laws.flag_stores.Goals as goal

pub returns : goal.returns
returns k = record { clear = λ r w s id v c before behind out sits is less. clear_becomes r w s id v sits c before behind is less out (k.clear.ensures.sound id c) }
