-- The store of a hold word, by the law of Release.
use Rattle.cy_table.proofs.Holding.{release_becomes}
use Rattle.cy_table.proofs.laws.hold_stores.Goals as goal

pub returns : goal.returns
returns k = record { release = λ r w s id v g out sits e may. release_becomes r w s id v sits g e may out (k.release.ensures.sound id g.croutine) }
