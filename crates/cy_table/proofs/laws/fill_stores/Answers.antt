-- The store of a visitor's door after a fill, by the law of Fill.
use Rattle.cy_table.proofs.Filling.{fill_becomes}
use Rattle.cy_table.proofs.laws.fill_stores.Goals as goal

pub returns : goal.returns
returns k = record { fill = λ r w s id v a j later out sits has first less. fill_becomes r w s id v sits a j later has first less out (k.fill.ensures.sound id a.component j) }
