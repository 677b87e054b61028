use Rattle.std.proofs.Common.{◌-◌}
use Rattle.cy_cut.proofs.CutTo.{IsCutTo}
use Rattle.cy_cut.proofs.cutting.cut_file.Given as goal

abbrev pub invariant-loop-window : goal.invariant-loop-window
invariant-loop-window g l = IsCutTo l.name l.size l.at l.first l.heads.items l.parts.items l.window (g.S.Store.shows l.fn.store) (g.S.Store.shows l.store)

abbrev pub decreases-loop-window : goal.decreases-loop-window
decreases-loop-window g l = l.size - l.at
