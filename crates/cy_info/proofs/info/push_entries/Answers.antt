use Rattle.std.proofs.Common.{Bool, ap, ◌++◌, ◌∙◌}
use Rattle.cy_info.specs.Info.{entry_line}
use Rattle.cy_info.specs.private.Facts.{placed_line}
use Rattle.cy_info.proofs.Telling.{numbered-more}
use Rattle.cy_info.proofs.info.push_entries.Goals as goal

pub loop-number-preserved : goal.loop-number-preserved
loop-number-preserved c =
    let before = c.loop-number.to.items in
    let entry = c.index-entries-number.result in
    numbered-more (placed_line c.args.places.now) c.args.entries.now c.loop-number.number entry c.args.to.now.items before c.push_entry.new.to.items c.loop-number-test.true c.index-entries-number.is c.loop-number.invariant
    (c.in_ok-push_entry.ensures ∙ ap (λ (b : Bool). before ++ entry_line c.loop-number.number entry b) c.has_head.ensures)
