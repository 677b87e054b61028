use Rattle.cy_report.specs.CheckText.{lines_of}
use Rattle.cy_report.proofs.Pairs.{lines_more}
use Rattle.cy_report.proofs.lines.push_components.Goals as goal

pub loop-place-preserved : goal.loop-place-preserved
loop-place-preserved c =
    lines_more (λ p. lines_of p.0 p.1) c.args.components.now c.args.configs.now c.loop-place.place c.index-components-place.result c.index-configs-place.result c.args.to.now.items c.loop-place.to.items
    c.push_lines.new.to.items c.loop-place-test.true c.requires c.index-components-place.is c.index-configs-place.is c.loop-place.invariant c.in_ok-push_lines.ensures
