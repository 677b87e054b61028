use Rattle.std.proofs.Common.{List, ℕ, ap, sym, ◌++◌, ◌∙◌}
use Rattle.cy_report.specs.CheckText.{unknown_lines}
use Rattle.cy_dag.specs.declared.config.Config.{Config}
use Rattle.cy_report.proofs.Pairs.{lines_more}
use Rattle.cy_report.proofs.lines.push_configs.Goals as goal

pub loop-place-preserved : goal.loop-place-preserved
loop-place-preserved c =
    let before = c.loop-place.to.items in
    let file = ap (λ (f : List ℕ). before ++ unknown_lines f c.as_slice.result.now) c.as_str-file.ensures.value in
    let paths = ap (λ (ps : List (List ℕ)). before ++ unknown_lines c.index-components-place.result.config_file_path ps) (c.as_slice.ensures ∙ ap (λ (x : Config). x.unknown) (sym c.index-configs-place.is)) in
    lines_more (λ p. unknown_lines p.0.config_file_path p.1.unknown) c.args.components.now c.args.configs.now c.loop-place.place c.index-components-place.result c.index-configs-place.result
    c.args.to.now.items before c.push_unknown.new.to.items c.loop-place-test.true c.requires c.index-components-place.is c.index-configs-place.is c.loop-place.invariant
    (c.in_ok-push_unknown.ensures ∙ file ∙ paths)
