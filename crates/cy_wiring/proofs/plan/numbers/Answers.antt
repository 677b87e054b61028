use Rattle.std.proofs.lemmas.List.{take_all}
use Rattle.std.proofs.Common.{List, ℕ, ap, ◌∙◌, map}
use Rattle.cy_wiring.specs.Wiring.{number_in}
use Rattle.cy_config.proofs.Loops.{pushed_more}
use Rattle.cy_dag.specs.declared.dag.DagReader.{DagReader}
use Rattle.cy_wiring.proofs.plan.numbers.Goals as goal

pub loop-reader-preserved : goal.loop-reader-preserved
loop-reader-preserved c =
    let names = c.args.names.now in
    pushed_more (λ r. number_in names r.channel) c.args.readers.now c.loop-reader.reader-index c.reader-item.result c.loop-reader.numbers.items c.push.new.self.items _
    c.loop-reader-test.true c.reader-item.is c.loop-reader.invariant (c.number_in.ensures ∙ ap (λ (n : List ℕ). number_in names n) c.as_str.ensures.value) c.in_ok-push.ensures.items

pub returns : goal.returns
returns c = c.loop-reader.invariant ∙ ap (map (λ (r : DagReader). number_in c.args.names.now r.channel)) (take_all c.loop-reader.reader-index c.args.readers.now c.loop-reader-test.false)
