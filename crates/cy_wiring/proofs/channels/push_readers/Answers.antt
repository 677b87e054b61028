use Rattle.std.proofs.lemmas.List.{take_all}
use Rattle.std.proofs.Common.{map, List, ◌++◌, ap, ◌∙◌}
use Rattle.cy_dag.specs.declared.dag.DagReader.{DagReader}
use Rattle.cy_config.proofs.Loops.{shown_more}
use Rattle.cy_wiring.proofs.channels.push_readers.Goals as goal

pub loop-reader-preserved : goal.loop-reader-preserved
loop-reader-preserved c =
    shown_more (λ (r : DagReader). r.channel) c.args.readers.now c.loop-reader.reader-index c.reader-item.result (map (λ m. m.now) c.args.mentions.now.items) c.loop-reader.mentions.items
    c.push.new.self.items _ c.loop-reader-test.true c.reader-item.is c.loop-reader.invariant c.as_str.ensures.value c.in_ok-push.ensures.items

pub returns : goal.returns
returns c =
    c.loop-reader.invariant
    ∙ ap (λ (rs : List DagReader). map (λ m. m.now) c.args.mentions.now.items ++ map (λ r. r.channel) rs) (take_all c.loop-reader.reader-index c.args.readers.now c.loop-reader-test.false)
