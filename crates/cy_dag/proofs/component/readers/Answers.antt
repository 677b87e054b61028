use Rattle.cy_dag.specs.DagFile.{reader_of}
use Rattle.cy_config.proofs.Loops.{mapped_more}
use Rattle.cy_dag.proofs.component.readers.Goals as goal

pub loop-fields-preserved : goal.loop-fields-preserved
loop-fields-preserved c = record {
  made = mapped_more reader_of c.deref-fields-items.result.now c.loop-fields.fields-index c.fields-item.result c.loop-fields.readers.items _ c.in_ok-reader.field-0
      c.loop-fields-test.true c.fields-item.is c.loop-fields.invariant.made c.in_ok-reader.ensures c.in_ok-push.ensures.items;
  shown = c.loop-fields.invariant.shown;
}
