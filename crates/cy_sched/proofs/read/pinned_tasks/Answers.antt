use Rattle.cy_sched.specs.SchedFile.{pin_task_of}
use Rattle.cy_config.proofs.Loops.{mapped_more}
use Rattle.cy_sched.proofs.read.pinned_tasks.Goals as goal

pub loop-fields-preserved : goal.loop-fields-preserved
loop-fields-preserved c = record {
  made = mapped_more pin_task_of c.deref-fields-items.result.now c.loop-fields.fields-index c.fields-item.result c.loop-fields.tasks.items _ c.in_ok-pinned_task.field-0
      c.loop-fields-test.true c.fields-item.is c.loop-fields.invariant.made c.in_ok-pinned_task.ensures c.in_ok-push.ensures.items;
  shown = c.loop-fields.invariant.shown;
}
