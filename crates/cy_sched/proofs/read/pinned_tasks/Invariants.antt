use Rattle.std.proofs.Common.{◌≡◌, map, take, codes}
use Rattle.cy_config.specs.Lookups.{messages_under}
use Rattle.cy_sched.specs.SchedFile.{pin_task_of}
use Rattle.cy_sched.proofs.read.pinned_tasks.Given as goal

abbrev pub invariant-loop-fields : goal.invariant-loop-fields
invariant-loop-fields l = record {
  made : l.tasks.items ≡ map pin_task_of (map (λ m. m.now) (take l.fields-index l.fields-items));
  shown : map (λ m. m.now) l.fields-items ≡ messages_under (codes "tasks") l.choreography;
}
