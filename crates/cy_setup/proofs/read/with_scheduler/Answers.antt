use Rattle.std.proofs.Common.{option_map}
use Rattle.cy_setup.proofs.Joined.{sched_read, sched_stops}
use Rattle.cy_setup.proofs.read.with_scheduler.Goals as goal

pub returns-in-Ok-clause-comes : goal.returns-in-Ok-clause-comes
returns-in-Ok-clause-comes g c = sched_read _ (option_map (λ n. n.now) c.args.sched) _ _ c.in-Ok.ensures.comes

pub returns-in-Err-clause-comes : goal.returns-in-Err-clause-comes
returns-in-Err-clause-comes g c = sched_stops c.args.dag c.args.configs (option_map (λ n. n.now) c.args.sched) _ _ c.in-Err.error c.in-Err.ensures.comes
