use Rattle.std.proofs.Common.{rules, get_or}
use Rattle.cy_run.specs.Running.{plans_of}
use Rattle.cy_run.proofs.Posted.{counted, posted_on}
use Rattle.cy_run.proofs.run.crew_of.Goals as goal

pub loop-plan-preserved : goal.loop-plan-preserved
loop-plan-preserved c = let i = c.loop-plan.plan in let d = c.index-plans-plan.result in let n = c.args.threads in (
  search rules,
  search rules,
  posted_on n c.args.plans.now i c.min-count.result d (plans_of c.loop-plan.crew.items) (plans_of c.add_workers.new.crew.items) c.loop-plan-test.true c.loop-plan.invariant.2
      (counted c.loop-plan.crew.items n (get_or c.args.plans.now i d).processors c.min-count.result c.len-hired.result (search rules) (search rules)) (search rules),
)
