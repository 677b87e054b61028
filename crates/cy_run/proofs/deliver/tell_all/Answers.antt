use Rattle.std.proofs.Common.{rules}
use Rattle.cy_run.proofs.Filled.{read_by, look_at, looked_at, passed_over}
use Rattle.cy_run.proofs.deliver.tell_all.Goals as goal
use Rattle.cy_run.proofs.deliver.tell_all.Goals.{then-triggers, else-triggers}

pub look_and_clear-requires : goal.look_and_clear-requires
look_and_clear-requires c = look_at c.args.table.now c.args.channel c.loop-component.pass c.loop-component.component c.as_slice.result.now c.loop-component.invariant.0
    (read_by c.args.table.now c.args.wiring.now.plans c.as_slice-plan-items.result.now c.loop-component.component c.plan-item.result c.as_slice.result.now c.requires.made
    (search rules) c.loop-component-test.true c.plan-item.is (search rules))
    (search rules) c.loop-component.invariant.2

pub loop-component-preserved : goal.loop-component-preserved
loop-component-preserved c = let r = read_by c.args.table.now c.args.wiring.now.plans c.as_slice-plan-items.result.now c.loop-component.component c.plan-item.result c.as_slice.result.now c.requires.made
    (search rules) c.loop-component-test.true c.plan-item.is (search rules) in elim c.if-triggers.branch [
      | then-triggers w ↦ rw w.pass-is (looked_at c.args.table.now c.args.channel c.args.pass.now c.loop-component.pass w.look_and_clear.new.pass c.loop-component.component c.as_slice.result.now
          c.loop-component.invariant.0 c.loop-component.invariant.1 r (search rules) c.loop-component.invariant.2 w.look_and_clear.ensures.same w.look_and_clear.ensures.thread)
      | else-triggers w ↦ rw w.pass-is (
        c.loop-component.invariant.0,
        c.loop-component.invariant.1,
        passed_over c.args.table.now c.args.channel c.loop-component.component c.as_slice.result.now (Rattle.cy_table.specs.Calls.seat_of c.loop-component.pass).news r (search rules) c.loop-component.invariant.2,
      )
    ]
