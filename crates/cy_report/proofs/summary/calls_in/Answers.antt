use Rattle.std.proofs.Common.{rules, length, ap, ◌∙◌, arith}
use Rattle.wake_core.specs.Rest.{run_shown}
use Rattle.wake_core.specs.WorldOf.{plain_of}
use Rattle.cy_report.proofs.CallCounts.{calls_more}
use Rattle.cy_report.proofs.summary.calls_in.Goals as goal

pub loop-component-preserved : goal.loop-component-preserved
loop-component-preserved c =
    calls_more (run_shown (plain_of c.args.world.now)) c.args.plans.now c.loop-component.component c.loop-component.count c.len.result c.loop-component.invariant (search rules)
    (c.len.ensures ∙ ap length c.calls_of.ensures) (omega (arith, c.len.type_inv))
