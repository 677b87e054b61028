use Rattle.std.proofs.Common.{rules}
use Rattle.cy_ctx.proofs.Scans.{passes_at, takes_at}
use Rattle.cy_ctx.proofs.context.Context.next.Goals as goal

pub returns-in-Some-clause-some : goal.returns-in-Some-clause-some
returns-in-Some-clause-some c = takes_at c.args.table.now c.args.self.now c.as_slice-component-items.result.now c.loop-component.component-index c.args.pass.now c.loop-component.pass
    c.take.new.pass c.in-Some.hold (search rules) c.loop-component-test.true c.loop-component.invariant.1 c.in-Some.ensures.some

pub loop-component-preserved : goal.loop-component-preserved
loop-component-preserved c = (
  search rules,
  passes_at c.args.self.now c.as_slice-component-items.result.now c.loop-component.component-index c.args.pass.now c.loop-component.pass c.take.new.pass (search rules) c.loop-component-test.true
      c.loop-component.invariant.1 c.in_default.ensures.none,
)
