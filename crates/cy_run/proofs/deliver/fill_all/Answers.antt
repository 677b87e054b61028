use Rattle.std.proofs.Common.{rules, ◌∙◌}
use Rattle.cy_run.proofs.Filled.{read_by, fill_begin}
use Rattle.cy_run.proofs.deliver.fill_all.Goals as goal

pub fill_roles-requires-clause-component : goal.fill_roles-requires-clause-component
fill_roles-requires-clause-component g c = read_by c.args.table.now c.args.wiring.now.plans c.as_slice-plan-items.result.now c.loop-component.component c.plan-item.result c.as_slice-readers.result.now c.requires.made
    (search rules) c.loop-component-test.true c.plan-item.is (search rules)

pub fill_roles-requires-clause-first : goal.fill_roles-requires-clause-first
fill_roles-requires-clause-first g c = c.loop-component.invariant.1 ∙ fill_begin c.args.table.now c.args.token c.loop-component.component c.as_slice-readers.result.now
    (read_by c.args.table.now c.args.wiring.now.plans c.as_slice-plan-items.result.now c.loop-component.component c.plan-item.result c.as_slice-readers.result.now c.requires.made
    (search rules) c.loop-component-test.true c.plan-item.is (search rules))
