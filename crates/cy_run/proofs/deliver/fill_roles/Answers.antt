use Rattle.std.proofs.Common.{rules}
use Rattle.cy_run.proofs.Filled.{can_fill}
use Rattle.cy_run.proofs.deliver.fill_roles.Goals as goal

pub fill-requires : goal.fill-requires
fill-requires g c = can_fill c.args.table.now c.args.token c.loop-role.pass c.args.component c.loop-role.role c.args.readers.now c.loop-role.invariant.0.fills c.requires.component c.loop-role-test.true
    (search rules) c.loop-role.invariant.1
