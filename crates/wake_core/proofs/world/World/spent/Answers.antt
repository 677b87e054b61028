use Rattle.std.proofs.Common.{◌<◌, length, sym, true, arith}
use Rattle.wake_core.specs.WorldOf.{plain_of}
use Rattle.wake_core.proofs.Reading.{read_is}
use Rattle.wake_core.proofs.world.World.spent.Goals as goal

pub index-requires : goal.index-requires
unfolding plain_of
index-requires c = omega (arith, c.requires, c.args.self.now.sized.spent_fit)

pub returns : goal.returns
unfolding plain_of
returns c =
    let within : c.args.component < length c.args.self.now.spent.items = omega (arith, c.requires, c.args.self.now.sized.spent_fit) in
    sym (read_is (λ b. b) true c.args.self.now.spent.items c.args.component c.index.result.now within c.index.ensures)
