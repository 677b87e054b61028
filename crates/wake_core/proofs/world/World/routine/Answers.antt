use Rattle.std.proofs.Common.{◌<◌, length, arith}
use Rattle.wake_core.specs.WorldOf.{plain_of, to_step}
use Rattle.wake_core.specs.Fields.{no_routine}
use Rattle.wake_core.specs.Plain.{Ready}
use Rattle.wake_core.proofs.Reading.{read_is}
use Rattle.wake_core.proofs.Showing.{calls_stepped, routine_of}
use Rattle.wake_core.proofs.world.World.routine.Goals as goal

pub index-requires : goal.index-requires
unfolding plain_of
index-requires c = omega (arith, c.requires.component, c.args.self.now.sized.routines_fit)

pub returns : goal.returns
unfolding plain_of to_step
returns c =
    let routines = c.args.self.now.routines.items in
    let within : c.args.component < length routines = omega (arith, c.requires.component, c.args.self.now.sized.routines_fit) in
    routine_of (plain_of c.args.self.now) c.args.component c.index.result.now (read_is (λ r. r) no_routine routines c.args.component c.index.result.now within c.index.ensures)
    (read_is (λ r. r.state) Ready routines c.args.component c.index.result.now within c.index.ensures) (calls_stepped routines c.args.self.now.found.items c.args.component c.requires.stepped) c.args.self.now.waiting
