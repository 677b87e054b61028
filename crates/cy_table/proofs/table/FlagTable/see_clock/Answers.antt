-- The load of the clock.
use Rattle.std.proofs.Common.{arith}
use Rattle.wake_core.specs.WorldOf.{plain_of}
use Rattle.cy_table.specs.Sights.{thread_in}
use Rattle.cy_table.proofs.Marking.{allowed}
use Rattle.cy_table.proofs.Words.{sees}
use Rattle.cy_table.proofs.table.FlagTable.see_clock.Goals as goal

pub load-requires : goal.load-requires
load-requires c =
    let table = c.args.self.now.table.shared in
    let made = plain_of table.key.value in
    let seat = c.args.pass.now.seat in
    (c.requires.table, omega (arith, c.args.self.now.words), allowed seat.me (sees c.clock_steps.ensures made table.table_id.slots seat.id (thread_in seat.me) c.requires.live))
