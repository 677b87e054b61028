-- The player's store of the clock.
use Rattle.std.proofs.Common.{arith}
use Rattle.wake_core.specs.WorldOf.{plain_of}
use Rattle.cy_table.specs.Sights.{thread_in}
use Rattle.cy_table.proofs.Marking.{allowed}
use Rattle.cy_table.proofs.Words.{ticks}
use Rattle.cy_table.proofs.table.FlagTable.tick.Goals as goal

pub store-requires : goal.store-requires
store-requires c =
    let table = c.args.self.now.table.shared in
    let made = plain_of table.key.value in
    let seat = c.args.pass.now.seat in
    (c.requires.at.table, omega (arith, c.args.self.now.words), allowed seat.me (ticks c.clock_steps.ensures made table.table_id.slots seat.id c.args.time (thread_in seat.me) c.requires.at.live c.requires.player c.requires.later))
