-- The swap of a flag.
use Rattle.std.proofs.Common.{arith}
use Rattle.wake_core.specs.WorldOf.{plain_of}
use Rattle.cy_table.specs.Sights.{thread_in}
use Rattle.cy_table.proofs.Marking.{allowed}
use Rattle.cy_table.proofs.Updating.{spends}
use Rattle.cy_table.proofs.table.FlagTable.spend.Goals as goal

pub swap-found-requires : goal.swap-found-requires
swap-found-requires c =
    let table = c.args.self.now.table.shared in
    let made = plain_of table.key.value in
    let seat = c.args.pass.now.seat in
    (c.requires.at.table, omega (arith, c.args.self.now.words, c.requires.holds.inside), allowed seat.me (spends c.flag_swaps.ensures made table.table_id.slots seat.id c.args.hold.now.component (thread_in seat.me) c.requires.at.live c.requires.holds.hand c.requires.holds.croutine c.requires.may))
