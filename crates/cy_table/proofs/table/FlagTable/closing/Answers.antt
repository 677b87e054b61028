-- The load of the word that says whether the run is closing.
use Rattle.std.proofs.Common.{arith}
use Rattle.wake_core.specs.WorldOf.{plain_of}
use Rattle.cy_table.specs.Sights.{thread_in}
use Rattle.cy_table.proofs.Marking.{allowed}
use Rattle.cy_table.proofs.Words.{heeds}
use Rattle.cy_table.proofs.table.FlagTable.closing.Goals as goal

pub load-found-requires : goal.load-found-requires
load-found-requires c =
    let table = c.args.self.now.table.shared in
    let made = plain_of table.key.value in
    let seat = c.args.pass.now.seat in
    (c.requires.table, omega (arith, c.args.self.now.words), allowed seat.me (heeds c.closing_steps.ensures made table.table_id.slots seat.id (thread_in seat.me) c.requires.live))
