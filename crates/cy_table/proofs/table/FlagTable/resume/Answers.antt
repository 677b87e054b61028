-- The load of the stop word.
use Rattle.std.proofs.Common.{arith}
use Rattle.wake_core.specs.WorldOf.{plain_of}
use Rattle.cy_table.specs.Sights.{thread_in}
use Rattle.cy_table.proofs.Marking.{allowed}
use Rattle.cy_table.proofs.Words.{checks}
use Rattle.cy_table.proofs.table.FlagTable.resume.Goals as goal

pub load-found-requires : goal.load-found-requires
load-found-requires c =
    let table = c.args.self.now.table.shared in
    let made = plain_of table.key.value in
    let seat = c.args.pass.now.seat in (
      c.requires.at.table,
      omega (arith, c.args.self.now.words, c.stop_word.ensures),
      allowed seat.me (checks c.stop_loads.ensures made table.table_id.slots seat.id c.stop_word.result (thread_in seat.me) c.requires.at.live c.requires.holds.hand c.requires.may c.stop_word.ensures),
    )
