-- The store of what a croutine is to do next.
use Rattle.std.proofs.Common.{sym, ap, ◌∙◌, arith}
use Rattle.wake_core.specs.WorldOf.{plain_of}
use Rattle.cy_table.specs.Layout.{state_number}
use Rattle.cy_table.specs.Sights.{thread_in}
use Rattle.cy_table.proofs.Marking.{allowed}
use Rattle.cy_table.proofs.Allowing.{yields}
use Rattle.cy_table.proofs.table.FlagTable.yield_as.Goals as goal

pub store-requires : goal.store-requires
store-requires c =
    let table = c.args.self.now.table.shared in
    let made = plain_of table.key.value in
    let seat = c.args.pass.now.seat in (
      c.requires.at.table,
      omega (arith, c.args.self.now.words, c.requires.holds.inside),
      allowed seat.me (yields c.state_stores.ensures made table.table_id.slots seat.id c.args.hold.now.component c.state_number-number.result (thread_in seat.me) c.requires.at.live c.requires.holds.hand c.requires.holds.croutine
          (sym (c.state_number-number.ensures ∙ ap state_number c.requires.next)) c.requires.may),
    )
