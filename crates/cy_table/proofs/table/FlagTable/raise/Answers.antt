-- The player's store of the stop word.
use Rattle.std.proofs.Common.{◌∙◌, ap, true, arith}
use Rattle.wake_core.specs.WorldOf.{plain_of}
use Rattle.cy_table.specs.Layout.{stop_number}
use Rattle.cy_table.specs.Sights.{thread_in}
use Rattle.cy_table.proofs.Marking.{allowed}
use Rattle.cy_table.proofs.Words.{raises}
use Rattle.cy_table.proofs.table.FlagTable.raise.Goals as goal

pub store-requires : goal.store-requires
store-requires c =
    let table = c.args.self.now.table.shared in
    let made = plain_of table.key.value in
    let seat = c.args.pass.now.seat in
    let number = c.stop_number-number.ensures ∙ ap (λ o. stop_number o true) (c.stop.ensures ∙ c.args.self.now.given) in (
      c.requires.at.table,
      omega (arith, c.args.self.now.words, c.stop_word.ensures),
      allowed seat.me (raises c.stop_stores.ensures made table.table_id.slots seat.id c.stop_word.result c.stop_number-number.result (thread_in seat.me) c.requires.at.live c.requires.player c.requires.may c.stop_word.ensures number),
    )
