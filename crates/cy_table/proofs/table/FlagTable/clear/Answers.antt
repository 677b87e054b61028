-- The store of a flag.
use Rattle.std.proofs.Common.{[], ◌∷◌, ap, ◌∙◌, arith}
use Rattle.wake_core.specs.WorldOf.{plain_of}
use Rattle.cy_table.specs.Sights.{thread_in}
use Rattle.cy_table.specs.Deeds as deed
use Rattle.cy_table.specs.Plays.{but_last, last_number}
use Rattle.cy_table.proofs.Marking.{since_as, allowed}
use Rattle.cy_table.proofs.Words.{clears, last_number_is}
use Rattle.cy_table.proofs.table.FlagTable.clear.Goals as goal

pub store-requires : goal.store-requires
store-requires c =
    let table = c.args.self.now.table.shared in
    let made = plain_of table.key.value in
    let seat = c.args.pass.now.seat in
    (c.requires.at.table, omega (arith, c.args.self.now.words, c.requires.inside), allowed seat.me (clears c.flag_stores.ensures made table.table_id.slots seat.id c.args.component (thread_in seat.me) c.requires.at.live c.requires.last c.requires.inside))

pub returns-clause-noted : goal.returns-clause-noted
returns-clause-noted c =
    let clearing = c.args.pass.now.seat.me.0.seat.clearing in
    let last = ap last_number c.requires.last ∙ last_number_is (but_last clearing) c.args.component in
    since_as _ _ _ _ (ap (λ n. deed.Clear n ∷ []) last) c.store.ensures.2.1
