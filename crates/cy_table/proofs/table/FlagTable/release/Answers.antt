-- The routine goes back to its slot, and the store of the hold word gives it home.
use Rattle.std.proofs.Common.{[], ◌∷◌, ap, ◌∙◌, arith}
use Rattle.wake_core.specs.WorldOf.{plain_of}
use Rattle.cy_table.specs.Deeds as deed
use Rattle.cy_table.specs.Plays.{Thread, in_hand}
use Rattle.cy_table.specs.Hold.{with_found}
use Rattle.cy_table.specs.Sights.{thread_in}
use Rattle.cy_table.proofs.Marking.{since_as, since_on, since_still, allowed}
use Rattle.cy_table.proofs.Allowing.{releases_as}
use Rattle.cy_table.proofs.Slots.{put_back, since_exchange}
use Rattle.cy_table.proofs.table.FlagTable.release.Goals as goal

pub store-requires : goal.store-requires
store-requires c =
    let table = c.args.self.now.table.shared in
    let made = plain_of table.key.value in
    let e = c.exchange-left.ensures in
    let old = c.args.pass.now.seat.me in
    let h = c.args.hold in
    let p = put_back old c.exchange-left.new.seat.me _ _ _ _ _ c.requires.holds.out e.2 e.3 in (
      e.0 ∙ c.requires.at.table,
      omega (arith, c.args.self.now.words, c.requires.holds.inside),
      allowed c.exchange-left.new.seat.me (releases_as c.hold_stores.ensures made table.table_id.slots c.exchange-left.new.seat.id h.component h.routine old.0.seat (in_hand old.0.seat) (thread_in c.exchange-left.new.seat.me) c.requires.at.live c.requires.holds.hand c.requires.may
          c.requires.holds.croutine (c.requires.holds.routine ∙ ap (with_found h.routine) c.requires.stepped) p.1),
    )

pub returns-clause-noted : goal.returns-clause-noted
returns-clause-noted c =
    let e = c.exchange-left.ensures in
    let old = c.args.pass.now.seat.me in
    let p = put_back old c.exchange-left.new.seat.me _ _ _ _ _ c.requires.holds.out e.2 e.3 in
    let of = ap (λ (m : Thread). (in_hand m.0).croutine) p.1 ∙ c.requires.holds.croutine in
    since_on _ _ _ _ _ (since_exchange [] _ old c.exchange-left.new.seat.me _ (since_still _) e.3) (since_as _ _ _ _ (ap (λ n. deed.Release n ∷ []) of) c.store.ensures.2.1)
