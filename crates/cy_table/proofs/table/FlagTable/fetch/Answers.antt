-- The visitor goes back to its slot as it was, and the store of its door makes the call.
use Rattle.std.proofs.Common.{◌≤◌, [], ◌∷◌, length, Option, sym, ap, ◌∙◌, subst, arith}
use Rattle.std.specs.Option.{ForSome}
use Rattle.cy_fuse.specs.Visitor.{visited}
use Rattle.cy_comp.specs.Routine.{MayTake}
use Rattle.wake_core.specs.declared.entries.TheConstants.{MOST_PLANNED}
use Rattle.wake_core.specs.WorldOf.{plain_of}
use Rattle.cy_table.specs.declared.hold.Found.{Found}
use Rattle.cy_table.specs.Deeds as deed
use Rattle.cy_table.specs.Plays.{Thread, in_hand}
use Rattle.cy_table.specs.Hold.{with_found}
use Rattle.cy_table.specs.Sights.{thread_in}
use Rattle.cy_table.proofs.Marking.{since_as, since_on, allowed}
use Rattle.cy_table.proofs.Visits.{fetches}
use Rattle.cy_table.proofs.Slots.{exchanged, since_exchange}
use Rattle.cy_table.proofs.Resuming.{fetched_so}
use Rattle.cy_table.proofs.table.FlagTable.fetch.Goals as goal

pub store-requires : goal.store-requires
store-requires g c =
    let table = c.args.self.now.table.shared in
    let made = plain_of table.key.value in
    let old = thread_in c.args.pass.now.seat.me in
    let i = c.args.hold.now.component in
    let t = c.visit_at_last-visitor in
    let e = c.exchange-left.ensures in
    let p = exchanged t.new.pass.seat.me c.exchange-left.new.seat.me _ _ _ _ _ _ t.ensures.visiting.thread e.2 e.3 in (
      e.0 ∙ t.ensures.same.at.table,
      omega (arith, c.args.self.now.words, c.requires.holds.inside),
      allowed c.exchange-left.new.seat.me (fetches c.fetch_stores.ensures c.rooms_left.ensures made table.table_id.slots c.exchange-left.new.seat.id i t.result old.0 old.1 (thread_in c.exchange-left.new.seat.me) c.requires.visit.at.live c.requires.holds.hand c.requires.holds.croutine
          c.requires.asked c.requires.holds.inside p.1),
    )

pub invariant_of-hold : goal.invariant_of-hold
invariant_of-hold g c =
    let old = thread_in c.args.pass.now.seat.me in
    let h = c.args.hold.now in
    let t = c.visit_at_last-visitor in
    let e = c.exchange-left.ensures in
    let p = exchanged t.new.pass.seat.me c.exchange-left.new.seat.me _ _ _ _ _ _ t.ensures.visiting.thread e.2 e.3 in
    let found_is = c.try_fetch-found.ensures.found ∙ ap (λ n. visited n t.result) c.cursor-cursor.ensures in
    let same = c.requires.holds.routine ∙ ap (with_found h.routine) c.requires.stepped in
    let f = fetched_so old.0 h.component t.result old.1 (thread_in c.exchange-left.new.seat.me) (thread_in c.store.new.seat.me) h.routine c.try_fetch-found.result p.1 same found_is c.store.ensures.2.0 in
    let kept = sym c.kept-hold.ensures in
    record {
      fits = subst (λ (o : Option Found). ForSome o (λ (k : Found). MayTake h.routine k.tuple k.position)) kept f.fits;
      few = subst (λ (o : Option Found). length (with_found h.routine o).calls ≤ MOST_PLANNED) kept f.few;
    }

pub returns-clause-noted : goal.returns-clause-noted
returns-clause-noted g c =
    let t = c.visit_at_last-visitor in
    let e = c.exchange-left.ensures in
    let p = exchanged t.new.pass.seat.me c.exchange-left.new.seat.me _ _ _ _ _ _ t.ensures.visiting.thread e.2 e.3 in
    since_on _ _ _ _ _ (since_exchange [] _ t.new.pass.seat.me c.exchange-left.new.seat.me _ t.ensures.noted e.3) (since_as _ _ _ _ (ap (λ (m : Thread). deed.Fetch (in_hand m.0).croutine ∷ []) p.1 ∙ ap (λ n. deed.Fetch n ∷ []) c.requires.holds.croutine) c.store.ensures.2.1)
