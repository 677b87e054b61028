-- The visitor goes back to its slot with one arrival more, and the store of its door gives it home.
use Rattle.std.proofs.Common.{ℕ, ◌+◌, ◌*◌, List, [], ◌∷◌, ap, ◌∙◌, arith}
use Rattle.cy_fuse.specs.Visitor.{VisitorView, arrived}
use Rattle.wake_core.specs.WorldOf.{plain_of}
use Rattle.cy_table.specs.declared.part.Part.TheVariants as part
use Rattle.cy_table.specs.Steps.{visiting}
use Rattle.cy_table.specs.Deeds as deed
use Rattle.cy_table.specs.Plays.{Thread, first_fill}
use Rattle.cy_table.specs.Sights.{thread_in}
use Rattle.cy_table.proofs.Marking.{since_as, since_on, allowed}
use Rattle.cy_table.proofs.Visits.{fills}
use Rattle.cy_table.proofs.Slots.{exchanged, since_exchange}
use Rattle.cy_table.proofs.table.FlagTable.fill.Goals as goal

pub store-requires : goal.store-requires
store-requires g c =
    let table = c.args.self.now.table.shared in
    let made = plain_of table.key.value in
    let old = thread_in c.args.pass.now.seat.me in
    let i = c.args.component in
    let t = c.visit_at_last-visitor in
    let e = c.exchange-left.ensures in
    let x = t.result in
    let p = exchanged t.new.pass.seat.me c.exchange-left.new.seat.me _ _ _ _ _ _ t.ensures.visiting.thread e.2 e.3 in
    let b = c.arrive.ensures ∙ ap (arrived x c.args.role) c.requires.message in (
      e.0 ∙ t.ensures.same.at.table,
      omega (arith, c.args.self.now.words, c.requires.visit.inside),
      allowed c.exchange-left.new.seat.me (fills c.fill_stores.ensures made table.table_id.slots c.exchange-left.new.seat.id i c.args.role x old.0 old.1 (thread_in c.exchange-left.new.seat.me) c.requires.visit.at.live c.requires.owes c.requires.visit.inside
          (p.1 ∙ ap (λ (y : VisitorView). let n : Thread = (visiting old.0 i x, (2 * i + 2, part.Visitor y) ∷ old.1) in n) b)),
    )

pub returns-clause-noted : goal.returns-clause-noted
returns-clause-noted g c =
    let t = c.visit_at_last-visitor in
    let e = c.exchange-left.ensures in
    let p = exchanged t.new.pass.seat.me c.exchange-left.new.seat.me _ _ _ _ _ _ t.ensures.visiting.thread e.2 e.3 in
    since_on _ _ _ _ _ (since_exchange [] _ t.new.pass.seat.me c.exchange-left.new.seat.me _ t.ensures.noted e.3) (since_as _ _ _ _ (ap (λ (m : Thread). deed.Fill (first_fill m.0.fills).0 (first_fill m.0.fills).1 ∷ []) p.1 ∙ ap (λ (l : List (ℕ × ℕ)). deed.Fill (first_fill l).0 (first_fill l).1 ∷ []) c.requires.owes) c.store.ensures.2.1)
