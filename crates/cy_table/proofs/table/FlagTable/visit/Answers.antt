-- The swap of a visitor's door, and the read of the slot that it took.
use Rattle.std.proofs.Common.{ℕ, ◌≡◌, ◌≤◌, ◌+◌, ◌*◌, List, ◌∷◌, refl, sym, ap, ◌∙◌, subst, arith}
use Rattle.cy_fuse.specs.Visitor.{VisitorView}
use Rattle.wake_core.specs.WorldOf.{plain_of}
use Rattle.cy_table.specs.declared.part.Part.TheVariants as part
use Rattle.cy_table.specs.Shown.{roles_at, queue_at, overflow_at}
use Rattle.cy_table.specs.Steps.{visiting}
use Rattle.cy_table.specs.Plays.{Thread}
use Rattle.cy_table.specs.Sights.{thread_in}
use Rattle.cy_table.proofs.Marking.{allowed}
use Rattle.cy_table.proofs.Visits.{visits}
use Rattle.cy_table.proofs.Slots.{in_front, exchanged, visitor_or}
use Rattle.cy_table.proofs.table.FlagTable.visit.Goals as goal

pub swap-found-requires : goal.swap-found-requires
swap-found-requires c =
    let table = c.args.self.now.table.shared in
    let made = plain_of table.key.value in
    let seat = c.args.pass.now.seat in
    (c.requires.at.table, omega (arith, c.args.self.now.words, c.requires.inside), allowed seat.me (visits c.visitor_door_swaps.ensures c.rooms_left.ensures made table.table_id.slots seat.id c.args.component (thread_in seat.me) c.requires.at.live c.requires.bare c.requires.inside))

pub exchange-taken-requires : goal.exchange-taken-requires
exchange-taken-requires c =
    let t = (c.swap-found.ensures.2.0 c.args.component refl).open_door c.if-found-eq0.true in
    (c.swap-found.ensures.0 ∙ c.requires.at.table, in_front _ _ _ _ _ t.1)

pub unreachable-requires : goal.unreachable-requires
unreachable-requires c =
    let t = (c.swap-found.ensures.2.0 c.args.component refl).open_door c.if-found-eq0.true in
    let e = exchanged c.swap-found.new.seat.me c.exchange-taken.new.seat.me _ _ _ _ _ _ t.1 c.exchange-taken.ensures.2 c.exchange-taken.ensures.3 in
    c.in_default.not-Visitor t.0 (sym e.0)

pub returns-in-Visitor-clause-same : goal.returns-in-Visitor-clause-same
returns-in-Visitor-clause-same c =
    let t = (c.swap-found.ensures.2.0 c.args.component refl).open_door c.if-found-eq0.true in
    let e = exchanged c.swap-found.new.seat.me c.exchange-taken.new.seat.me _ _ _ _ _ _ t.1 c.exchange-taken.ensures.2 c.exchange-taken.ensures.3 in
    record {
      at = record {
        table = c.exchange-taken.ensures.0 ∙ (c.swap-found.ensures.0 ∙ c.requires.at.table);
        live = λ z. c.requires.at.live (sym (ap (λ (m : Thread). m.0.live) e.1) ∙ z);
      };
      number = c.exchange-taken.ensures.1 ∙ c.swap-found.ensures.1;
    }

pub returns-in-Visitor-clause-visiting : goal.returns-in-Visitor-clause-visiting
returns-in-Visitor-clause-visiting c =
    let t = (c.swap-found.ensures.2.0 c.args.component refl).open_door c.if-found-eq0.true in
    let e = exchanged c.swap-found.new.seat.me c.exchange-taken.new.seat.me _ _ _ _ _ _ t.1 c.exchange-taken.ensures.2 c.exchange-taken.ensures.3 in
    let b : t.0 ≡ c.in-Visitor.visitor = ap (visitor_or t.0) (e.0 ∙ c.in-Visitor.is) in
    let old = thread_in c.args.pass.now.seat.me in
    let i = c.args.component in
    record {
      thread = e.1 ∙ ap (λ x. let n : Thread = (visiting old.0 i x, (2 * i + 2, part.Away) ∷ old.1) in n) b;
      queue = subst (λ (x : VisitorView). x.queue ≡ queue_at old.0.routes old.0.counts i) b t.2;
      roles = subst (λ (x : VisitorView). x.roles ≡ roles_at old.0.routes i) b t.3;
      overflow = subst (λ (x : VisitorView). x.overflow ≡ overflow_at old.0.routes i) b t.4;
      room = subst (λ (x : VisitorView). (j : ℕ) (later : List (ℕ × ℕ)) → old.0.fills ≡ (i, j) ∷ later → 1 ≤ x.spare) b t.5;
    }

pub returns-else-found-eq0-clause-same : goal.returns-else-found-eq0-clause-same
returns-else-found-eq0-clause-same c =
    let t = (c.swap-found.ensures.2.0 c.args.component refl).shut_door c.if-found-eq0.false in
    record {
      at = record {
        table = c.swap-found.ensures.0 ∙ c.requires.at.table;
        live = λ z. c.requires.at.live (sym (ap (λ (m : Thread). m.0.live) t) ∙ z);
      };
      number = c.swap-found.ensures.1;
    }

pub returns-else-found-eq0-clause-shut : goal.returns-else-found-eq0-clause-shut
returns-else-found-eq0-clause-shut c = (c.swap-found.ensures.2.0 c.args.component refl).shut_door c.if-found-eq0.false

pub invariant_of-pass : goal.invariant_of-pass
invariant_of-pass c =
    let t = (c.swap-found.ensures.2.0 c.args.component refl).open_door c.if-found-eq0.true in
    let e = exchanged c.swap-found.new.seat.me c.exchange-taken.new.seat.me _ _ _ _ _ _ t.1 c.exchange-taken.ensures.2 c.exchange-taken.ensures.3 in
    record { counted = c.args.pass.now.counted ∙ ap (λ (m : Thread). m.0.split) (sym e.1) }

pub invariant_of-pass-else-found-eq0 : goal.invariant_of-pass-else-found-eq0
invariant_of-pass-else-found-eq0 c =
    let t = (c.swap-found.ensures.2.0 c.args.component refl).shut_door c.if-found-eq0.false in
    record { counted = c.args.pass.now.counted ∙ ap (λ (m : Thread). m.0.split) (sym t) }
