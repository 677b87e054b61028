-- The swap of a hold word, and the read of the slot that it took.
use Rattle.std.proofs.Common.{◌≤◌, length, ◌≡◌, ◌+◌, ◌*◌, ◌∷◌, Some, refl, sym, ap, ◌∙◌, subst, arith}
use Rattle.std.proofs.lemmas.Option.{none-some}
use Rattle.cy_comp.specs.Routine.{RoutineView}
use Rattle.wake_core.specs.declared.entries.TheConstants.{MOST_PLANNED}
use Rattle.wake_core.specs.WorldOf.{plain_of, routes_in}
use Rattle.cy_table.specs.declared.part.Part.TheVariants as part
use Rattle.cy_table.specs.Steps.{acquiring}
use Rattle.cy_table.specs.Plays.{Thread, in_hand, HasSeen, taking}
use Rattle.cy_table.specs.Sights.{thread_in}
use Rattle.cy_table.proofs.Marking.{since_as, allowed}
use Rattle.cy_table.proofs.Allowing.{acquires}
use Rattle.cy_table.proofs.Channels.{out_is}
use Rattle.cy_table.proofs.Slots.{in_front, exchanged, since_exchange, routine_or}
use Rattle.cy_table.proofs.table.FlagTable.acquire.Goals as goal

pub swap-found-requires : goal.swap-found-requires
swap-found-requires c =
    let table = c.args.self.now.table.shared in
    let made = plain_of table.key.value in
    let seat = c.args.pass.now.seat in
    (c.requires.at.table, omega (arith, c.args.self.now.words, c.requires.inside), allowed seat.me (acquires c.hold_swaps.ensures c.rooms_left.ensures made table.table_id.slots seat.id c.args.component (thread_in seat.me) c.requires.at.live c.requires.free.hand c.requires.inside))

pub exchange-taken-requires : goal.exchange-taken-requires
exchange-taken-requires c =
    let t = (c.swap-found.ensures.2.0 c.args.component refl).free c.if-found-eq0.true in
    (c.swap-found.ensures.0 ∙ c.requires.at.table, in_front _ _ _ _ _ t.1)

pub unreachable-requires : goal.unreachable-requires
unreachable-requires c =
    let t = (c.swap-found.ensures.2.0 c.args.component refl).free c.if-found-eq0.true in
    let e = exchanged c.swap-found.new.seat.me c.exchange-taken.new.seat.me _ _ _ _ _ _ t.1 c.exchange-taken.ensures.2 c.exchange-taken.ensures.3 in
    c.in_default.not-Routine t.0 (sym e.0)

pub returns-in-Routine-clause-same : goal.returns-in-Routine-clause-same
returns-in-Routine-clause-same c =
    let t = (c.swap-found.ensures.2.0 c.args.component refl).free c.if-found-eq0.true in
    let e = exchanged c.swap-found.new.seat.me c.exchange-taken.new.seat.me _ _ _ _ _ _ t.1 c.exchange-taken.ensures.2 c.exchange-taken.ensures.3 in
    record {
      at = record {
        table = c.exchange-taken.ensures.0 ∙ (c.swap-found.ensures.0 ∙ c.requires.at.table);
        live = λ z. c.requires.at.live (sym (ap (λ (m : Thread). m.0.live) e.1) ∙ z);
      };
      number = c.exchange-taken.ensures.1 ∙ c.swap-found.ensures.1;
    }

pub returns-in-Routine-clause-taken : goal.returns-in-Routine-clause-taken
returns-in-Routine-clause-taken c =
    let t = (c.swap-found.ensures.2.0 c.args.component refl).free c.if-found-eq0.true in
    let e = exchanged c.swap-found.new.seat.me c.exchange-taken.new.seat.me _ _ _ _ _ _ t.1 c.exchange-taken.ensures.2 c.exchange-taken.ensures.3 in
    let b : t.0 ≡ c.in-Routine.routine = ap (routine_or t.0) (e.0 ∙ c.in-Routine.is) in
    let v = c.args.pass.now.seat.me.0.seat in
    let i = c.args.component in
    let made = plain_of c.args.self.now.table.shared.key.value in
    let at = e.1 ∙ (λ j. (acquiring v i (b j), (2 * i + 1, part.Away) ∷ c.requires.free.out j)) in
    record {
      component = refl;
      seat = ap (λ (m : Thread). m.0) at;
      holds = record {
        hand = ap (λ (m : Thread). m.0.hand) at ∙ ap (λ (m : Thread). Some (in_hand m.0)) (sym at);
        croutine = ap (λ (m : Thread). (in_hand m.0).croutine) at;
        channel = out_is (routes_in c.args.self.now.fixed) made.routes i c.out.result c.args.self.now.made c.requires.inside c.out.ensures;
        routine = ap (λ (m : Thread). (in_hand m.0).routine) at;
        out = ap (λ (m : Thread). m.1) at;
        inside = c.requires.inside;
      };
      stepped = refl;
      seen = subst (λ (x : RoutineView). HasSeen i x.calls v.seen) b t.2;
    }

pub returns-else-found-eq0-clause-same : goal.returns-else-found-eq0-clause-same
returns-else-found-eq0-clause-same c =
    let t = (c.swap-found.ensures.2.0 c.args.component refl).held c.if-found-eq0.false in
    record {
      at = record {
        table = c.swap-found.ensures.0 ∙ c.requires.at.table;
        live = λ z. c.requires.at.live (sym (ap (λ (m : Thread). m.0.live) t) ∙ z);
      };
      number = c.swap-found.ensures.1;
    }

pub returns-else-found-eq0-clause-busy : goal.returns-else-found-eq0-clause-busy
returns-else-found-eq0-clause-busy c =
    let t = (c.swap-found.ensures.2.0 c.args.component refl).held c.if-found-eq0.false in
    record {
      seat = ap (λ (m : Thread). m.0) t;
      free = record {
        hand = ap (λ (m : Thread). m.0.hand) t ∙ c.requires.free.hand;
        out = ap (λ (m : Thread). m.1) t ∙ c.requires.free.out;
      };
    }

-- What was done is told by the hand after the swap.
pub returns-in-Routine-clause-noted : goal.returns-in-Routine-clause-noted
returns-in-Routine-clause-noted c =
    let t = (c.swap-found.ensures.2.0 c.args.component refl).free c.if-found-eq0.true in
    since_exchange _ _ c.swap-found.new.seat.me c.exchange-taken.new.seat.me _ (since_as _ _ _ _ (ap (λ (m : Thread). taking m.0.hand) t.1) c.swap-found.ensures.2.1) c.exchange-taken.ensures.3

pub returns-else-found-eq0-clause-noted : goal.returns-else-found-eq0-clause-noted
returns-else-found-eq0-clause-noted c =
    let t = (c.swap-found.ensures.2.0 c.args.component refl).held c.if-found-eq0.false in
    since_as _ _ _ _ (ap (λ (m : Thread). taking m.0.hand) t ∙ ap taking c.requires.free.hand) c.swap-found.ensures.2.1

pub invariant_of-pass : goal.invariant_of-pass
invariant_of-pass c =
    let t = (c.swap-found.ensures.2.0 c.args.component refl).free c.if-found-eq0.true in
    let e = exchanged c.swap-found.new.seat.me c.exchange-taken.new.seat.me _ _ _ _ _ _ t.1 c.exchange-taken.ensures.2 c.exchange-taken.ensures.3 in
    record { counted = c.args.pass.now.counted ∙ ap (λ (m : Thread). m.0.split) (sym e.1) }

pub invariant_of-pass-else-found-eq0 : goal.invariant_of-pass-else-found-eq0
invariant_of-pass-else-found-eq0 c =
    let t = (c.swap-found.ensures.2.0 c.args.component refl).held c.if-found-eq0.false in
    record { counted = c.args.pass.now.counted ∙ ap (λ (m : Thread). m.0.split) (sym t) }

pub invariant_of-result : goal.invariant_of-result
invariant_of-result c =
    let t = (c.swap-found.ensures.2.0 c.args.component refl).free c.if-found-eq0.true in
    let e = exchanged c.swap-found.new.seat.me c.exchange-taken.new.seat.me _ _ _ _ _ _ t.1 c.exchange-taken.ensures.2 c.exchange-taken.ensures.3 in
    let b : t.0 ≡ c.in-Routine.routine = ap (routine_or t.0) (e.0 ∙ c.in-Routine.is) in
    record { fits = λ f none. absurd (none-some f none); few = subst (λ (x : RoutineView). length x.calls ≤ MOST_PLANNED) b t.3 }
