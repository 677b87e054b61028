-- The swap of the tape's door, and the read of the slot that it took.
use Rattle.std.proofs.Common.{◌≡◌, ◌<◌, ◌∷◌, length, sym, ap, ◌∙◌, subst, arith}
use Rattle.wake_core.specs.WorldOf.{plain_of}
use Rattle.cy_table.specs.declared.part.Part.TheVariants as part
use Rattle.cy_table.specs.Seats.{TapeView}
use Rattle.cy_table.specs.Steps.{entering}
use Rattle.cy_table.specs.Plays.{Thread}
use Rattle.cy_table.specs.Sights.{thread_in}
use Rattle.cy_table.proofs.Marking.{allowed}
use Rattle.cy_table.proofs.Taping.{enters}
use Rattle.cy_table.proofs.Slots.{in_front, exchanged, tape_or}
use Rattle.cy_table.proofs.table.FlagTable.enter.Goals as goal

pub swap-found-requires : goal.swap-found-requires
swap-found-requires c =
    let table = c.args.self.now.table.shared in
    let made = plain_of table.key.value in
    let seat = c.args.pass.now.seat in
    (c.requires.at.table, omega (arith, c.args.self.now.words), allowed seat.me (enters c.tape_door_swaps.ensures c.rooms_left.ensures made table.table_id.slots seat.id (thread_in seat.me) c.requires.at.live c.requires.bare c.requires.may))

pub exchange-taken-requires : goal.exchange-taken-requires
exchange-taken-requires c =
    let t = c.swap-found.ensures.2.0.open_door c.if-found-eq0.true in
    (c.swap-found.ensures.0 ∙ c.requires.at.table, in_front _ _ _ _ _ t.1)

pub unreachable-requires : goal.unreachable-requires
unreachable-requires c =
    let t = c.swap-found.ensures.2.0.open_door c.if-found-eq0.true in
    let e = exchanged c.swap-found.new.seat.me c.exchange-taken.new.seat.me _ _ _ _ _ _ t.1 c.exchange-taken.ensures.2 c.exchange-taken.ensures.3 in
    c.in_default.not-Tape t.0 (sym e.0)

pub returns-in-Tape-clause-same : goal.returns-in-Tape-clause-same
returns-in-Tape-clause-same c =
    let t = c.swap-found.ensures.2.0.open_door c.if-found-eq0.true in
    let e = exchanged c.swap-found.new.seat.me c.exchange-taken.new.seat.me _ _ _ _ _ _ t.1 c.exchange-taken.ensures.2 c.exchange-taken.ensures.3 in
    record {
      at = record {
        table = c.exchange-taken.ensures.0 ∙ (c.swap-found.ensures.0 ∙ c.requires.at.table);
        live = λ z. c.requires.at.live (sym (ap (λ (m : Thread). m.0.live) e.1) ∙ z);
      };
      number = c.exchange-taken.ensures.1 ∙ c.swap-found.ensures.1;
    }

pub returns-in-Tape-clause-entered : goal.returns-in-Tape-clause-entered
returns-in-Tape-clause-entered c =
    let t = c.swap-found.ensures.2.0.open_door c.if-found-eq0.true in
    let e = exchanged c.swap-found.new.seat.me c.exchange-taken.new.seat.me _ _ _ _ _ _ t.1 c.exchange-taken.ensures.2 c.exchange-taken.ensures.3 in
    let b : t.0 ≡ c.in-Tape.tape = ap (tape_or t.0) (e.0 ∙ c.in-Tape.is) in
    let old = thread_in c.args.pass.now.seat.me in
    record {
      thread = e.1 ∙ ap (λ x. let n : Thread = (entering old.0 x, (0, part.Away) ∷ old.1) in n) b;
      room = subst (λ (x : TapeView). length x.messages < x.room) b t.2;
    }

pub returns-else-found-eq0-clause-same : goal.returns-else-found-eq0-clause-same
returns-else-found-eq0-clause-same c =
    let t = c.swap-found.ensures.2.0.shut_door c.if-found-eq0.false in
    record {
      at = record {
        table = c.swap-found.ensures.0 ∙ c.requires.at.table;
        live = λ z. c.requires.at.live (sym (ap (λ (m : Thread). m.0.live) t) ∙ z);
      };
      number = c.swap-found.ensures.1;
    }

pub returns-else-found-eq0-clause-shut : goal.returns-else-found-eq0-clause-shut
returns-else-found-eq0-clause-shut c = c.swap-found.ensures.2.0.shut_door c.if-found-eq0.false
