-- The slots of a closed table are taken out one by one, and show the world that it leaves.
use Rattle.std.proofs.Common.{ℕ, ◌≡◌, ◌+◌, ◌*◌, ◌/◌, ◌<◌, ◌==◌, Bool, false, not, List, length, slice_index, set, get_or, refl, sym, ap, ◌∙◌, subst, arith}
use mathlib.Core.Option.{some}
use lib.ListN.{get_elem?}
use Rattle.std.specs.Mem.Slots.{slots_items, slots_len, slots_filled, IsFull}
use Rattle.cy_msg.specs.declared.token.Token.{Token}
use Rattle.cy_fuse.specs.Visitor.{VisitorView}
use Rattle.cy_comp.specs.Routine.{RoutineView}
use Rattle.wake_core.specs.declared.parts.Parts.{Parts}
use Rattle.wake_core.specs.Run.{played_of}
use Rattle.wake_core.specs.WorldOf.{plain_of}
use Rattle.wake_core.specs.Parts.{shown_by}
use Rattle.cy_table.specs.declared.part.Part.{Part}
use Rattle.cy_table.specs.declared.part.Part.TheVariants as part
use Rattle.cy_table.specs.Seats.{TapeView}
use Rattle.cy_table.specs.Shown.{routine_at, visitor_at, tape_at}
use Rattle.cy_table.proofs.Marking.{reached}
use Rattle.cy_table.proofs.Unpacking.{TakenOut, AreRest, IsFrom, shuts, same_part, same_tape, taken_as, none_taken, taken_more, index_of, from_more, few_played, replaced, parts_fit, played_left, clock_left, closing_left, raised_left, calls_seen}
use Rattle.cy_table.proofs.table.FlagTable.unpack.Goals as goal

pub unreachable-requires : goal.unreachable-requires
unreachable-requires c =
    let made = plain_of c.args.self.table.shared.key.value in
    let seat = c.args.pass.seat in
    let last = c.requires.last in
    let closed = c.close_with-closed.result in
    let e = shuts c.table_ends.ensures made seat.id seat.me.0 (slots_items closed.words) (slots_items closed.slots) last.player.player last.player.at.live last.empty last.alone c.close_with-closed.ensures.values.2 in
    c.in_default.not-Tape (tape_at e.rooms e.world) (same_part (slots_items closed.slots) 0 c.take.result (part.Tape (tape_at e.rooms e.world)) c.take.ensures.value e.slots_are.tape)

pub unreachable-requires-in_default-take : goal.unreachable-requires-in_default-take
unreachable-requires-in_default-take c =
    let made = plain_of c.args.self.table.shared.key.value in
    let seat = c.args.pass.seat in
    let last = c.requires.last in
    let closed = c.close_with-closed.result in
    let e = shuts c.table_ends.ensures made seat.id seat.me.0 (slots_items closed.words) (slots_items closed.slots) last.player.player last.player.at.live last.empty last.alone c.close_with-closed.ensures.values.2 in
    let k = c.loop-c.c in
    let less : k < length e.world.routes = omega (arith, c.loop-c-test.true, c.slot_count-count.ensures, c.close_with-closed.ensures.counts.1, c.args.self.slots, ap length e.components) in
    let is : slots_items c.loop-c.closed.slots ≡ slots_items closed.slots = c.loop-c.invariant.same ∙ c.take.ensures.others.0 in
    c.in_default-take.not-Routine (routine_at e.rooms e.world k)
    (same_part (slots_items closed.slots) (2 * k + 1) c.take-in-loop-c.result (part.Routine (routine_at e.rooms e.world k)) (ap (λ (l : List Part). get_elem? l (2 * k + 1)) (sym is) ∙ c.take-in-loop-c.ensures.value) (e.slots_are.routine k less))

pub unreachable-requires-in_default-take-2 : goal.unreachable-requires-in_default-take-2
unreachable-requires-in_default-take-2 c =
    let made = plain_of c.args.self.table.shared.key.value in
    let seat = c.args.pass.seat in
    let last = c.requires.last in
    let closed = c.close_with-closed.result in
    let e = shuts c.table_ends.ensures made seat.id seat.me.0 (slots_items closed.words) (slots_items closed.slots) last.player.player last.player.at.live last.empty last.alone c.close_with-closed.ensures.values.2 in
    let k = c.loop-c.c in
    let less : k < length e.world.routes = omega (arith, c.loop-c-test.true, c.slot_count-count.ensures, c.close_with-closed.ensures.counts.1, c.args.self.slots, ap length e.components) in
    let is : slots_items c.take-in-loop-c.new.self.slots ≡ slots_items closed.slots = c.take-in-loop-c.ensures.others.0 ∙ (c.loop-c.invariant.same ∙ c.take.ensures.others.0) in
    c.in_default-take-2.not-Visitor (visitor_at e.rooms e.world k)
    (same_part (slots_items closed.slots) (2 * k + 2) c.take-in-loop-c-2.result (part.Visitor (visitor_at e.rooms e.world k)) (ap (λ (l : List Part). get_elem? l (2 * k + 2)) (sym is) ∙ c.take-in-loop-c-2.ensures.value) (e.slots_are.visitor k less))

pub loop-c-init : goal.loop-c-init
loop-c-init c =
    let full = c.close_with-closed.ensures.values.1 in
    let first = c.take.ensures.others in
    record {
      same = refl;
      long = refl;
      words = refl;
      full = subst (λ (fs : List Bool). IsFrom 1 fs (slots_len c.take.new.self.slots)) (sym first.1)
          (from_more 0 1 (slots_len c.take.new.self.slots) (slots_filled c.close_with-closed.result.slots) refl (omega (arith, c.close_with-closed.ensures.counts.1, c.args.self.slots, first.2))
          record { gone = λ i less. absurd (omega (arith, less)); left = λ i le less. full i le (omega (arith, less, first.2)) });
      taken = none_taken c.requires.room.routines_none c.requires.room.visitors_none c.requires.room.spent_none;
      routines_room = omega (arith, c.requires.room.routines_room, c.slot_count-count.ensures, c.close_with-closed.ensures.counts.1, c.args.self.slots);
      visitors_room = omega (arith, c.requires.room.visitors_room, c.slot_count-count.ensures, c.close_with-closed.ensures.counts.1, c.args.self.slots);
      spent_room = omega (arith, c.requires.room.spent_room, c.slot_count-count.ensures, c.close_with-closed.ensures.counts.1, c.args.self.slots);
    }

pub take-requires-in-loop-c-2 : goal.take-requires-in-loop-c-2
take-requires-in-loop-c-2 c =
    let i = c.loop-c.invariant in
    let k = c.loop-c.c in
    let a = c.take-in-loop-c.ensures.others in
    let n = slots_len c.take.new.self.slots in
    let within : 2 * k + 2 < n = omega (arith, c.loop-c-test.true, c.slot_count-count.ensures, c.take.ensures.others.2, c.close_with-closed.ensures.counts.1, c.args.self.slots) in
    let next = from_more (2 * k + 1) (2 * k + 2) n (slots_filled c.loop-c.closed.slots) (omega arith) (omega (arith, within)) i.full in
    (omega (arith, within, a.2, i.long), ap (λ (fs : List Bool). get_or fs (2 * k + 2) false) a.1 ∙ next.left (2 * k + 2) (omega arith) within)

pub word-requires : goal.word-requires
word-requires c =
    let words = c.take-in-loop-c-2.ensures.others.3 ∙ (c.take-in-loop-c.ensures.others.3 ∙ (c.loop-c.invariant.words ∙ c.take.ensures.others.3)) in
    let closed = c.close_with-closed.ensures in
    (omega (arith, c.loop-c-test.true, c.slot_count-count.ensures, ap slots_len words, closed.counts.0, closed.counts.1, c.args.self.words, c.args.self.slots), subst IsFull (sym words) closed.values.0)

pub word-clock-requires : goal.word-clock-requires
word-clock-requires c =
    let words = c.loop-c.invariant.words ∙ c.take.ensures.others.3 in
    let closed = c.close_with-closed.ensures in
    (omega (arith, ap slots_len words, closed.counts.0, c.args.self.words), subst IsFull (sym words) closed.values.0)

pub word-closing-requires : goal.word-closing-requires
word-closing-requires c =
    let words = c.loop-c.invariant.words ∙ c.take.ensures.others.3 in
    let closed = c.close_with-closed.ensures in
    (omega (arith, ap slots_len words, closed.counts.0, c.args.self.words), subst IsFull (sym words) closed.values.0)

pub word-raised-requires : goal.word-raised-requires
word-raised-requires c =
    let words = c.loop-c.invariant.words ∙ c.take.ensures.others.3 in
    let closed = c.close_with-closed.ensures in
    (omega (arith, c.slot_count-count.ensures, ap slots_len words, closed.counts.0, closed.counts.1, c.args.self.words, c.args.self.slots), subst IsFull (sym words) closed.values.0)

pub loop-c-preserved : goal.loop-c-preserved
loop-c-preserved c =
    let i = c.loop-c.invariant in
    let k = c.loop-c.c in
    let a = c.take-in-loop-c.ensures in
    let b = c.take-in-loop-c-2.ensures in
    let n = slots_len c.take.new.self.slots in
    let first = slots_items c.take.new.self.slots in
    let words : slots_items c.take-in-loop-c-2.new.self.words ≡ slots_items c.take.new.self.words = ap slots_items (b.others.3 ∙ a.others.3 ∙ i.words) in
    let within : 2 * k + 2 < n = omega (arith, c.loop-c-test.true, c.slot_count-count.ensures, c.take.ensures.others.2, c.close_with-closed.ensures.counts.1, c.args.self.slots) in
    let at_routine : get_elem? first (2 * k + 1) ≡ some (part.Routine c.into_routine-kept.result) =
    ap (λ (l : List Part). get_elem? l (2 * k + 1)) (sym i.same) ∙ a.value ∙ ap (λ (y : Part). some y) (c.in-Routine.is ∙ ap (λ (r : RoutineView). part.Routine r) (sym c.into_routine-kept.ensures)) in
    let at_visitor : get_elem? first (2 * k + 2) ≡ some (part.Visitor c.into_visitor-unboxed.result) =
    ap (λ (l : List Part). get_elem? l (2 * k + 2)) (sym (a.others.0 ∙ i.same)) ∙ b.value ∙ ap (λ (y : Part). some y) (c.in-Visitor.is ∙ ap (λ (v : VisitorView). part.Visitor v) (sym c.into_visitor-unboxed.ensures)) in
    let at_flag : (c.word.result == 1) ≡ (slice_index (slots_items c.take.new.self.words) (4 * k + 6) == 1) =
    ap (λ m. m == 1) (sym (index_of (slots_items c.take.new.self.words) (4 * k + 6) c.word.result (ap (λ (l : List ℕ). get_elem? l (4 * k + 6)) (sym words) ∙ c.word.ensures))) in
    record {
      same = b.others.0 ∙ (a.others.0 ∙ i.same);
      long = b.others.2 ∙ (a.others.2 ∙ i.long);
      words = b.others.3 ∙ (a.others.3 ∙ i.words);
      full = subst (λ (fs : List Bool). IsFrom (2 * (k + 1) + 1) fs n) (sym (b.others.1 ∙ ap (λ (fs : List Bool). set fs (2 * k + 2) false) a.others.1))
          (from_more (2 * k + 2) (2 * (k + 1) + 1) n _ (omega arith) within (from_more (2 * k + 1) (2 * k + 2) n (slots_filled c.loop-c.closed.slots) (omega arith) (omega (arith, within)) i.full));
      taken = taken_as refl refl refl c.push_reserved.ensures.items c.push_reserved-in-loop-c.ensures.items c.push_reserved-in-loop-c-2.ensures.items
          (taken_more c.into_routine-kept.result c.into_visitor-unboxed.result (c.word.result == 1) i.taken at_routine at_visitor at_flag);
      routines_room = omega (arith, i.routines_room, c.push_reserved.ensures.capacity);
      visitors_room = omega (arith, i.visitors_room, c.push_reserved-in-loop-c.ensures.capacity);
      spent_room = omega (arith, i.spent_room, c.push_reserved-in-loop-c-2.ensures.capacity);
    }

pub overflow_cast-played : goal.overflow_cast-played
overflow_cast-played c =
    let made = plain_of c.args.self.table.shared.key.value in
    let seat = c.args.pass.seat in
    let last = c.requires.last in
    let closed = c.close_with-closed.result in
    let words = slots_items closed.words in
    let slots = slots_items closed.slots in
    let e = shuts c.table_ends.ensures made seat.id seat.me.0 words slots last.player.player last.player.at.live last.empty last.alone c.close_with-closed.ensures.values.2 in
    let tape = c.in-Tape.tape in
    let is : tape ≡ tape_at e.rooms e.world = same_tape tape (tape_at e.rooms e.world) (ap (λ (y : Part). some y) (sym c.in-Tape.is) ∙ sym c.take.ensures.value ∙ e.slots_are.tape) in
    let items : c.as_slice.result.now ≡ e.world.tape = c.as_slice.ensures.value ∙ ap (λ (t : TapeView). t.messages) (sym c.into_messages-tape.ensures ∙ is) in
    let few = few_played c.args.self.fixed.routes.items c.as_slice.result.now in
    let most = c.limits.ensures.tape e.world e.sound.consistent e.fixed in
    record { fits = omega (arith, c.played_in-played.ensures, few, ap length items, most) }

pub returns-clause-fit : goal.returns-clause-fit
returns-clause-fit c =
    let made = plain_of c.args.self.table.shared.key.value in
    let seat = c.args.pass.seat in
    let last = c.requires.last in
    let closed = c.close_with-closed.result in
    let words = slots_items closed.words in
    let slots = slots_items closed.slots in
    let e = shuts c.table_ends.ensures made seat.id seat.me.0 words slots last.player.player last.player.at.live last.empty last.alone c.close_with-closed.ensures.values.2 in
    let p : Parts = record {
      routines = c.new.result;
      visitors = c.new-2.result;
      spent = c.new-3.result;
      tape = c.into_messages-tape.result;
      played = c.played_in-played.result;
      clock = c.word-clock.result;
      closing = c.word-closing.result == 1;
      raised = not (c.word-raised.result == 0);
      fixed = c.args.self.fixed;
    } in
    let count_is : c.slot_count-count.result / 2 ≡ length made.routes = omega (arith, c.slot_count-count.ensures, c.close_with-closed.ensures.counts.1, c.args.self.slots) in
    let all : c.loop-c.c ≡ length made.routes = omega (arith, c.loop-c-test.false, c.loop-c.auto.c-end, c.slot_count-count.ensures, c.close_with-closed.ensures.counts.1, c.args.self.slots) in
    let taken : TakenOut words slots (length made.routes) p.routines p.visitors p.spent =
    taken_as (ap slots_items c.take.ensures.others.3) c.take.ensures.others.0 all c.new.ensures c.new-2.ensures c.new-3.ensures c.loop-c.invariant.taken in
    let same_words : slots_items c.loop-c.closed.words ≡ words = ap slots_items (c.loop-c.invariant.words ∙ c.take.ensures.others.3) in
    let rest : AreRest (length made.routes) words slots p = record {
      tape = c.take.ensures.value ∙ ap (λ (y : Part). some y) (c.in-Tape.is ∙ ap (λ (t : TapeView). part.Tape t) c.into_messages-tape.ensures);
      clock = sym (index_of words 1 c.word-clock.result (ap (λ (l : List ℕ). get_elem? l 1) (sym same_words) ∙ c.word-clock.ensures));
      closing = ap (λ n. n == 1) (sym (index_of words 2 c.word-closing.result (ap (λ (l : List ℕ). get_elem? l 2) (sym same_words) ∙ c.word-closing.ensures)));
      raised = ap (λ n. not (n == 0)) (sym (index_of words (4 * length made.routes + 4) c.word-raised.result (ap (λ m. get_elem? words (4 * m + 4)) (sym count_is) ∙ ap (λ (l : List ℕ). get_elem? l (4 * (c.slot_count-count.result / 2) + 4)) (sym same_words) ∙ c.word-raised.ensures)));
      played = c.played_in-played.ensures ∙ ap (λ (l : List Token). length (played_of p.fixed.routes.items l)) c.as_slice.ensures.value;
    } in
    parts_fit e p taken rest c.args.self.made c.args.self.counted c.args.self.given c.threads.ensures c.outside.ensures c.unsent.ensures

pub returns-clause-left : goal.returns-clause-left
unfolding shown_by
returns-clause-left c =
    let made = plain_of c.args.self.table.shared.key.value in
    let seat = c.args.pass.seat in
    let last = c.requires.last in
    let closed = c.close_with-closed.result in
    let words = slots_items closed.words in
    let slots = slots_items closed.slots in
    let e = shuts c.table_ends.ensures made seat.id seat.me.0 words slots last.player.player last.player.at.live last.empty last.alone c.close_with-closed.ensures.values.2 in
    let p : Parts = record {
      routines = c.new.result;
      visitors = c.new-2.result;
      spent = c.new-3.result;
      tape = c.into_messages-tape.result;
      played = c.played_in-played.result;
      clock = c.word-clock.result;
      closing = c.word-closing.result == 1;
      raised = not (c.word-raised.result == 0);
      fixed = c.args.self.fixed;
    } in
    let count_is : c.slot_count-count.result / 2 ≡ length made.routes = omega (arith, c.slot_count-count.ensures, c.close_with-closed.ensures.counts.1, c.args.self.slots) in
    let all : c.loop-c.c ≡ length made.routes = omega (arith, c.loop-c-test.false, c.loop-c.auto.c-end, c.slot_count-count.ensures, c.close_with-closed.ensures.counts.1, c.args.self.slots) in
    let taken : TakenOut words slots (length made.routes) p.routines p.visitors p.spent =
    taken_as (ap slots_items c.take.ensures.others.3) c.take.ensures.others.0 all c.new.ensures c.new-2.ensures c.new-3.ensures c.loop-c.invariant.taken in
    let same_words : slots_items c.loop-c.closed.words ≡ words = ap slots_items (c.loop-c.invariant.words ∙ c.take.ensures.others.3) in
    let rest : AreRest (length made.routes) words slots p = record {
      tape = c.take.ensures.value ∙ ap (λ (y : Part). some y) (c.in-Tape.is ∙ ap (λ (t : TapeView). part.Tape t) c.into_messages-tape.ensures);
      clock = sym (index_of words 1 c.word-clock.result (ap (λ (l : List ℕ). get_elem? l 1) (sym same_words) ∙ c.word-clock.ensures));
      closing = ap (λ n. n == 1) (sym (index_of words 2 c.word-closing.result (ap (λ (l : List ℕ). get_elem? l 2) (sym same_words) ∙ c.word-closing.ensures)));
      raised = ap (λ n. not (n == 0)) (sym (index_of words (4 * length made.routes + 4) c.word-raised.result (ap (λ m. get_elem? words (4 * m + 4)) (sym count_is) ∙ ap (λ (l : List ℕ). get_elem? l (4 * (c.slot_count-count.result / 2) + 4)) (sym same_words) ∙ c.word-raised.ensures)));
      played = c.played_in-played.ensures ∙ ap (λ (l : List Token). length (played_of p.fixed.routes.items l)) c.as_slice.ensures.value;
    } in
    record {
      reached = record {
        world = e.world;
        events = reached e.way;
        replaced = replaced e p taken rest c.args.self.made c.args.self.counted c.args.self.given;
      };
      way = e.way;
      noted = e.noted;
      routes = c.args.self.made;
      counts = c.args.self.counted;
      stop = c.args.self.given;
      rest = λ j. record { hand = refl; owes = record { filled = refl; looked = refl; cleared = refl } };
      played = played_left e p taken rest c.args.self.made c.args.self.counted c.args.self.given;
      clock = clock_left e p taken rest c.args.self.made c.args.self.counted c.args.self.given;
      closing = closing_left e p taken rest c.args.self.made c.args.self.counted c.args.self.given;
      raised = raised_left e p taken rest c.args.self.made c.args.self.counted c.args.self.given;
      seen = calls_seen e p taken rest c.args.self.made c.args.self.counted c.args.self.given;
    }
