-- The steps of the stop word.
use Rattle.std.proofs.Common.{ℕ, ◌+◌, ◌*◌, ◌≡◌, ◌≢◌, ◌<◌, ◌==◌, Bool, true, false, refl, sym, ◌∙◌, ap, subst, inl, inr, List, length, slice_index, Option, Some, None, arith}
use Rattle.std.proofs.lemmas.Bool.Decides.{eqb_tells}
use Rattle.std.proofs.Math.Seq.{take-length}
use Rattle.atomic_table.specs.Table.{State as Table, stepped, keeps}
use Rattle.cy_comp.specs.declared.state.State.{State}
use Rattle.cy_comp.specs.Routine.{RoutineView}
use Rattle.wake_core.specs.declared.phase.Phase.TheVariants.{Known}
use Rattle.wake_core.specs.Run.{set_at}
use Rattle.wake_core.specs.Plain.{Plain, Stop, hand, stops}
use Rattle.wake_core.specs.Events.{Checks, Stops, phase_after_check, after_check, after_stop}
use Rattle.wake_core.specs.Laws.{KeepsSound}
use Rattle.cy_table.specs.declared.part.Part.{Part}
use Rattle.cy_table.specs.Layout.{stop_number}
use Rattle.cy_table.specs.Seats.{Seat, Grip}
use Rattle.cy_table.specs.Shown.{Rooms, spread, routine_of}
use Rattle.cy_table.specs.Rule.{Rules, Shows, ShowsWords}
use Rattle.cy_table.specs.Steps.{Sits, Becomes, MayCheck, phase_checked, checking, MayRaise, raising}
use Rattle.cy_table.proofs.Places.{there, other, unseen, word_is, is_word, after, spread_keeps}
use Rattle.cy_table.proofs.Parts.{DoorsStay, OthersStay, same_words, parts_same, threads_hand, threads_still}
use Rattle.cy_table.proofs.Knowing.{Grows, nothing_grows, rules_after}
use Rattle.cy_table.proofs.Holding.{wide_is, seat_is, seat_in, hand_is, croutine_known, routine_known, in_phase, owes_known, mine}
use Rattle.cy_table.proofs.Telling.{tape_same, visit_same, hand_same}

differs : (a b : ℕ) → a ≢ b → (a == b) ≡ false
differs a b ne = elim (eqb_tells a b) [ inl h ↦ absurd (ne h.1) | inr h ↦ h.0 ]

agrees : (a b : ℕ) → a ≡ b → (a == b) ≡ true
agrees a b e = elim (eqb_tells a b) [ inl h ↦ h.0 | inr h ↦ absurd (h.1 e) ]

eqb_next : (a b : ℕ) → (a + 1 == b + 1) ≡ (a == b)
eqb_next a b = elim (eqb_tells a b) [
  | inl h ↦ agrees (a + 1) (b + 1) (ap (λ n. n + 1) h.1) ∙ sym h.0
  | inr h ↦ differs (a + 1) (b + 1) (λ e. h.1 (omega (arith, e))) ∙ sym h.0
]

-- What stands in the word names a component exactly where the raised stop does.
pub names_so : (stop : Option Stop) (raised : Bool) (c : ℕ) → c < 64 → (stop_number stop raised == c + 1) ≡ stops stop raised c
names_so None false c less = differs 0 (c + 1) (λ e. omega (arith, e))
names_so None true c less = differs 65 (c + 1) (λ e. omega (arith, e, less))
names_so (Some s) false c less = differs 0 (c + 1) (λ e. omega (arith, e))
names_so (Some s) true c less = eqb_next s.component c

-- A step on the word leaves the doors and the hold words.
stop_doors : (n x : ℕ) (word : ℕ → ℕ) → DoorsStay n (4 * n + 4) x word
stop_doors n x word = let i : ℕ = 4 * n + 4 in record {
  tape_same = other i x word 3 (λ a. omega arith);
  hold_same = λ d less. other i x word (4 * d + 4) (λ a. omega (arith, less));
  visitor_same = λ d. other i x word (4 * d + 7) (λ a. omega arith);
}

stop_stored : {n : ℕ} {states : ℕ → State} {spent : ℕ → Bool} {clock : ℕ} {closing : Bool} {stop : ℕ} {word : ℕ → ℕ} (x : ℕ) → ShowsWords n states spent clock closing stop word
    → ShowsWords n states spent clock closing x (set_at (4 * n + 4) x word)
stop_stored {n} {word} x sh = let i : ℕ = 4 * n + 4 in record {
  state = λ d less. other i x word (4 * d + 5) (λ a. omega arith) ∙ sh.state d less;
  flag = λ d less. other i x word (4 * d + 6) (λ a. omega arith) ∙ sh.flag d less;
  clock_is = other i x word 1 (λ a. omega arith) ∙ sh.clock_is;
  closing_is = other i x word 2 (λ a. omega arith) ∙ sh.closing_is;
  stop_is = there i x word i refl;
}

pub named : (r : Rooms) (w : Plain) (s : Table Part Seat) (c : ℕ) → Rules r w s → c < length w.routes → (slice_index s.words (4 * length w.routes + 4) == c + 1) ≡ stops w.stop w.raised c
named r w s c rules less =
    let few = rules.fixed.few in
    ap (λ n. n == c + 1) (is_word s (4 * length w.routes + 4) (stop_number w.stop w.raised) rules.shows.words.stop_is)
    ∙ names_so w.stop w.raised c (omega (arith, less, few))

-- A holder looks at it.
module _ (r : Rooms) (w : Plain) (s : Table Part Seat) (id : ℕ) (v : Seat) (sits : Sits r w s id v) where
  pub check_becomes : (g : Grip) → v.hand ≡ Some g → MayCheck g → (out : List (ℕ × Part)) → KeepsSound (Checks id g.croutine)
      → Becomes r (Checks id g.croutine) w (stepped s (4 * length w.routes + 4) (slice_index s.words (4 * length w.routes + 4)) id out
      (checking v g (slice_index s.words (4 * length w.routes + 4) == g.croutine + 1)) keeps)
  check_becomes g e may out keep =
      let t = spread s in
      let c : ℕ = g.croutine in
      let i : ℕ = 4 * length w.routes + 4 in
      let x : ℕ = slice_index s.words i in
      let found : Bool = x == c + 1 in
      let v' : Seat = checking v g found in
      let w' : Plain = after_check id c w in
      let less : c < length w.routes = croutine_known r w s id v sits g e in
      let found_is : found ≡ stops w.stop w.raised c = named r w s c sits.rules less in
      let k = mine r w s id v sits in
      let same : (m : ℕ) → set_at i x t.word m ≡ t.word m = λ m. unseen (λ (y : ℕ). y) i x t.word m (sym (word_is s i x refl)) in
      let others : OthersStay (length w.routes) i x t.word = record { state_same = λ d. same (4 * d + 5); flag_same = λ d. same (4 * d + 6); clock_same = same 1; closing_same = same 2; stop_same = same i } in
      let happens : Checks id c w w' = record {
        held = in_phase r w s id v sits g Known e may.known;
        ready = sym (ap (λ (y : RoutineView). y.state) (routine_known r w s id v sits g e)) ∙ may.ready;
        effect = refl;
      } in
      let shows : Shows r w' (after t i x id v' t.home) = record {
        parts = parts_same sits.rules.shows.parts i x id v' (stop_doors (length w.routes) x t.word) (tape_same r w s id v sits) (visit_same r w s id v sits) (λ d. ap (routine_of d) (sym (hand_is r w s id v sits g e)));
        words = same_words i x others sits.rules.shows.words;
        threads = threads_hand sits.rules.shows.threads id v v' (seat_is r w s id v sits) refl refl refl refl (hand c (phase_after_check w c)) (ap (λ b. hand c (phase_checked b)) (sym found_is));
      } in record {
        world = w';
        routes = refl;
        counts = refl;
        stop = refl;
        happens = happens;
        rules = rules_after r w s id v sits w' refl refl refl (nothing_grows w.routes w.tape w.clock w.calls w.closing w.raised id) v' i x out keeps (keep w w' happens sits.rules.sound)
            (subst (Shows r w') (sym (spread_keeps s i x id v' out (omega (arith, wide_is r w s id v sits)) (seat_in r w s id v sits))) shows) refl refl refl
            record { made = k.made; joined = λ z. absurd (sits.live z); calls = k.calls; past = k.past; closes = k.closes; player = k.player };
      }

-- The player raises the stop.
module _ (r : Rooms) (w : Plain) (s : Table Part Seat) (v : Seat) (sits : Sits r w s 0 v) where
  pub stop_becomes : MayRaise v → (out : List (ℕ × Part)) → KeepsSound Stops
      → Becomes r Stops w (stepped s (4 * length w.routes + 4) (stop_number w.stop true) 0 out (raising v) keeps)
  stop_becomes may out keep =
      let t = spread s in
      let i : ℕ = 4 * length w.routes + 4 in
      let x : ℕ = stop_number w.stop true in
      let v' : Seat = raising v in
      let w' : Plain = after_stop w in
      let k = mine r w s 0 v sits in
      let player = k.player refl in
      let happens : Stops w w' = record {
        owes = owes_known r w s 0 v sits may.owes;
        given = may.given;
        there = sym (k.made sits.live).2 ∙ may.there;
        unraised = sym player.3 ∙ may.unraised;
        played = sym (ap length player.0) ∙ may.played;
        effect = refl;
      } in
      let grows : Grows w.routes w.tape w.tape w.clock w.clock w.calls w.calls w.closing w.closing w.raised true 0 = record {
        rises = omega arith;
        begins = λ c. take-length (w.calls c);
        closes = λ e. e;
        player = λ ne. absurd (ne refl);
      } in
      let shows : Shows r w' (after t i x 0 v' t.home) = record {
        parts = parts_same sits.rules.shows.parts i x 0 v' (stop_doors (length w.routes) x t.word) (tape_same r w s 0 v sits) (visit_same r w s 0 v sits) (hand_same r w s 0 v sits);
        words = stop_stored x sits.rules.shows.words;
        threads = threads_still sits.rules.shows.threads 0 v v' (seat_is r w s 0 v sits) refl refl refl refl refl;
      } in record {
        world = w';
        routes = refl;
        counts = refl;
        stop = refl;
        happens = happens;
        rules = rules_after r w s 0 v sits w' refl refl refl grows v' i x out keeps (keep w w' happens sits.rules.sound)
            (subst (Shows r w') (sym (spread_keeps s i x 0 v' out (omega (arith, wide_is r w s 0 v sits)) (seat_in r w s 0 v sits))) shows) refl refl refl
            record {
              made = k.made;
              joined = λ z. absurd (sits.live z);
              calls = k.calls;
              past = k.past;
              closes = k.closes;
              player = λ z. ((k.player z).0, (k.player z).1, (k.player z).2, refl);
            };
      }
