-- The steps of a flag, of the clock and of closing, and the look at a state.
use Rattle.std.proofs.Common.{ℕ, ◌+◌, ◌*◌, ◌≡◌, ◌≤◌, ◌<◌, ◌==◌, Bool, true, false, cond, refl, sym, ◌∙◌, ap, ap₂, subst, inl, inr, List, [], ◌∷◌, ◌++◌, length, slice_index, Some, arith}
use Rattle.std.proofs.Math.Seq.{take-length}
use Rattle.atomic_table.specs.Table.{State as Table, stepped, keeps}
use Rattle.cy_comp.specs.declared.state.State.{State}
use Rattle.cy_comp.specs.declared.state.State.TheVariants.{Ready, DataWait, Sleep, Finished}
use Rattle.cy_comp.specs.Routine.{RoutineView}
use Rattle.wake_core.specs.declared.route.Route.{Route}
use Rattle.wake_core.specs.declared.phase.Phase.TheVariants.{Fresh}
use Rattle.wake_core.specs.Run.{set_at}
use Rattle.wake_core.specs.Plain.{Plain, hand, to_play_from}
use Rattle.wake_core.specs.Events.{IsDue, is_waiting, phase_after_spend, Spends, Looks, Clears, Ticks, Closes, after_spend, after_look, after_clear}
use Rattle.wake_core.specs.Laws.{KeepsSound}
use Rattle.cy_table.specs.declared.part.Part.{Part}
use Rattle.cy_table.specs.Layout.{state_number, yes_or_no}
use Rattle.cy_table.specs.Seats.{Seat, Grip}
use Rattle.cy_table.specs.Seats.Entry.{Clock, Closing}
use Rattle.cy_table.specs.Shown.{Rooms, spread, routine_of, hand_of}
use Rattle.cy_table.specs.Rule.{Rules, Shows, ShowsWords}
use Rattle.cy_table.specs.Steps.{Sits, Becomes, MaySpend, spending, looking, clearing_but, seeing, ticking, heeding, closing_all, MayClose}
use Rattle.cy_table.proofs.Places.{place, there, other, unseen, shown_still, shown_anew, token_still, word_is, is_word, after, spread_keeps}
use Rattle.cy_table.proofs.Parts.{DoorsStay, OthersStay, same_words, parts_same, state_doors, threads_hand, threads_still}
use Rattle.cy_table.proofs.Knowing.{Grows, nothing_grows, rules_after}
use Rattle.cy_table.proofs.Holding.{wide_is, seat_is, seat_in, hand_is, croutine_known, routine_known, in_phase, owes_known, mine, unmoved}

yes_is : (b : Bool) → (yes_or_no b == 1) ≡ b
yes_is false = refl
yes_is true = refl

waits_is : (st : State) → (state_number st == 1) ≡ is_waiting st
waits_is Ready = refl
waits_is DataWait = refl
waits_is (Sleep until) = refl
waits_is Finished = refl

flag_doors : (n c x : ℕ) (word : ℕ → ℕ) → DoorsStay n (4 * c + 6) x word
flag_doors n c x word = let i : ℕ = 4 * c + 6 in record {
  tape_same = other i x word 3 (λ a. omega arith);
  hold_same = λ d less. other i x word (4 * d + 4) (λ a. omega arith);
  visitor_same = λ d. other i x word (4 * d + 7) (λ a. omega arith);
}

clock_doors : (n x : ℕ) (word : ℕ → ℕ) → DoorsStay n 1 x word
clock_doors n x word = record {
  tape_same = other 1 x word 3 (λ a. omega arith);
  hold_same = λ d less. other 1 x word (4 * d + 4) (λ a. omega arith);
  visitor_same = λ d. other 1 x word (4 * d + 7) (λ a. omega arith);
}

closing_doors : (n x : ℕ) (word : ℕ → ℕ) → DoorsStay n 2 x word
closing_doors n x word = record {
  tape_same = other 2 x word 3 (λ a. omega arith);
  hold_same = λ d less. other 2 x word (4 * d + 4) (λ a. omega arith);
  visitor_same = λ d. other 2 x word (4 * d + 7) (λ a. omega arith);
}

-- The words, where a flag, the clock or closing is stored.
module _ {n : ℕ} {states : ℕ → State} {spent : ℕ → Bool} {clock : ℕ} {closing : Bool} {stop : ℕ} {word : ℕ → ℕ} (sh : ShowsWords n states spent clock closing stop word) where
  flag_stored : (c : ℕ) (b : Bool) → ShowsWords n states (set_at c b spent) clock closing stop (set_at (4 * c + 6) (yes_or_no b) word)
  flag_stored c b = let i : ℕ = 4 * c + 6 in let x : ℕ = yes_or_no b in record {
    state = λ d less. other i x word (4 * d + 5) (λ a. omega arith) ∙ sh.state d less;
    flag = λ d less. elim (place d c) [
      | inl e ↦ there i x word (4 * d + 6) (omega (arith, e)) ∙ ap yes_or_no (sym (there c b spent d e))
      | inr e ↦ other i x word (4 * d + 6) (λ a. e (omega arith)) ∙ (sh.flag d less ∙ ap yes_or_no (sym (other c b spent d e)))
    ];
    clock_is = other i x word 1 (λ a. omega arith) ∙ sh.clock_is;
    closing_is = other i x word 2 (λ a. omega arith) ∙ sh.closing_is;
    stop_is = other i x word (4 * n + 4) (λ a. omega arith) ∙ sh.stop_is;
  }

  clock_stored : (time : ℕ) → ShowsWords n states spent time closing stop (set_at 1 time word)
  clock_stored time = record {
    state = λ d less. other 1 time word (4 * d + 5) (λ a. omega arith) ∙ sh.state d less;
    flag = λ d less. other 1 time word (4 * d + 6) (λ a. omega arith) ∙ sh.flag d less;
    clock_is = there 1 time word 1 refl;
    closing_is = other 1 time word 2 (λ a. omega arith) ∙ sh.closing_is;
    stop_is = other 1 time word (4 * n + 4) (λ a. omega arith) ∙ sh.stop_is;
  }

  closing_stored : ShowsWords n states spent clock true stop (set_at 2 1 word)
  closing_stored = record {
    state = λ d less. other 2 1 word (4 * d + 5) (λ a. omega arith) ∙ sh.state d less;
    flag = λ d less. other 2 1 word (4 * d + 6) (λ a. omega arith) ∙ sh.flag d less;
    clock_is = other 2 1 word 1 (λ a. omega arith) ∙ sh.clock_is;
    closing_is = there 2 1 word 2 refl;
    stop_is = other 2 1 word (4 * n + 4) (λ a. omega arith) ∙ sh.stop_is;
  }

module _ (r : Rooms) (w : Plain) (s : Table Part Seat) (id : ℕ) (v : Seat) (sits : Sits r w s id v) where
  pub tape_same : v.tape ≡ ((spread s).seat id).tape
  tape_same = ap (λ (u : Seat). u.tape) (sym (seat_is r w s id v sits))

  pub visit_same : v.visit ≡ ((spread s).seat id).visit
  visit_same = ap (λ (u : Seat). u.visit) (sym (seat_is r w s id v sits))

  pub hand_same : (c : ℕ) → routine_of c v.hand ≡ routine_of c ((spread s).seat id).hand
  hand_same c = ap (λ (u : Seat). routine_of c u.hand) (sym (seat_is r w s id v sits))

  state_word_is : (c : ℕ) → c < length w.routes → state_number (w.states c) ≡ slice_index s.words (4 * c + 5)
  state_word_is c less = sym (is_word s (4 * c + 5) (state_number (w.states c)) (sits.rules.shows.words.state c less))

  flag_word_is : (c : ℕ) → c < length w.routes → yes_or_no (w.spent c) ≡ slice_index s.words (4 * c + 6)
  flag_word_is c less = sym (is_word s (4 * c + 6) (yes_or_no (w.spent c)) (sits.rules.shows.words.flag c less))

  pub clock_word_is : w.clock ≡ slice_index s.words 1
  clock_word_is = sym (is_word s 1 w.clock sits.rules.shows.words.clock_is)

  closing_word_is : yes_or_no w.closing ≡ slice_index s.words 2
  closing_word_is = sym (is_word s 2 (yes_or_no w.closing) sits.rules.shows.words.closing_is)

  -- A flag is spent.
  pub spend_becomes : (g : Grip) → v.hand ≡ Some g → MaySpend v g → (out : List (ℕ × Part)) → KeepsSound (Spends id g.croutine v.clock)
      → Becomes r (Spends id g.croutine v.clock) w (stepped s (4 * g.croutine + 6) 1 id out (spending v g (slice_index s.words (4 * g.croutine + 6) == 1)) keeps)
  spend_becomes g e may out keep =
      let t = spread s in
      let c : ℕ = g.croutine in
      let i : ℕ = 4 * c + 6 in
      let was : Bool = slice_index s.words i == 1 in
      let v' : Seat = spending v g was in
      let w' : Plain = after_spend id c w in
      let at = seat_is r w s id v sits in
      let less : c < length w.routes = croutine_known r w s id v sits g e in
      let state_is : g.routine.state ≡ w.states c = ap (λ (x : RoutineView). x.state) (routine_known r w s id v sits g e) in
      let was_is : was ≡ w.spent c = ap (λ n. n == 1) (sym (flag_word_is c less)) ∙ yes_is (w.spent c) in
      let k = mine r w s id v sits in
      let happens : Spends id c v.clock w w' = record {
        held = in_phase r w s id v sits g Fresh e may.fresh;
        past = k.past;
        not_due = λ due. may.not_due (subst (λ (st : State). IsDue st v.clock) (sym state_is) due);
        effect = refl;
      } in
      let shows : Shows r w' (after t i 1 id v' t.home) = record {
        parts = parts_same sits.rules.shows.parts i 1 id v' (flag_doors (length w.routes) c 1 t.word) tape_same visit_same (λ d. ap (routine_of d) (sym (hand_is r w s id v sits g e)));
        words = flag_stored sits.rules.shows.words c true;
        threads = threads_hand sits.rules.shows.threads id v v' at refl refl refl refl (hand c (phase_after_spend (w.states c) (w.spent c)))
            (ap₂ (λ (st : State) (b : Bool). hand c (phase_after_spend st b)) (sym state_is) (sym was_is));
      } in record {
        world = w';
        routes = refl;
        counts = refl;
        stop = refl;
        happens = happens;
        rules = rules_after r w s id v sits w' refl refl refl (nothing_grows w.routes w.tape w.clock w.calls w.closing w.raised id) v' i 1 out keeps (keep w w' happens sits.rules.sound)
            (subst (Shows r w') (sym (spread_keeps s i 1 id v' out (omega (arith, wide_is r w s id v sits, less)) (seat_in r w s id v sits))) shows) refl refl refl
            record { made = k.made; joined = λ z. absurd (sits.live z); calls = k.calls; past = k.past; closes = k.closes; player = k.player };
      }

  -- A state is looked at.
  pub look_becomes : (c : ℕ) (later : List ℕ) → v.fills ≡ [] → v.news ≡ c ∷ later → c < length w.routes → (out : List (ℕ × Part)) → KeepsSound (Looks id c)
      → Becomes r (Looks id c) w (stepped s (4 * c + 5) (slice_index s.words (4 * c + 5)) id out (looking v c later (slice_index s.words (4 * c + 5) == 1)) keeps)
  look_becomes c later filled first less out keep =
      let t = spread s in
      let i : ℕ = 4 * c + 5 in
      let x : ℕ = slice_index s.words i in
      let waits : Bool = x == 1 in
      let v' : Seat = looking v c later waits in
      let w' : Plain = after_look id c later w in
      let at = seat_is r w s id v sits in
      let th = sits.rules.shows.threads in
      let waits_are : is_waiting (w.states c) ≡ waits = sym (waits_is (w.states c)) ∙ ap (λ n. n == 1) (state_word_is c less) in
      let clearing_are : w.clearing id ≡ v.clearing = th.clearing_is id ∙ ap (λ (u : Seat). u.clearing) at in
      let k = mine r w s id v sits in
      let same : (m : ℕ) → set_at i x t.word m ≡ t.word m = λ m. unseen (λ (y : ℕ). y) i x t.word m (sym (word_is s i x refl)) in
      let others : OthersStay (length w.routes) i x t.word = record { state_same = λ d. same (4 * d + 5); flag_same = λ d. same (4 * d + 6); clock_same = same 1; closing_same = same 2; stop_same = same (4 * length w.routes + 4) } in
      let happens : Looks id c w w' = record {
        later = later;
        filled = th.fills_are id ∙ (ap (λ (u : Seat). u.fills) at ∙ filled);
        first = th.news_are id ∙ (ap (λ (u : Seat). u.news) at ∙ first);
        effect = refl;
      } in
      let shows : Shows r w' (after t i x id v' t.home) = record {
        parts = parts_same sits.rules.shows.parts i x id v' (state_doors (length w.routes) c x t.word) tape_same visit_same hand_same;
        words = same_words i x others sits.rules.shows.words;
        threads = record {
          hand_is = shown_still (λ (u : Seat). hand_of u.hand) t.seat w.hands th.hand_is id v' (ap (λ (u : Seat). hand_of u.hand) (sym at));
          fills_are = shown_still (λ (u : Seat). u.fills) t.seat w.fills th.fills_are id v' (ap (λ (u : Seat). u.fills) (sym at));
          news_are = shown_anew (λ (u : Seat). u.news) t.seat w.news th.news_are id v' later refl;
          clearing_is = shown_anew (λ (u : Seat). u.clearing) t.seat w.clearing th.clearing_is id v' (cond (is_waiting (w.states c)) (w.clearing id ++ c ∷ []) (w.clearing id))
              (ap₂ (λ (b : Bool) (l : List ℕ). cond b (l ++ c ∷ []) l) waits_are clearing_are);
          token_is = token_still t.seat w.tokens w.fills th.token_is id v' (ap (λ (u : Seat). u.token) (sym at));
        };
      } in record {
        world = w';
        routes = refl;
        counts = refl;
        stop = refl;
        happens = happens;
        rules = rules_after r w s id v sits w' refl refl refl (nothing_grows w.routes w.tape w.clock w.calls w.closing w.raised id) v' i x out keeps (keep w w' happens sits.rules.sound)
            (subst (Shows r w') (sym (spread_keeps s i x id v' out (omega (arith, wide_is r w s id v sits, less)) (seat_in r w s id v sits))) shows) refl refl refl
            record { made = k.made; joined = λ z. absurd (sits.live z); calls = k.calls; past = k.past; closes = k.closes; player = k.player };
      }

  -- A flag is cleared.
  pub clear_becomes : (c : ℕ) (before behind : List ℕ) → v.clearing ≡ before ++ c ∷ behind → c < length w.routes → (out : List (ℕ × Part)) → KeepsSound (Clears id c)
      → Becomes r (Clears id c) w (stepped s (4 * c + 6) 0 id out (clearing_but v (before ++ behind)) keeps)
  clear_becomes c before behind is less out keep =
      let t = spread s in
      let i : ℕ = 4 * c + 6 in
      let v' : Seat = clearing_but v (before ++ behind) in
      let w' : Plain = after_clear id c (before ++ behind) w in
      let at = seat_is r w s id v sits in
      let th = sits.rules.shows.threads in
      let k = mine r w s id v sits in
      let happens : Clears id c w w' = record { before = before; after = behind; there = th.clearing_is id ∙ (ap (λ (u : Seat). u.clearing) at ∙ is); effect = refl } in
      let shows : Shows r w' (after t i 0 id v' t.home) = record {
        parts = parts_same sits.rules.shows.parts i 0 id v' (flag_doors (length w.routes) c 0 t.word) tape_same visit_same hand_same;
        words = flag_stored sits.rules.shows.words c false;
        threads = record {
          hand_is = shown_still (λ (u : Seat). hand_of u.hand) t.seat w.hands th.hand_is id v' (ap (λ (u : Seat). hand_of u.hand) (sym at));
          fills_are = shown_still (λ (u : Seat). u.fills) t.seat w.fills th.fills_are id v' (ap (λ (u : Seat). u.fills) (sym at));
          news_are = shown_still (λ (u : Seat). u.news) t.seat w.news th.news_are id v' (ap (λ (u : Seat). u.news) (sym at));
          clearing_is = shown_anew (λ (u : Seat). u.clearing) t.seat w.clearing th.clearing_is id v' (before ++ behind) refl;
          token_is = token_still t.seat w.tokens w.fills th.token_is id v' (ap (λ (u : Seat). u.token) (sym at));
        };
      } in record {
        world = w';
        routes = refl;
        counts = refl;
        stop = refl;
        happens = happens;
        rules = rules_after r w s id v sits w' refl refl refl (nothing_grows w.routes w.tape w.clock w.calls w.closing w.raised id) v' i 0 out keeps (keep w w' happens sits.rules.sound)
            (subst (Shows r w') (sym (spread_keeps s i 0 id v' out (omega (arith, wide_is r w s id v sits, less)) (seat_in r w s id v sits))) shows) refl refl refl
            record { made = k.made; joined = λ z. absurd (sits.live z); calls = k.calls; past = k.past; closes = k.closes; player = k.player };
      }

  -- The clock is seen.
  pub clock_rises : v.clock ≤ slice_index s.words 1
  clock_rises = let past = (mine r w s id v sits).past in let is = clock_word_is in omega (arith, past, is)

  pub clock_seen : (out : List (ℕ × Part)) → Rules r w (stepped s 1 (slice_index s.words 1) id out (seeing v (slice_index s.words 1)) keeps)
  clock_seen out =
      let x : ℕ = slice_index s.words 1 in
      let is : w.clock ≡ x = clock_word_is in
      let k = mine r w s id v sits in
      unmoved r w s id v sits 1 x (omega (arith, wide_is r w s id v sits)) (word_is s 1 x refl) (v.note ++ Clock x ∷ []) x v.closing out
      record {
        made = k.made;
        joined = λ z. absurd (sits.live z);
        calls = k.calls;
        past = omega (arith, is);
        closes = k.closes;
        player = λ z. ((k.player z).0, sym is, (k.player z).2, (k.player z).3);
      }

  -- Closing is seen.
  pub closing_is : (slice_index s.words 2 == 1) ≡ w.closing
  closing_is = ap (λ n. n == 1) (sym closing_word_is) ∙ yes_is w.closing

  pub closing_seen : (out : List (ℕ × Part)) → Rules r w (stepped s 2 (slice_index s.words 2) id out (heeding v (slice_index s.words 2 == 1)) keeps)
  closing_seen out =
      let x : ℕ = slice_index s.words 2 in
      let found : Bool = x == 1 in
      let is : found ≡ w.closing = closing_is in
      let k = mine r w s id v sits in
      unmoved r w s id v sits 2 x (omega (arith, wide_is r w s id v sits)) (word_is s 2 x refl) (v.note ++ Closing found ∷ []) v.clock found out
      record {
        made = k.made;
        joined = λ z. absurd (sits.live z);
        calls = k.calls;
        past = k.past;
        closes = λ e. sym is ∙ e;
        player = λ z. ((k.player z).0, (k.player z).1, is, (k.player z).3);
      }

-- The player sets the clock, and closes.
module _ (r : Rooms) (w : Plain) (s : Table Part Seat) (v : Seat) (sits : Sits r w s 0 v) where
  pub tick_becomes : (time : ℕ) → v.clock ≤ time → (out : List (ℕ × Part)) → KeepsSound (Ticks time) → Becomes r (Ticks time) w (stepped s 1 time 0 out (ticking v time) keeps)
  tick_becomes time later out keep =
      let t = spread s in
      let v' : Seat = ticking v time in
      let w' : Plain = record w { clock = time } in
      let at = seat_is r w s 0 v sits in
      let k = mine r w s 0 v sits in
      let clock_is = (k.player refl).1 in
      let rises : w.clock ≤ time = omega (arith, clock_is, later) in
      let happens : Ticks time w w' = record { later = rises; effect = refl } in
      let grows : Grows w.routes w.tape w.tape w.clock time w.calls w.calls w.closing w.closing w.raised w.raised 0 = record {
        rises = rises;
        begins = λ c. take-length (w.calls c);
        closes = λ e. e;
        player = λ ne. absurd (ne refl);
      } in
      let shows : Shows r w' (after t 1 time 0 v' t.home) = record {
        parts = parts_same sits.rules.shows.parts 1 time 0 v' (clock_doors (length w.routes) time t.word) (tape_same r w s 0 v sits) (visit_same r w s 0 v sits) (hand_same r w s 0 v sits);
        words = clock_stored sits.rules.shows.words time;
        threads = threads_still sits.rules.shows.threads 0 v v' at refl refl refl refl refl;
      } in record {
        world = w';
        routes = refl;
        counts = refl;
        stop = refl;
        happens = happens;
        rules = rules_after r w s 0 v sits w' refl refl refl grows v' 1 time out keeps (keep w w' happens sits.rules.sound)
            (subst (Shows r w') (sym (spread_keeps s 1 time 0 v' out (omega (arith, wide_is r w s 0 v sits)) (seat_in r w s 0 v sits))) shows) refl refl refl
            record {
              made = k.made;
              joined = λ z. absurd (sits.live z);
              calls = k.calls;
              past = omega arith;
              closes = k.closes;
              player = λ z. ((k.player z).0, refl, (k.player z).2, (k.player z).3);
            };
      }

  pub close_becomes : MayClose v → (out : List (ℕ × Part)) → KeepsSound Closes → Becomes r Closes w (stepped s 2 1 0 out (closing_all v) keeps)
  close_becomes may out keep =
      let t = spread s in
      let v' : Seat = closing_all v in
      let w' : Plain = record w { closing = true } in
      let at = seat_is r w s 0 v sits in
      let k = mine r w s 0 v sits in
      let made = k.made sits.live in
      let happens : Closes w w' = record {
        owes = owes_known r w s 0 v sits may.owes;
        raised = λ given there. sym (k.player refl).3 ∙ may.raised given (made.2 ∙ there);
        all = sym (ap length (k.player refl).0) ∙ (may.all ∙ ap₂ (λ (l : List Route) (counts : List ℕ). to_play_from l 0 counts) made.0 made.1);
        effect = refl;
      } in
      let grows : Grows w.routes w.tape w.tape w.clock w.clock w.calls w.calls w.closing true w.raised w.raised 0 = record {
        rises = omega arith;
        begins = λ c. take-length (w.calls c);
        closes = λ e. refl;
        player = λ ne. absurd (ne refl);
      } in
      let shows : Shows r w' (after t 2 1 0 v' t.home) = record {
        parts = parts_same sits.rules.shows.parts 2 1 0 v' (closing_doors (length w.routes) 1 t.word) (tape_same r w s 0 v sits) (visit_same r w s 0 v sits) (hand_same r w s 0 v sits);
        words = closing_stored sits.rules.shows.words;
        threads = threads_still sits.rules.shows.threads 0 v v' at refl refl refl refl refl;
      } in record {
        world = w';
        routes = refl;
        counts = refl;
        stop = refl;
        happens = happens;
        rules = rules_after r w s 0 v sits w' refl refl refl grows v' 2 1 out keeps (keep w w' happens sits.rules.sound)
            (subst (Shows r w') (sym (spread_keeps s 2 1 0 v' out (omega (arith, wide_is r w s 0 v sits)) (seat_in r w s 0 v sits))) shows) refl refl refl
            record {
              made = k.made;
              joined = λ z. absurd (sits.live z);
              calls = k.calls;
              past = k.past;
              closes = λ e. refl;
              player = λ z. ((k.player z).0, (k.player z).1, refl, (k.player z).3);
            };
      }
