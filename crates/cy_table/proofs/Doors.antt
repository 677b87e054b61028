-- What the slots show after a step on a door, and the swaps of doors.
use Rattle.std.proofs.Common.{ℕ, ◌+◌, ◌*◌, ◌≡◌, ◌≢◌, ◌<◌, refl, sym, ◌∙◌, ap, subst, inl, inr, List, length, length-set, Option, Some, None, arith}
use Rattle.std.proofs.lemmas.Option.{none-some}
use mathlib.Core.Option.{some, none}
use lib.ListN.{get_elem?}
use Rattle.atomic_table.specs.Table.{State as Table, stepped, keeps, takes}
use Rattle.cy_fuse.specs.Visitor.{VisitorView}
use Rattle.cy_comp.specs.Routine.{RoutineView}
use Rattle.wake_core.specs.Run.{set_at}
use Rattle.wake_core.specs.Plain.{Plain}
use Rattle.cy_table.specs.declared.part.Part.{Part}
use Rattle.cy_table.specs.declared.part.Part.TheVariants as part
use Rattle.cy_table.specs.Seats.{Seat, Visit, TapeView}
use Rattle.cy_table.specs.Shown.{Rooms, Spread, Home, spread, routine_in, visitor_in, tape_in, routine_of, visitor_of, Kept, visitor_at, tape_at}
use Rattle.cy_table.specs.Rule.{Rules, Shows, ShowsParts}
use Rattle.cy_table.specs.Steps.{Sits, entering, visiting}
use Rattle.cy_table.proofs.Places.{place, there, other, home_is, after, spread_takes}
use Rattle.cy_table.proofs.Keeping.{at_home, is_shut, has_it, taken, given}
use Rattle.cy_table.proofs.Parts.{visitor_here, visitor_else, OthersStay, same_words, tape_beside, routine_beside, visitor_beside, threads_still}
use Rattle.cy_table.proofs.Knowing.{nothing_grows, rules_after}
use Rattle.cy_table.proofs.Holding.{wide_is, deep_is, seat_is, seat_in, mine, unmoved}

pub tape_others : (n x : ℕ) (word : ℕ → ℕ) → OthersStay n 3 x word
tape_others n x word = record {
  state_same = λ d. other 3 x word (4 * d + 5) (λ a. omega arith);
  flag_same = λ d. other 3 x word (4 * d + 6) (λ a. omega arith);
  clock_same = other 3 x word 1 (λ a. omega arith);
  closing_same = other 3 x word 2 (λ a. omega arith);
  stop_same = other 3 x word (4 * n + 4) (λ a. omega arith);
}

pub visitor_others : (n c x : ℕ) (word : ℕ → ℕ) → OthersStay n (4 * c + 7) x word
visitor_others n c x word = let i : ℕ = 4 * c + 7 in record {
  state_same = λ d. other i x word (4 * d + 5) (λ a. omega arith);
  flag_same = λ d. other i x word (4 * d + 6) (λ a. omega arith);
  clock_same = other i x word 1 (λ a. omega arith);
  closing_same = other i x word 2 (λ a. omega arith);
  stop_same = other i x word (4 * n + 4) (λ a. omega arith);
}

module _ {n : ℕ} {tape : TapeView} {routines : ℕ → RoutineView} {visitors : ℕ → VisitorView} {t : Spread} (sh : ShowsParts n tape routines visitors t) (id : ℕ) (v : Seat) where
  -- The tape is taken, or given back as another.
  pub tape_taken : v.visit ≡ (t.seat id).visit → ((c : ℕ) → routine_of c v.hand ≡ routine_of c (t.seat id).hand) → v.tape ≡ Some tape → t.word 3 ≡ 0
      → ShowsParts n tape routines visitors (after t 3 1 id v (set_at 0 (some none) t.home))
  tape_taken visit_is hand_same has free = let h = set_at 0 (some none) t.home in record {
    tape_kept = taken sh.tape_kept id (λ j ne. ap (λ (u : Seat). u.tape) (other id v t.seat j ne)) free (there 3 1 t.word 3 refl) (ap (λ (u : Seat). u.tape) (there id v t.seat id refl) ∙ has);
    routine_kept = λ c less. routine_beside sh 3 1 id v h c less (other 3 1 t.word (4 * c + 4) (λ a. omega arith)) (other 0 (some none) t.home (2 * c + 1) (λ a. omega arith)) (hand_same c);
    visitor_kept = λ c less. visitor_beside sh 3 1 id v h c less (other 3 1 t.word (4 * c + 7) (λ a. omega arith)) (other 0 (some none) t.home (2 * c + 2) (λ a. omega arith)) (ap (visitor_of c) visit_is);
  }

  pub tape_given : (x x' : TapeView) (routines' : ℕ → RoutineView) → (t.seat id).tape ≡ Some x → v.tape ≡ None → v.visit ≡ (t.seat id).visit
      → ((c : ℕ) → c < n → Kept (routine_in (set_at 0 (some (some (part.Tape x'))) t.home (2 * c + 1))) (set_at 3 0 t.word (4 * c + 4)) (λ j. routine_of c (set_at id v t.seat j).hand) (routines' c))
      → ShowsParts n x' routines' visitors (after t 3 0 id v (set_at 0 (some (some (part.Tape x'))) t.home))
  tape_given x x' routines' had gone visit_is kept = let back : Home = some (some (part.Tape x')) in let h = set_at 0 back t.home in record {
    tape_kept = given sh.tape_kept id (λ j ne. ap (λ (u : Seat). u.tape) (other id v t.seat j ne)) x x' had (there 3 0 t.word 3 refl) (ap tape_in (there 0 back t.home 0 refl))
        (ap (λ (u : Seat). u.tape) (there id v t.seat id refl) ∙ gone);
    routine_kept = kept;
    visitor_kept = λ c less. visitor_beside sh 3 0 id v h c less (other 3 0 t.word (4 * c + 7) (λ a. omega arith)) (other 0 back t.home (2 * c + 2) (λ a. omega arith)) (ap (visitor_of c) visit_is);
  }

  -- A visitor is taken, or given back as another.
  pub visitor_taken : (c : ℕ) → v.tape ≡ (t.seat id).tape → ((d : ℕ) → routine_of d v.hand ≡ routine_of d (t.seat id).hand) → (t.seat id).visit ≡ None → (a : Visit) → v.visit ≡ Some a → a.component ≡ c
      → a.visitor ≡ visitors c → t.word (4 * c + 7) ≡ 0
      → ShowsParts n tape routines visitors (after t (4 * c + 7) 1 id v (set_at (2 * c + 2) (some none) t.home))
  visitor_taken c tape_is hand_same idle a has who what free = let i : ℕ = 4 * c + 7 in let h = set_at (2 * c + 2) (some none) t.home in record {
    tape_kept = tape_beside sh i 1 id v h (other i 1 t.word 3 (λ e. omega arith)) (other (2 * c + 2) (some none) t.home 0 (λ e. omega arith)) tape_is;
    routine_kept = λ d less. routine_beside sh i 1 id v h d less (other i 1 t.word (4 * d + 4) (λ e. omega arith)) (other (2 * c + 2) (some none) t.home (2 * d + 1) (λ e. omega arith)) (hand_same d);
    visitor_kept = λ d less. elim (place d c) [
      | inl e ↦ taken (sh.visitor_kept d less) id (λ j ne. ap (λ (u : Seat). visitor_of d u.visit) (other id v t.seat j ne)) (ap (λ m. t.word (4 * m + 7)) e ∙ free)
          (there i 1 t.word (4 * d + 7) (omega (arith, e)))
          (ap (λ (u : Seat). visitor_of d u.visit) (there id v t.seat id refl) ∙ (ap (visitor_of d) has ∙ (visitor_here d a (who ∙ sym e) ∙ ap Some (what ∙ ap visitors (sym e)))))
      | inr e ↦ visitor_beside sh i 1 id v h d less (other i 1 t.word (4 * d + 7) (λ k. e (omega arith))) (other (2 * c + 2) (some none) t.home (2 * d + 2) (λ k. e (omega arith)))
          (ap (visitor_of d) has ∙ (visitor_else d a (λ k. e (sym k ∙ who)) ∙ sym (ap (visitor_of d) idle)))
    ];
  }

  pub visitor_given : (a : Visit) (x' : VisitorView) (visitors' : ℕ → VisitorView) (routines' : ℕ → RoutineView) → v.tape ≡ (t.seat id).tape → (t.seat id).visit ≡ Some a → v.visit ≡ None
      → x' ≡ visitors' a.component → ((d : ℕ) → d ≢ a.component → visitors d ≡ visitors' d)
      → ((c : ℕ) → c < n → Kept (routine_in (set_at (2 * a.component + 2) (some (some (part.Visitor x'))) t.home (2 * c + 1))) (set_at (4 * a.component + 7) 0 t.word (4 * c + 4))
      (λ j. routine_of c (set_at id v t.seat j).hand) (routines' c))
      → ShowsParts n tape routines' visitors' (after t (4 * a.component + 7) 0 id v (set_at (2 * a.component + 2) (some (some (part.Visitor x'))) t.home))
  visitor_given a x' visitors' routines' tape_is had gone same others kept =
      let c : ℕ = a.component in let i : ℕ = 4 * c + 7 in let back : Home = some (some (part.Visitor x')) in let h = set_at (2 * c + 2) back t.home in record {
        tape_kept = tape_beside sh i 0 id v h (other i 0 t.word 3 (λ e. omega arith)) (other (2 * c + 2) back t.home 0 (λ e. omega arith)) tape_is;
        routine_kept = kept;
        visitor_kept = λ d less. elim (place d c) [
          | inl e ↦ given (sh.visitor_kept d less) id (λ j ne. ap (λ (u : Seat). visitor_of d u.visit) (other id v t.seat j ne)) a.visitor (visitors' d)
              (ap (visitor_of d) had ∙ visitor_here d a (sym e))
              (there i 0 t.word (4 * d + 7) (omega (arith, e)))
              (ap visitor_in (there (2 * c + 2) back t.home (2 * d + 2) (omega (arith, e))) ∙ ap Some (same ∙ ap visitors' (sym e)))
              (ap (λ (u : Seat). visitor_of d u.visit) (there id v t.seat id refl) ∙ ap (visitor_of d) gone)
          | inr e ↦ subst (λ (y : VisitorView). Kept (visitor_in (h (2 * d + 2))) (set_at i 0 t.word (4 * d + 7)) (λ j. visitor_of d (set_at id v t.seat j).visit) y) (others d e)
              (visitor_beside sh i 0 id v h d less (other i 0 t.word (4 * d + 7) (λ k. e (omega arith))) (other (2 * c + 2) back t.home (2 * d + 2) (λ k. e (omega arith)))
              (ap (visitor_of d) gone ∙ sym (ap (visitor_of d) had ∙ visitor_else d a (λ k. e (sym k)))))
        ];
      }

abbrev tape_or : TapeView → Option TapeView → TapeView
tape_or d None = d
tape_or d (Some x) = x

abbrev visitor_or : VisitorView → Option VisitorView → VisitorView
visitor_or d None = d
visitor_or d (Some x) = x

pub tape_back : (h : Home) (x : TapeView) → tape_in h ≡ Some x → h ≡ some (some (part.Tape x))
tape_back none x e = absurd (none-some x e)
tape_back (some none) x e = absurd (none-some x e)
tape_back (some (some part.Away)) x e = absurd (none-some x e)
tape_back (some (some (part.Routine y))) x e = absurd (none-some x e)
tape_back (some (some (part.Visitor y))) x e = absurd (none-some x e)
tape_back (some (some (part.Tape y))) x e = ap (λ (o : Option TapeView). some (some (part.Tape (tape_or x o)))) e

pub visitor_back : (h : Home) (x : VisitorView) → visitor_in h ≡ Some x → h ≡ some (some (part.Visitor x))
visitor_back none x e = absurd (none-some x e)
visitor_back (some none) x e = absurd (none-some x e)
visitor_back (some (some part.Away)) x e = absurd (none-some x e)
visitor_back (some (some (part.Routine y))) x e = absurd (none-some x e)
visitor_back (some (some (part.Visitor y))) x e = ap (λ (o : Option VisitorView). some (some (part.Visitor (visitor_or x o)))) e
visitor_back (some (some (part.Tape y))) x e = absurd (none-some x e)

module _ (r : Rooms) (w : Plain) (s : Table Part Seat) (id : ℕ) (v : Seat) (sits : Sits r w s id v) where
  -- What the seats say of what is behind a door.
  pub tape_known : (x : TapeView) → v.tape ≡ Some x → x ≡ tape_at r w
  tape_known x e = (has_it sits.rules.shows.parts.tape_kept id x (ap (λ (u : Seat). u.tape) (seat_is r w s id v sits) ∙ e)).1

  pub visitor_known : (a : Visit) → v.visit ≡ Some a → a.component < length w.routes → a.visitor ≡ visitor_at r w a.component
  visitor_known a e less = (has_it (sits.rules.shows.parts.visitor_kept a.component less) id a.visitor
      (ap (λ (u : Seat). visitor_of a.component u.visit) (seat_is r w s id v sits) ∙ (ap (visitor_of a.component) e ∙ visitor_here a.component a refl))).1

  -- A door was found open.
  pub enter_tape : v.tape ≡ None → (spread s).word 3 ≡ 0 → (out : List (ℕ × Part))
      → (x : TapeView) × (get_elem? s.homes 0 ≡ some (some (part.Tape x))) × (x ≡ tape_at r w) × Rules r w (stepped s 3 1 id out (entering v x) (takes 0 (part.Tape x)))
  enter_tape bare free out =
      let t = spread s in
      let x : TapeView = tape_at r w in
      let v' : Seat = entering v x in
      let at = seat_is r w s id v sits in
      let home = at_home sits.rules.shows.parts.tape_kept free in
      let k = mine r w s id v sits in
      let shows : Shows r w (after t 3 1 id v' (set_at 0 (some none) t.home)) = record {
        parts = tape_taken sits.rules.shows.parts id v' (ap (λ (u : Seat). u.visit) (sym at)) (λ c. ap (λ (u : Seat). routine_of c u.hand) (sym at)) refl free;
        words = same_words 3 1 (tape_others (length w.routes) 1 t.word) sits.rules.shows.words;
        threads = threads_still sits.rules.shows.threads id v v' at refl refl refl refl refl;
      } in (
        x,
        home_is s 0 (some (some (part.Tape x))) (tape_back (t.home 0) x home.shown),
        refl,
        rules_after r w s id v sits w refl refl refl (nothing_grows w.routes w.tape w.clock w.calls w.closing w.raised id) v' 3 1 out (takes 0 (part.Tape x)) sits.rules.sound
            (subst (Shows r w) (sym (spread_takes s 3 1 id v' out (omega (arith, wide_is r w s id v sits)) (seat_in r w s id v sits) 0 (part.Tape x) (omega (arith, deep_is r w s id v sits)))) shows)
            (length-set s.homes 0 none) refl refl
            record { made = k.made; joined = λ z. absurd (sits.live z); calls = k.calls; past = k.past; closes = k.closes; player = k.player },
      )

  pub enter_visitor : (c : ℕ) → c < length w.routes → v.visit ≡ None → (spread s).word (4 * c + 7) ≡ 0 → (out : List (ℕ × Part))
      → (x : VisitorView) × (get_elem? s.homes (2 * c + 2) ≡ some (some (part.Visitor x))) × (x ≡ visitor_at r w c)
      × Rules r w (stepped s (4 * c + 7) 1 id out (visiting v c x) (takes (2 * c + 2) (part.Visitor x)))
  enter_visitor c less bare free out =
      let t = spread s in
      let i : ℕ = 4 * c + 7 in
      let x : VisitorView = visitor_at r w c in
      let a : Visit = record { component = c; visitor = x } in
      let v' : Seat = visiting v c x in
      let at = seat_is r w s id v sits in
      let home = at_home (sits.rules.shows.parts.visitor_kept c less) free in
      let k = mine r w s id v sits in
      let shows : Shows r w (after t i 1 id v' (set_at (2 * c + 2) (some none) t.home)) = record {
        parts = visitor_taken sits.rules.shows.parts id v' c (ap (λ (u : Seat). u.tape) (sym at)) (λ d. ap (λ (u : Seat). routine_of d u.hand) (sym at)) (ap (λ (u : Seat). u.visit) at ∙ bare) a refl refl refl free;
        words = same_words i 1 (visitor_others (length w.routes) c 1 t.word) sits.rules.shows.words;
        threads = threads_still sits.rules.shows.threads id v v' at refl refl refl refl refl;
      } in (
        x,
        home_is s (2 * c + 2) (some (some (part.Visitor x))) (visitor_back (t.home (2 * c + 2)) x home.shown),
        refl,
        rules_after r w s id v sits w refl refl refl (nothing_grows w.routes w.tape w.clock w.calls w.closing w.raised id) v' i 1 out (takes (2 * c + 2) (part.Visitor x)) sits.rules.sound
            (subst (Shows r w) (sym (spread_takes s i 1 id v' out (omega (arith, wide_is r w s id v sits, less)) (seat_in r w s id v sits) (2 * c + 2) (part.Visitor x) (omega (arith, deep_is r w s id v sits, less)))) shows)
            (length-set s.homes (2 * c + 2) none) refl refl
            record { made = k.made; joined = λ z. absurd (sits.live z); calls = k.calls; past = k.past; closes = k.closes; player = k.player },
      )

  -- It was found shut.
  pub tape_shut : (spread s).word 3 ≢ 0 → (out : List (ℕ × Part)) → Rules r w (stepped s 3 1 id out v keeps)
  tape_shut shut out = unmoved r w s id v sits 3 1 (omega (arith, wide_is r w s id v sits)) (is_shut sits.rules.shows.parts.tape_kept shut) v.note v.clock v.closing out (mine r w s id v sits)

  pub visitor_shut : (c : ℕ) → c < length w.routes → (spread s).word (4 * c + 7) ≢ 0 → (out : List (ℕ × Part)) → Rules r w (stepped s (4 * c + 7) 1 id out v keeps)
  visitor_shut c less shut out =
      unmoved r w s id v sits (4 * c + 7) 1 (omega (arith, wide_is r w s id v sits, less)) (is_shut (sits.rules.shows.parts.visitor_kept c less) shut) v.note v.clock v.closing out (mine r w s id v sits)
