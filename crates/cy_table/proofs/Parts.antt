-- What the slots, the words and the seats show after a step, part by part.
use Rattle.std.proofs.Common.{ℕ, ◌+◌, ◌*◌, ◌≡◌, ◌≢◌, ◌<◌, Bool, cond, refl, sym, ◌∙◌, ap, subst, inl, inr, Option, Some, None, List, arith}
use Rattle.std.proofs.lemmas.Bool.Decides.{eqb_tells}
use Rattle.std.proofs.lemmas.Option.{none-some}
use mathlib.Core.Option.{some, none}
use Rattle.cy_msg.specs.declared.token.Token.{Token}
use Rattle.cy_fuse.specs.Visitor.{VisitorView}
use Rattle.cy_comp.specs.Routine.{RoutineView}
use Rattle.cy_comp.specs.declared.state.State.{State}
use Rattle.wake_core.specs.declared.phase.Hand.{Hand}
use Rattle.wake_core.specs.declared.phase.Phase.{Phase}
use Rattle.wake_core.specs.Run.{set_at}
use Rattle.wake_core.specs.Plain.{hand}
use Rattle.cy_table.specs.declared.part.Part.TheVariants as part
use Rattle.cy_table.specs.Layout.{state_number}
use Rattle.cy_table.specs.Seats.{Seat, Grip, Visit, TapeView}
use Rattle.cy_table.specs.Shown.{Spread, Home, routine_in, visitor_in, tape_in, routine_of, visitor_of, hand_of, Kept}
use Rattle.cy_table.specs.Rule.{ShowsParts, ShowsWords, ShowsThreads}
use Rattle.cy_table.proofs.Places.{place, there, other, unseen, shown_still, shown_anew, token_still, after}
use Rattle.cy_table.proofs.Keeping.{stays, has_it, taken, given, turned}

pub routine_here : (c : ℕ) (g : Grip) → g.croutine ≡ c → routine_of c (Some g) ≡ Some g.routine
routine_here c g e = elim (eqb_tells g.croutine c) [ inl h ↦ ap (λ b. cond b (Some g.routine) None) h.0 | inr h ↦ absurd (h.1 e) ]

pub routine_else : (c : ℕ) (g : Grip) → g.croutine ≢ c → routine_of c (Some g) ≡ None
routine_else c g e = elim (eqb_tells g.croutine c) [ inl h ↦ absurd (e h.1) | inr h ↦ ap (λ b. cond b (Some g.routine) None) h.0 ]

pub visitor_here : (c : ℕ) (a : Visit) → a.component ≡ c → visitor_of c (Some a) ≡ Some a.visitor
visitor_here c a e = elim (eqb_tells a.component c) [ inl h ↦ ap (λ b. cond b (Some a.visitor) None) h.0 | inr h ↦ absurd (h.1 e) ]

pub visitor_else : (c : ℕ) (a : Visit) → a.component ≢ c → visitor_of c (Some a) ≡ None
visitor_else c a e = elim (eqb_tells a.component c) [ inl h ↦ absurd (e h.1) | inr h ↦ ap (λ b. cond b (Some a.visitor) None) h.0 ]

-- A seat that has nothing of a croutine doesn't hold it.
abbrev croutine_or : ℕ → Option Hand → ℕ
croutine_or d None = d
croutine_or d (Some h) = h.croutine

pub not_held : (c : ℕ) (o : Option Grip) (phase : Phase) → routine_of c o ≡ None → hand_of o ≢ hand c phase
not_held c None phase e is = none-some record { croutine = c; phase = phase } is
not_held c (Some g) phase e is = none-some g.routine (sym e ∙ routine_here c g (ap (croutine_or c) is))

-- A step leaves the doors and the hold words of n components alone.
pub record DoorsStay (n i x : ℕ) (word : ℕ → ℕ) : Type 0 where
  pub tape_same : set_at i x word 3 ≡ word 3
  pub hold_same : (c : ℕ) → c < n → set_at i x word (4 * c + 4) ≡ word (4 * c + 4)
  pub visitor_same : (c : ℕ) → set_at i x word (4 * c + 7) ≡ word (4 * c + 7)

-- .. or the others.
pub record OthersStay (n i x : ℕ) (word : ℕ → ℕ) : Type 0 where
  pub state_same : (c : ℕ) → set_at i x word (4 * c + 5) ≡ word (4 * c + 5)
  pub flag_same : (c : ℕ) → set_at i x word (4 * c + 6) ≡ word (4 * c + 6)
  pub clock_same : set_at i x word 1 ≡ word 1
  pub closing_same : set_at i x word 2 ≡ word 2
  pub stop_same : set_at i x word (4 * n + 4) ≡ word (4 * n + 4)

pub same_words : {n : ℕ} {states : ℕ → State} {spent : ℕ → Bool} {clock : ℕ} {closing : Bool} {stop : ℕ} {word : ℕ → ℕ} (i x : ℕ) → OthersStay n i x word → ShowsWords n states spent clock closing stop word
    → ShowsWords n states spent clock closing stop (set_at i x word)
same_words i x o sh = record {
  state = λ c less. o.state_same c ∙ sh.state c less;
  flag = λ c less. o.flag_same c ∙ sh.flag c less;
  clock_is = o.clock_same ∙ sh.clock_is;
  closing_is = o.closing_same ∙ sh.closing_is;
  stop_is = o.stop_same ∙ sh.stop_is;
}

module _ {n : ℕ} {tape : TapeView} {routines : ℕ → RoutineView} {visitors : ℕ → VisitorView} {t : Spread} (sh : ShowsParts n tape routines visitors t) (i x id : ℕ) (v : Seat) (h : ℕ → Home) where
  -- What the step doesn't touch.
  pub tape_beside : set_at i x t.word 3 ≡ t.word 3 → h 0 ≡ t.home 0 → v.tape ≡ (t.seat id).tape
      → Kept (tape_in (h 0)) (set_at i x t.word 3) (λ j. (set_at id v t.seat j).tape) tape
  tape_beside a b e = stays (ap tape_in b) a (λ j. unseen (λ (u : Seat). u.tape) id v t.seat j e) sh.tape_kept

  pub routine_beside : (c : ℕ) → c < n → set_at i x t.word (4 * c + 4) ≡ t.word (4 * c + 4) → h (2 * c + 1) ≡ t.home (2 * c + 1)
      → routine_of c v.hand ≡ routine_of c (t.seat id).hand
      → Kept (routine_in (h (2 * c + 1))) (set_at i x t.word (4 * c + 4)) (λ j. routine_of c (set_at id v t.seat j).hand) (routines c)
  routine_beside c less a b e = stays (ap routine_in b) a (λ j. unseen (λ (u : Seat). routine_of c u.hand) id v t.seat j e) (sh.routine_kept c less)

  pub visitor_beside : (c : ℕ) → c < n → set_at i x t.word (4 * c + 7) ≡ t.word (4 * c + 7) → h (2 * c + 2) ≡ t.home (2 * c + 2)
      → visitor_of c v.visit ≡ visitor_of c (t.seat id).visit
      → Kept (visitor_in (h (2 * c + 2))) (set_at i x t.word (4 * c + 7)) (λ j. visitor_of c (set_at id v t.seat j).visit) (visitors c)
  visitor_beside c less a b e = stays (ap visitor_in b) a (λ j. unseen (λ (u : Seat). visitor_of c u.visit) id v t.seat j e) (sh.visitor_kept c less)

  -- The routine in hand becomes another.
  pub routine_turned : (routines' : ℕ → RoutineView) (g g' : Grip) → (t.seat id).hand ≡ Some g → v.hand ≡ Some g' → g'.croutine ≡ g.croutine
      → g'.routine ≡ routines' g.croutine → ((d : ℕ) → d ≢ g.croutine → routines d ≡ routines' d)
      → (c : ℕ) → c < n → set_at i x t.word (4 * c + 4) ≡ t.word (4 * c + 4) → h (2 * c + 1) ≡ t.home (2 * c + 1)
      → Kept (routine_in (h (2 * c + 1))) (set_at i x t.word (4 * c + 4)) (λ j. routine_of c (set_at id v t.seat j).hand) (routines' c)
  routine_turned routines' g g' had has same mine others c less a b = elim (place c g.croutine) [
    | inl e ↦ turned (sh.routine_kept c less) id (λ j ne. ap (λ (u : Seat). routine_of c u.hand) (other id v t.seat j ne)) g.routine (routines' c)
        (ap (routine_of c) had ∙ routine_here c g (sym e)) a
        (ap (λ (u : Seat). routine_of c u.hand) (there id v t.seat id refl) ∙ (ap (routine_of c) has ∙ (routine_here c g' (same ∙ sym e) ∙ ap Some (mine ∙ ap routines' (sym e)))))
    | inr e ↦ subst (λ (y : RoutineView). Kept (routine_in (h (2 * c + 1))) (set_at i x t.word (4 * c + 4)) (λ j. routine_of c (set_at id v t.seat j).hand) y) (others c e)
        (routine_beside c less a b (ap (routine_of c) has ∙ (routine_else c g' (λ k. e (sym k ∙ same)) ∙ sym (ap (routine_of c) had ∙ routine_else c g (λ k. e (sym k))))))
  ]

-- All slots and doors stay, and only the routine in hand may become another.
module _ {n : ℕ} {tape : TapeView} {routines : ℕ → RoutineView} {visitors : ℕ → VisitorView} {t : Spread} (sh : ShowsParts n tape routines visitors t) (i x id : ℕ) (v : Seat) (d : DoorsStay n i x t.word)
    (tape_is : v.tape ≡ (t.seat id).tape) (visit_is : v.visit ≡ (t.seat id).visit) where
  pub parts_same : ((c : ℕ) → routine_of c v.hand ≡ routine_of c (t.seat id).hand) → ShowsParts n tape routines visitors (after t i x id v t.home)
  parts_same same = record {
    tape_kept = tape_beside sh i x id v t.home d.tape_same refl tape_is;
    routine_kept = λ c less. routine_beside sh i x id v t.home c less (d.hold_same c less) refl (same c);
    visitor_kept = λ c less. visitor_beside sh i x id v t.home c less (d.visitor_same c) refl (ap (visitor_of c) visit_is);
  }

  pub parts_turned : (routines' : ℕ → RoutineView) (g g' : Grip) → (t.seat id).hand ≡ Some g → v.hand ≡ Some g' → g'.croutine ≡ g.croutine
      → g'.routine ≡ routines' g.croutine → ((d : ℕ) → d ≢ g.croutine → routines d ≡ routines' d)
      → ShowsParts n tape routines' visitors (after t i x id v t.home)
  parts_turned routines' g g' had has same mine others = record {
    tape_kept = tape_beside sh i x id v t.home d.tape_same refl tape_is;
    routine_kept = λ c less. routine_turned sh i x id v t.home routines' g g' had has same mine others c less (d.hold_same c less) refl;
    visitor_kept = λ c less. visitor_beside sh i x id v t.home c less (d.visitor_same c) refl (ap (visitor_of c) visit_is);
  }

module _ {n : ℕ} {tape : TapeView} {routines : ℕ → RoutineView} {visitors : ℕ → VisitorView} {t : Spread} (sh : ShowsParts n tape routines visitors t) (id c : ℕ) (v : Seat)
    (tape_is : v.tape ≡ (t.seat id).tape) (visit_is : v.visit ≡ (t.seat id).visit) where
  -- A croutine that was free is taken.
  pub parts_taken : (t.seat id).hand ≡ None → (g : Grip) → v.hand ≡ Some g → g.croutine ≡ c → g.routine ≡ routines c → t.word (4 * c + 4) ≡ 0
      → ShowsParts n tape routines visitors (after t (4 * c + 4) 1 id v (set_at (2 * c + 1) (some none) t.home))
  parts_taken idle g has who what free =
      let i : ℕ = 4 * c + 4 in let h = set_at (2 * c + 1) (some none) t.home in record {
        tape_kept = tape_beside sh i 1 id v h (other i 1 t.word 3 (λ e. omega arith)) (other (2 * c + 1) (some none) t.home 0 (λ e. omega arith)) tape_is;
        routine_kept = λ d less. elim (place d c) [
          | inl e ↦ taken (sh.routine_kept d less) id (λ j ne. ap (λ (u : Seat). routine_of d u.hand) (other id v t.seat j ne)) (ap (λ m. t.word (4 * m + 4)) e ∙ free)
              (there i 1 t.word (4 * d + 4) (omega (arith, e)))
              (ap (λ (u : Seat). routine_of d u.hand) (there id v t.seat id refl) ∙ (ap (routine_of d) has ∙ (routine_here d g (who ∙ sym e) ∙ ap Some (what ∙ ap routines (sym e)))))
          | inr e ↦ routine_beside sh i 1 id v h d less (other i 1 t.word (4 * d + 4) (λ a. e (omega arith))) (other (2 * c + 1) (some none) t.home (2 * d + 1) (λ a. e (omega arith)))
              (ap (routine_of d) has ∙ (routine_else d g (λ a. e (sym a ∙ who)) ∙ sym (ap (routine_of d) idle)))
        ];
        visitor_kept = λ d less. visitor_beside sh i 1 id v h d less (other i 1 t.word (4 * d + 7) (λ a. omega arith)) (other (2 * c + 1) (some none) t.home (2 * d + 2) (λ a. omega arith)) (ap (visitor_of d) visit_is);
      }

  -- One in hand is given back.
  pub parts_given : (g : Grip) → (t.seat id).hand ≡ Some g → g.croutine ≡ c → v.hand ≡ None
      → ShowsParts n tape routines visitors (after t (4 * c + 4) 0 id v (set_at (2 * c + 1) (some (some (part.Routine g.routine))) t.home))
  parts_given g had who gone =
      let i : ℕ = 4 * c + 4 in let back : Home = some (some (part.Routine g.routine)) in let h = set_at (2 * c + 1) back t.home in record {
        tape_kept = tape_beside sh i 0 id v h (other i 0 t.word 3 (λ e. omega arith)) (other (2 * c + 1) back t.home 0 (λ e. omega arith)) tape_is;
        routine_kept = λ d less. elim (place d c) [
          | inl e ↦
              let mine : routine_of d (t.seat id).hand ≡ Some g.routine = ap (routine_of d) had ∙ routine_here d g (who ∙ sym e) in
              let known = has_it (sh.routine_kept d less) id g.routine mine in
              given (sh.routine_kept d less) id (λ j ne. ap (λ (u : Seat). routine_of d u.hand) (other id v t.seat j ne)) g.routine (routines d) mine
              (there i 0 t.word (4 * d + 4) (omega (arith, e)))
              (ap routine_in (there (2 * c + 1) back t.home (2 * d + 1) (omega (arith, e))) ∙ ap Some known.1)
              (ap (λ (u : Seat). routine_of d u.hand) (there id v t.seat id refl) ∙ ap (routine_of d) gone)
          | inr e ↦ routine_beside sh i 0 id v h d less (other i 0 t.word (4 * d + 4) (λ a. e (omega arith))) (other (2 * c + 1) back t.home (2 * d + 1) (λ a. e (omega arith)))
              (ap (routine_of d) gone ∙ sym (ap (routine_of d) had ∙ routine_else d g (λ a. e (sym a ∙ who))))
        ];
        visitor_kept = λ d less. visitor_beside sh i 0 id v h d less (other i 0 t.word (4 * d + 7) (λ a. omega arith)) (other (2 * c + 1) back t.home (2 * d + 2) (λ a. omega arith)) (ap (visitor_of d) visit_is);
      }

-- The words, where a state is stored.
pub state_stored : {n : ℕ} {states : ℕ → State} {spent : ℕ → Bool} {clock : ℕ} {closing : Bool} {stop : ℕ} {word : ℕ → ℕ} (c : ℕ) (st : State) → ShowsWords n states spent clock closing stop word
    → ShowsWords n (set_at c st states) spent clock closing stop (set_at (4 * c + 5) (state_number st) word)
state_stored {n} {states} {word} c st sh = let i : ℕ = 4 * c + 5 in let x : ℕ = state_number st in record {
  state = λ d less. elim (place d c) [
    | inl e ↦ there i x word (4 * d + 5) (omega (arith, e)) ∙ ap state_number (sym (there c st states d e))
    | inr e ↦ other i x word (4 * d + 5) (λ a. e (omega arith)) ∙ (sh.state d less ∙ ap state_number (sym (other c st states d e)))
  ];
  flag = λ d less. other i x word (4 * d + 6) (λ a. omega arith) ∙ sh.flag d less;
  clock_is = other i x word 1 (λ a. omega arith) ∙ sh.clock_is;
  closing_is = other i x word 2 (λ a. omega arith) ∙ sh.closing_is;
  stop_is = other i x word (4 * n + 4) (λ a. omega arith) ∙ sh.stop_is;
}

pub state_doors : (n c x : ℕ) (word : ℕ → ℕ) → DoorsStay n (4 * c + 5) x word
state_doors n c x word = let i : ℕ = 4 * c + 5 in record {
  tape_same = other i x word 3 (λ a. omega arith);
  hold_same = λ d less. other i x word (4 * d + 4) (λ a. omega arith);
  visitor_same = λ d. other i x word (4 * d + 7) (λ a. omega arith);
}

pub hold_others : (n c x : ℕ) (word : ℕ → ℕ) → c < n → OthersStay n (4 * c + 4) x word
hold_others n c x word less = let i : ℕ = 4 * c + 4 in record {
  state_same = λ d. other i x word (4 * d + 5) (λ a. omega arith);
  flag_same = λ d. other i x word (4 * d + 6) (λ a. omega arith);
  clock_same = other i x word 1 (λ a. omega arith);
  closing_same = other i x word 2 (λ a. omega arith);
  stop_same = other i x word (4 * n + 4) (λ a. omega (arith, less));
}

-- The seats: what is in hand changed, or nothing that they show.
module _ {hands : ℕ → Option Hand} {fills : ℕ → List (ℕ × ℕ)} {news clearing : ℕ → List ℕ} {tokens : ℕ → Token} {seat : ℕ → Seat} (th : ShowsThreads hands fills news clearing tokens seat)
    (id : ℕ) (v0 v : Seat) (at : seat id ≡ v0) (fills_is : v.fills ≡ v0.fills) (news_is : v.news ≡ v0.news) (clearing_is : v.clearing ≡ v0.clearing) (token_is : v.token ≡ v0.token) where
  pub threads_hand : (h : Option Hand) → h ≡ hand_of v.hand → ShowsThreads (set_at id h hands) fills news clearing tokens (set_at id v seat)
  threads_hand h e = record {
    hand_is = shown_anew (λ (u : Seat). hand_of u.hand) seat hands th.hand_is id v h e;
    fills_are = shown_still (λ (u : Seat). u.fills) seat fills th.fills_are id v (fills_is ∙ ap (λ (u : Seat). u.fills) (sym at));
    news_are = shown_still (λ (u : Seat). u.news) seat news th.news_are id v (news_is ∙ ap (λ (u : Seat). u.news) (sym at));
    clearing_is = shown_still (λ (u : Seat). u.clearing) seat clearing th.clearing_is id v (clearing_is ∙ ap (λ (u : Seat). u.clearing) (sym at));
    token_is = token_still seat tokens fills th.token_is id v (token_is ∙ ap (λ (u : Seat). u.token) (sym at));
  }

  pub threads_still : hand_of v.hand ≡ hand_of v0.hand → ShowsThreads hands fills news clearing tokens (set_at id v seat)
  threads_still e = record {
    hand_is = shown_still (λ (u : Seat). hand_of u.hand) seat hands th.hand_is id v (e ∙ ap (λ (u : Seat). hand_of u.hand) (sym at));
    fills_are = shown_still (λ (u : Seat). u.fills) seat fills th.fills_are id v (fills_is ∙ ap (λ (u : Seat). u.fills) (sym at));
    news_are = shown_still (λ (u : Seat). u.news) seat news th.news_are id v (news_is ∙ ap (λ (u : Seat). u.news) (sym at));
    clearing_is = shown_still (λ (u : Seat). u.clearing) seat clearing th.clearing_is id v (clearing_is ∙ ap (λ (u : Seat). u.clearing) (sym at));
    token_is = token_still seat tokens fills th.token_is id v (token_is ∙ ap (λ (u : Seat). u.token) (sym at));
  }
