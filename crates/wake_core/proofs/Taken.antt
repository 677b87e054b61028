-- A croutine is taken, or passed by, in one call at rest.
use Rattle.std.proofs.Common.{ℕ, ◌≡◌, ◌≢◌, ◌<◌, ◌||◌, Bool, true, false, not, refl, sym, ◌∙◌, ap, subst, inl, inr, arith, [], ◌∷◌, length, Option, None, if◌then◌else◌}
use Rattle.wake_core.specs.Run.{set_at}
use Rattle.wake_core.specs.Plain.{Plain, Hand, hand, State, Ready, DataWait, Sleep, Finished, Phase, Fresh, Woken, Known}
use Rattle.wake_core.specs.Events.{Acquires, Spends, Readies, Releases, after_acquire, after_spend, after_ready, after_release, phase_after_spend}
use Rattle.wake_core.specs.Sound.{Sound}
use Rattle.wake_core.specs.Rest.{IsAtRest}
use Rattle.wake_core.specs.Turns.{Takes, Passes, IsTaken, is_ready, is_due, is_woken}
use Rattle.wake_core.proofs.Places.{set_at_same, set_at_again, set_at_itself}
use Rattle.wake_core.proofs.Handing.{is_due_says, not_due_says}
use Rattle.wake_core.proofs.Taking.{takes_due, takes_woken, takes_known, passes_one}
use Rattle.wake_core.proofs.Sounding.{acquire_sound, spend_sound, ready_sound, release_sound}

ready_is : (s : State) → is_ready s ≡ true → s ≡ Ready
ready_is Ready e = refl
ready_is DataWait e = cc
ready_is (Sleep until) e = cc
ready_is Finished e = cc

other_is : (s : State) → is_ready s ≡ false → s ≢ Ready
other_is s e is = true_false (sym (ap is_ready is) ∙ e)
  where
    true_false : true ≡ false → ⊥
    true_false e = cc

-- The world that shows a croutine in hand, READY, with this flag.
abbrev pub taken_world : (c : ℕ) (flag : Bool) → Plain → Plain
taken_world c flag w = record w {
  states = set_at c Ready w.states;
  spent = set_at c flag w.spent;
  hands = set_at 0 (hand c Known) w.hands;
}

module _ (c : ℕ) (w : Plain) (rest : IsAtRest w) (known : c < length w.routes) (s : Sound w) where
  -- It is acquired first.
  abbrev m : Plain
  m = after_acquire 0 c w

  acquires : Acquires 0 c w m
  acquires = record { known = known; idle = (rest 0).hand; free = λ q f e. none_some c f (sym (rest q).hand ∙ e); effect = refl }
    where
      none_some : (k : ℕ) (f : Phase) → None ≡ hand k f → ⊥
      none_some k f e = cc

  fresh : m.hands 0 ≡ hand c Fresh
  fresh = set_at_same 0 (hand c Fresh) w.hands

  acquired_sound : Sound m
  acquired_sound = acquire_sound 0 c w m acquires s

  due_world : after_ready 0 c m ≡ taken_world c (w.spent c) w
  due_world = ap (λ (h : ℕ → Option Hand). record w { states = set_at c Ready w.states; hands = h }) (set_at_again 0 (hand c Fresh) (hand c Known) w.hands)
      ∙ ap (λ (b : ℕ → Bool). record w { states = set_at c Ready w.states; spent = b; hands = set_at 0 (hand c Known) w.hands }) (sym (set_at_itself c w.spent))

  -- It is due, and becomes READY.
  taken_due : is_due (w.states c) w.clock ≡ true → IsTaken c w (taken_world c (w.spent c) w) × Sound (taken_world c (w.spent c) w)
  taken_due e =
      let due = is_due_says (w.states c) w.clock e in
      let r : Readies 0 c m (after_ready 0 c m) = record { held = inr (fresh, due); effect = refl } in
      let t = takes_due c w m acquires (after_ready 0 c m) r due in
      subst (λ (v : Plain). IsTaken c w v × Sound v) due_world
      (record { takes = t.0; ready = t.1 }, ready_sound 0 c m (after_ready 0 c m) r acquired_sound)

  module _ (late : is_due (w.states c) w.clock ≡ false) where
    abbrev n : Plain
    n = after_spend 0 c m

    spends : Spends 0 c m.clock m n
    spends = record { held = fresh; past = omega arith; not_due = not_due_says (w.states c) w.clock late; effect = refl }

    spent_sound : Sound n
    spent_sound = spend_sound 0 c m.clock m n spends acquired_sound

    spent_hand : n.hands 0 ≡ hand c (phase_after_spend (w.states c) (w.spent c))
    spent_hand = set_at_same 0 (hand c (phase_after_spend (w.states c) (w.spent c))) m.hands

    woken_world : after_ready 0 c n ≡ taken_world c true w
    woken_world = ap (λ (h : ℕ → Option Hand). record w { states = set_at c Ready w.states; spent = set_at c true w.spent; hands = h })
        (set_at_again 0 (hand c (phase_after_spend (w.states c) (w.spent c))) (hand c Known) m.hands ∙ set_at_again 0 (hand c Fresh) (hand c Known) w.hands)

    -- It waits, and its flag was clear.
    taken_woken : is_woken (w.states c) (w.spent c) ≡ true → IsTaken c w (taken_world c true w) × Sound (taken_world c true w)
    taken_woken e =
        let woke : n.hands 0 ≡ hand c Woken = spent_hand ∙ ap (λ b. hand c (if b then Woken else Known)) e in
        let r : Readies 0 c n (after_ready 0 c n) = record { held = inl woke; effect = refl } in
        let t = takes_woken c w m acquires n spends (after_ready 0 c n) e r in
        subst (λ (v : Plain). IsTaken c w v × Sound v) woken_world
        (record { takes = t.0; ready = t.1 }, ready_sound 0 c n (after_ready 0 c n) r spent_sound)

    module _ (asleep : is_woken (w.states c) (w.spent c) ≡ false) where
      known_hand : n.hands 0 ≡ hand c Known
      known_hand = spent_hand ∙ ap (λ b. hand c (if b then Woken else Known)) asleep

      takes_it : Takes c w n
      takes_it = takes_known c w m acquires n spends asleep

      ready_world : w.states c ≡ Ready → n ≡ taken_world c true w
      ready_world is = ap (λ (h : ℕ → Option Hand). record w { spent = set_at c true w.spent; hands = h })
          (set_at_again 0 (hand c Fresh) (hand c (phase_after_spend (w.states c) (w.spent c))) w.hands ∙ ap (λ b. set_at 0 (hand c (if b then Woken else Known)) w.hands) asleep)
          ∙ ap (λ (x : ℕ → State). record w { states = x; spent = set_at c true w.spent; hands = set_at 0 (hand c Known) w.hands }) (sym (set_at_itself c w.states) ∙ ap (λ (x : State). set_at c x w.states) is)

      -- It was READY already.
      taken_ready : is_ready (w.states c) ≡ true → IsTaken c w (taken_world c true w) × Sound (taken_world c true w)
      taken_ready e =
          let is = ready_is (w.states c) e in
          subst (λ (v : Plain). IsTaken c w v × Sound v) (ready_world is) (record { takes = takes_it; ready = is }, spent_sound)

      -- It isn't READY, and is given back.
      abbrev released : Plain
      released = after_release 0 n

      releases : Releases 0 c n released
      releases = record { held = inr known_hand; effect = refl }

      passed_by : is_ready (w.states c) ≡ false → Passes (c ∷ []) w (record w { spent = set_at c true w.spent }) × Sound (record w { spent = set_at c true w.spent })
      passed_by e =
          let p = passes_one c w n released rest takes_it (other_is (w.states c) e) releases in
          subst (λ (v : Plain). Passes (c ∷ []) w v × Sound v) p.effect (p, release_sound 0 c n released releases spent_sound)

pub taken_by : (c : ℕ) (w : Plain) → IsAtRest w → c < length w.routes → Sound w → (is_ready (w.states c) || is_woken (w.states c) (w.spent c) || is_due (w.states c) w.clock) ≡ true
    → IsTaken c w (taken_world c (w.spent c || not (is_due (w.states c) w.clock)) w) × Sound (taken_world c (w.spent c || not (is_due (w.states c) w.clock)) w)
taken_by c w rest known s runs = by (is_due (w.states c) w.clock) refl
  where
    or_false : (b : Bool) → b ≡ (b || false)
    or_false true = refl
    or_false false = refl

    or_true : (b : Bool) → true ≡ (b || true)
    or_true true = refl
    or_true false = refl

    pick : (r k d : Bool) → (r || k || d) ≡ true → k ≡ false → d ≡ false → r ≡ true
    pick true k d e f g = refl
    pick false true d e f g = cc
    pick false false true e f g = cc
    pick false false false e f g = cc

    flagged : (a b : Bool) → a ≡ b → IsTaken c w (taken_world c a w) × Sound (taken_world c a w) → IsTaken c w (taken_world c b w) × Sound (taken_world c b w)
    flagged a b e t = subst (λ x. IsTaken c w (taken_world c x w) × Sound (taken_world c x w)) e t

    late_by : (k : Bool) → is_due (w.states c) w.clock ≡ false → is_woken (w.states c) (w.spent c) ≡ k → IsTaken c w (taken_world c true w) × Sound (taken_world c true w)
    late_by true late e = taken_woken c w rest known s late e
    late_by false late e = taken_ready c w rest known s late e (pick (is_ready (w.states c)) (is_woken (w.states c) (w.spent c)) (is_due (w.states c) w.clock) runs e late)

    by : (d : Bool) → is_due (w.states c) w.clock ≡ d → IsTaken c w (taken_world c (w.spent c || not (is_due (w.states c) w.clock)) w) × Sound (taken_world c (w.spent c || not (is_due (w.states c) w.clock)) w)
    by true e = flagged (w.spent c) (w.spent c || not (is_due (w.states c) w.clock)) (or_false (w.spent c) ∙ ap (λ x. w.spent c || not x) (sym e)) (taken_due c w rest known s e)
    by false e = flagged true (w.spent c || not (is_due (w.states c) w.clock)) (or_true (w.spent c) ∙ ap (λ x. w.spent c || not x) (sym e)) (late_by (is_woken (w.states c) (w.spent c)) e refl)

pub passed_when : (c : ℕ) (w : Plain) → IsAtRest w → c < length w.routes → Sound w → (is_ready (w.states c) || is_woken (w.states c) (w.spent c) || is_due (w.states c) w.clock) ≡ false
    → Passes (c ∷ []) w (record w { spent = set_at c (w.spent c || not (is_due (w.states c) w.clock)) w.spent }) × Sound (record w { spent = set_at c (w.spent c || not (is_due (w.states c) w.clock)) w.spent })
passed_when c w rest known s still =
    let late = third (is_ready (w.states c)) (is_woken (w.states c) (w.spent c)) (is_due (w.states c) w.clock) still in
    let asleep = second (is_ready (w.states c)) (is_woken (w.states c) (w.spent c)) (is_due (w.states c) w.clock) still in
    subst (λ x. Passes (c ∷ []) w (record w { spent = set_at c x w.spent }) × Sound (record w { spent = set_at c x w.spent }))
    (or_true (w.spent c) ∙ ap (λ x. w.spent c || not x) (sym late))
    (passed_by c w rest known s late asleep (first (is_ready (w.states c)) (is_woken (w.states c) (w.spent c)) (is_due (w.states c) w.clock) still))
  where
    or_true : (b : Bool) → true ≡ (b || true)
    or_true true = refl
    or_true false = refl

    first : (r k d : Bool) → (r || k || d) ≡ false → r ≡ false
    first true k d e = cc
    first false k d e = refl

    second : (r k d : Bool) → (r || k || d) ≡ false → k ≡ false
    second true k d e = cc
    second false true d e = cc
    second false false d e = refl

    third : (r k d : Bool) → (r || k || d) ≡ false → d ≡ false
    third true k d e = cc
    third false true d e = cc
    third false false true e = cc
    third false false false e = refl

-- What the call computes of a state and a flag is what the plain world says of them.
pub flag_is : (c : ℕ) (w : Plain) {state : State} {was flag : Bool} → state ≡ w.states c → was ≡ w.spent c → flag ≡ (was || not (is_due state w.clock))
    → flag ≡ (w.spent c || not (is_due (w.states c) w.clock))
flag_is c w {state = state} is_state was_is is = is ∙ ap (λ b. b || not (is_due state w.clock)) was_is ∙ ap (λ (s : State). w.spent c || not (is_due s w.clock)) is_state

pub runs_is : (c : ℕ) (w : Plain) {state : State} {was runs : Bool} → state ≡ w.states c → was ≡ w.spent c → runs ≡ (is_ready state || is_woken state was || is_due state w.clock)
    → runs ≡ (is_ready (w.states c) || is_woken (w.states c) (w.spent c) || is_due (w.states c) w.clock)
runs_is c w {state = state} is_state was_is is = is ∙ ap (λ b. is_ready state || is_woken state b || is_due state w.clock) was_is
    ∙ ap (λ (s : State). is_ready s || is_woken s (w.spent c) || is_due s w.clock) is_state
