-- What the flags tell of the serial run: a parked croutine can't be resumed, and one that is READY can be or finds nothing.
use Rattle.std.proofs.Common.{ℕ, zero, suc, ◌≡◌, ◌≢◌, ◌<◌, ◌≤◌, Bool, true, false, not, ◌&&◌, nat_lt, refl, sym, ◌∙◌, ap, inl, inr, arith, List, [], ◌∷◌, length, Option, Some, None, is_some, slice_get, if◌then◌else◌, find, cond, ◌++◌}
use Rattle.std.proofs.lemmas.Bool.Decides.{nat_tests}
use Rattle.std.proofs.lemmas.Option.{slice_get_within, slice_get_past}
use Rattle.cy_msg.specs.declared.token.Token.{Token}
use Rattle.cy_msg.proofs.Lists.{place}
use Rattle.cy_fuse.specs.Fetch.{fetch}
use Rattle.cy_comp.specs.declared.call.Outcome.{Outcome}
use Rattle.cy_comp.specs.Calls.{held_until, last_outcome}
use Rattle.wake_core.specs.Run.{Route, Run, finds}
use Rattle.wake_core.specs.Serial.{Raised, is_past, is_roused, is_runnable, can_resume, can_go_on}
use Rattle.wake_core.specs.Plain.{Plain, Hand, hand, State, Ready, DataWait, Sleep, Finished, Phase, Woken, Asked, Running, last_of, outs_of, taped_of, made_of, unsent_of, found_by, tail_at, lists}
use Rattle.wake_core.specs.Events.{is_finished}
use Rattle.wake_core.specs.Sound.{Sound, Consistent, NotRunning}
use Rattle.wake_core.specs.Rest.{IsAtRest, run_shown}
use Rattle.wake_core.specs.Turns.{IsParked, IsInHand}
use Rattle.wake_core.proofs.Listing.{lists_first, lists_rest}

-- Whether a component can be resumed, by whether it has ended, its last outcome, whether an output is unsent, and whether there is something for it to do.
can : Bool → Option Outcome → Bool → (goes : Bool) → ℕ → Bool
can ended last unsent goes clock = not ended && (if unsent then is_past (held_until last) clock else goes)

-- Whether there is, as the plain world says.
goes_in : Option Raised → Plain → ℕ → Bool
goes_in None w c = is_some (found_by w c)
goes_in (Some r) w c = is_roused r (w.arrivals c)

and_false : (b : Bool) → b && false ≡ false
and_false true = refl
and_false false = refl

-- There is an unsent output where fewer are taped than were made, and there only.
pub unsent_some : (w : Plain) (c : ℕ) → taped_of w.routes w.tape c < made_of w.routes w.calls c → is_some (unsent_of w c) ≡ true
unsent_some w c l = by (unsent_of w c) refl
  where
    by : (o : Option Token) → unsent_of w c ≡ o → is_some o ≡ true
    by (Some t) e = refl
    by None e = absurd (none_there (outs_of w.routes w.calls c) (taped_of w.routes w.tape c) l e)
      where
        none_there : (xs : List Token) (n : ℕ) → n < length xs → slice_get xs n ≡ None → ⊥
        none_there [] n l e = absurd (omega arith)
        none_there (x ∷ xs) zero l e = cc
        none_there (x ∷ xs) (suc n) l e = none_there xs n (omega arith) e

pub unsent_none : (w : Plain) (c : ℕ) → (taped_of w.routes w.tape c < made_of w.routes w.calls c → ⊥) → unsent_of w c ≡ None
unsent_none w c never = slice_get_past (outs_of w.routes w.calls c) (taped_of w.routes w.tape c) (past (taped_of w.routes w.tape c) (made_of w.routes w.calls c) never)
  where
    past : (a b : ℕ) → (a < b → ⊥) → b ≤ a
    past a b never = omega (arith, never)

-- What a fetch finds is what the serial run says.
pub finds_shown : (w : Plain) (c : ℕ) (x : Route) → slice_get w.routes c ≡ Some x → Consistent w → finds x (run_shown w) c ≡ found_by w c
finds_shown w c x at s = rw at (ap (λ n. fetch n (tail_at x w c) x.queue x.overflow) (sym (s.called.cursor c x at)))

runnable_at : (routes : List Route) (stop : Option Raised) (r : Run) (c : ℕ) (x : Route) → slice_get routes c ≡ Some x → is_runnable routes stop r c ≡ can_resume x stop r c
runnable_at routes stop r c x at = rw at refl

runnable_is : (stop : Option Raised) (w : Plain) (c : ℕ) (x : Route) → slice_get w.routes c ≡ Some x → Consistent w
    → is_runnable w.routes stop (run_shown w) c ≡ can (is_finished (w.states c)) (last_of w.routes w.calls c) (is_some (unsent_of w c)) (goes_in stop w c) w.clock
unfolding can goes_in
runnable_is stop w c x at s =
    let last : last_of w.routes w.calls c ≡ last_outcome x.kind (w.calls c) = rw at refl in
    runnable_at w.routes stop (run_shown w) c x at ∙ ap (λ (b : Bool). can (is_finished (w.states c)) (last_outcome x.kind (w.calls c)) (is_some (unsent_of w c)) b w.clock) (goes stop)
    ∙ ap (λ (o : Option Outcome). can (is_finished (w.states c)) o (is_some (unsent_of w c)) (goes_in stop w c) w.clock) (sym last)
  where
    goes : (stop : Option Raised) → can_go_on x stop (run_shown w) c ≡ goes_in stop w c
    goes None = ap is_some (finds_shown w c x at s)
    goes (Some r) = refl

none_unknown : (stop : Option Raised) (w : Plain) (c : ℕ) → slice_get w.routes c ≡ None → is_runnable w.routes stop (run_shown w) c ≡ false
none_unknown stop w c at = rw at refl

-- The croutine isn't in phase Running.
not_running : (w : Plain) → IsAtRest w → (c : ℕ) → NotRunning w.hands c
not_running w rest c p e = some_none (sym e ∙ (rest p).hand)
  where
    some_none : {h : Hand} → Some h ≡ None → ⊥
    some_none e = cc

-- A parked croutine can't be resumed, unless it is stopped and there is something for it to do.
pub parked_still : (stop : Option Raised) (c : ℕ) (w : Plain) → IsAtRest w → Sound w → IsParked c w → ((r : Raised) → stop ≡ Some r → is_finished (w.states c) ≡ false → unsent_of w c ≡ None → is_roused r (w.arrivals c) ≡ false)
    → is_runnable w.routes stop (run_shown w) c ≡ false
unfolding can goes_in
parked_still stop c w rest s p quiet = by_route (slice_get w.routes c) refl
  where
    not_in : (f : Phase) (q : ℕ) → w.hands q ≢ hand c f
    not_in f q e = some_none (sym e ∙ (rest q).hand)
      where
        some_none : {h : Hand} → Some h ≡ None → ⊥
        some_none e = cc

    late : (until clock : ℕ) → (until < clock → ⊥) → nat_lt until clock ≡ false
    late until clock never = grind (arith, nat_tests, never)

    by_state : (st : State) → w.states c ≡ st → can (is_finished (w.states c)) (last_of w.routes w.calls c) (is_some (unsent_of w c)) (goes_in stop w c) w.clock ≡ false
    by_state Ready e = absurd (p.resting e)
    by_state DataWait e =
        let sent : unsent_of w c ≡ None = unsent_none w c (λ l. s.consistent.held.resting c l (not_running w rest c) e) in
        rw (sent, none_goes stop refl sent) (and_false (not (is_finished (w.states c))))
      where
        none_found : (o : Option ℕ) → found_by w c ≡ o → o ≡ None
        none_found None e' = refl
        none_found (Some n) e' = absurd (s.wakes.none_lost c p.spent (λ none. some_none (sym e' ∙ none))
            (λ q. (ap (lists c) (rest q).owes.looked, ap (lists c) (rest q).owes.cleared)) e (λ q. (not_in Woken q, not_in Asked q, not_in Running q)))
          where
            some_none : {m : ℕ} → Some m ≡ None → ⊥
            some_none e = cc

        none_goes : (o : Option Raised) → stop ≡ o → unsent_of w c ≡ None → goes_in o w c ≡ false
        none_goes None is sent = ap is_some (none_found (found_by w c) refl)
        none_goes (Some r) is sent = quiet r is (ap is_finished e) sent
    by_state (Sleep until) e =
        let some : is_some (unsent_of w c) ≡ true = unsent_some w c (s.consistent.held.asleep c until e) in
        let held_to = s.consistent.held.sleeps c until e in
        let never : until < w.clock → ⊥ = λ l. p.not_due (rw e l) in
        rw (some, held_to, late until w.clock never) (and_false (not (is_finished (w.states c))))
    by_state Finished e = rw e refl

    by_route : (o : Option Route) → slice_get w.routes c ≡ o → is_runnable w.routes stop (run_shown w) c ≡ false
    by_route None at = none_unknown stop w c at
    by_route (Some x) at = runnable_is stop w c x at s.consistent ∙ by_state (w.states c) refl

one_of : {m n : ℕ} → Some m ≡ Some n → m ≡ n
one_of e = cc

module _ (c : ℕ) (f : Phase) (other_phase : f ≢ Running) (w : Plain) (h : IsInHand c f w) (s : Sound w) (ready : w.states c ≡ Ready) where
  pub known_running : NotRunning w.hands c
  known_running q e = elim (place q 0) [
    | inl is ↦ by (sym h.held ∙ ap w.hands (sym is) ∙ e)
    | inr other ↦ none (sym (h.alone q other).hand ∙ e)
  ]
    where
      by : hand c f ≡ hand c Running → ⊥
      by e = other_phase (grind (arith, e))

      none : None ≡ hand c Running → ⊥
      none e = cc

  not_ended : is_finished (w.states c) ≡ false
  not_ended = ap is_finished ready

  -- One that holds an output back can be resumed.
  pub held_can : (stop : Option Raised) → is_some (unsent_of w c) ≡ true → is_runnable w.routes stop (run_shown w) c ≡ true
  unfolding can
  held_can stop some =
      let less : taped_of w.routes w.tape c < made_of w.routes w.calls c = there (unsent_of w c) refl some in
      by_route less (slice_get w.routes c) refl
    where
      there : (o : Option Token) → unsent_of w c ≡ o → is_some o ≡ true → taped_of w.routes w.tape c < made_of w.routes w.calls c
      there None e some = cc
      there (Some t) e some = slice_get_within (outs_of w.routes w.calls c) (taped_of w.routes w.tape c) t e

      past : (o : Option ℕ) → held_until (last_of w.routes w.calls c) ≡ o → o ≢ None → taped_of w.routes w.tape c < made_of w.routes w.calls c → is_past o w.clock ≡ true
      past None e some less = absurd (some refl)
      past (Some u) e some less = let l = s.timely.awake c u ready less e in grind (arith, nat_tests, l)

      by_route : taped_of w.routes w.tape c < made_of w.routes w.calls c → (o : Option Route) → slice_get w.routes c ≡ o → is_runnable w.routes stop (run_shown w) c ≡ true
      by_route less None at = let none : made_of w.routes w.calls c ≡ 0 = rw at refl in absurd (omega (arith, less, none))
      by_route less (Some x) at =
          let over = past (held_until (last_of w.routes w.calls c)) refl (s.consistent.held.held_back c less known_running) less in
          runnable_is stop w c x at s.consistent ∙ rw (not_ended, some, over) refl

  -- One that holds none can be where a fetch finds something, ..
  pub found_can : (x : Route) → slice_get w.routes c ≡ Some x → unsent_of w c ≡ None → is_runnable w.routes None (run_shown w) c ≡ is_some (found_by w c)
  unfolding can goes_in
  found_can x at none = runnable_is None w c x at s.consistent ∙ rw (not_ended, none) refl

  -- .. and one that is stopped where it is to be resumed for that.
  pub roused_can : (r : Raised) (x : Route) → slice_get w.routes c ≡ Some x → unsent_of w c ≡ None → is_roused r (w.arrivals c) ≡ true → is_runnable w.routes (Some r) (run_shown w) c ≡ true
  unfolding can goes_in
  roused_can r x at none roused = runnable_is (Some r) w c x at s.consistent ∙ rw (not_ended, none, roused) refl

-- The first of a scan that can be resumed is found behind those that can't.
pub find_behind : (p : ℕ → Bool) (before after : List ℕ) (c : ℕ) → ((k : ℕ) → lists k before ≡ true → p k ≡ false) → p c ≡ true → find p (before ++ c ∷ after) ≡ Some c
find_behind p [] after c none is = ap (λ b. cond b (Some c) (find p after)) is
find_behind p (x ∷ before) after c none is =
    ap (λ b. cond b (Some x) (find p (before ++ c ∷ after))) (none x (lists_first x before)) ∙ find_behind p before after c (λ k among. none k (lists_rest k x before among)) is

pub find_none : (p : ℕ → Bool) (scan : List ℕ) → ((k : ℕ) → lists k scan ≡ true → p k ≡ false) → find p scan ≡ None
find_none p [] none = refl
find_none p (x ∷ scan) none =
    ap (λ b. cond b (Some x) (find p scan)) (none x (lists_first x scan)) ∙ find_none p scan (λ k among. none k (lists_rest k x scan among))
