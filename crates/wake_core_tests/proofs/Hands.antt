-- What thread 1 does with component 0, event by event.
use Rattle.std.proofs.Common.{ℕ, ◌≡◌, refl, sym, ◌∙◌, ap, subst, inl, inr, arith, Bool, true, false, not, if◌then◌else◌, Option, Some, None, is_some, option_map}
use Rattle.std.proofs.lemmas.Bool.Decides.{eqb_tells}
use Rattle.std.specs.Option.{option_map_or}
use Rattle.cy_msg.specs.declared.token.Token.{Token}
use Rattle.cy_msg.specs.declared.token.Tuple.{Tuple}
use Rattle.cy_comp.specs.declared.call.Call.{Call}
use Rattle.wake_core.specs.Run.{set_at}
use Rattle.wake_core.specs.Plain.{Plain, hand, stops, unsent_of}
use Rattle.wake_core.specs.declared.phase.Hand.{Hand}
use Rattle.cy_comp.specs.declared.state.State.{State}
use Rattle.wake_core.specs.declared.phase.Phase.{Phase}
use Rattle.cy_comp.specs.declared.state.State.TheVariants.{Ready}
use Rattle.wake_core.specs.declared.phase.Phase.TheVariants.{Known, Checked, Stopping, Woken, Running, Empty, Sending, LastSending}
use Rattle.wake_core.specs.Events.{IsFree, Spends, Readies, Checks, Asks, Fetches, Sends, Yields, next_call, Releases, MayYield, after_acquire, after_ready, after_check, after_ask, after_fetch, after_send, after_yield, after_release}
use Rattle.wake_core.specs.WorldCalls.{in_hand, phase_sent, MayAcquire, Acquired, MaySpend, MayReady, MayCheck, MayAsk, MayFetch, MayStep, MayTape, Taped, MayYieldAs, MayRelease}
use Rattle.wake_core_tests.specs.Groups.{MayTake, MayTakeWoken, MayAskAgain, MayGiveBack, MaySendOn, after_take, after_wake, after_asking, after_fetching, found_then, after_back, after_output}

-- What a thread has in hand.
in_hand_is : (p c : ℕ) (phase : Phase) (w : Plain) → w.hands p ≡ hand c phase → in_hand p w ≡ c
in_hand_is p c phase w held = ap (λ h. option_map_or (λ (x : Hand). x.croutine) h 0) held

-- Taking it.
free : (w : Plain) → ((p : ℕ) → w.hands p ≡ None) → IsFree w.hands 0
free w nobody p phase held = let none = nobody p in cc

pub may_acquire : (w : Plain) → MayTake w → MayAcquire 1 0 w
may_acquire w m = record { thread = omega arith; known = m.known; idle = m.nobody 1 }

module _ (w a : Plain) (m : MayTake w) (answer : Bool) (acquire : Acquired 1 0 answer w a) where
  acquired_is : a ≡ after_acquire 1 0 w
  acquired_is = by answer acquire
    where
      by : (answer : Bool) → Acquired 1 0 answer w a → a ≡ after_acquire 1 0 w
      by true h = (h.taken refl).effect
      by false h = absurd (h.held refl (free w m.nobody))

  pub may_spend : MaySpend 1 a
  unfolding set_at
  may_spend =
      let here : MaySpend 1 (after_acquire 1 0 w) = record { held = refl; past = omega arith; not_due = m.not_due; effect = refl } in
      subst (MaySpend 1) (sym acquired_is) here

  pub took : (v : Plain) → Spends 1 (in_hand 1 a) a.clock a v → v ≡ after_take w
  unfolding set_at
  took v spend =
      let taken = after_acquire 1 0 w in
      let h : Spends 1 (in_hand 1 taken) taken.clock taken v = subst (λ x. Spends 1 (in_hand 1 x) x.clock x v) acquired_is spend in h.effect

  pub took_answer : (clear : Bool) → clear ≡ not (a.spent (in_hand 1 a)) → clear ≡ not (w.spent 0)
  unfolding set_at
  took_answer clear is = is ∙ ap (λ (x : Plain). not (x.spent (in_hand 1 x))) acquired_is

-- Waking it.
module _ (w a : Plain) (m : MayTakeWoken w) (takes : a ≡ after_take w) where
  woken_held : a.hands 1 ≡ hand 0 Woken
  woken_held = ap (λ (x : Plain). x.hands 1) takes ∙ m.woken

  pub may_ready : MayReady 1 a
  may_ready = subst (λ c. Readies 1 c a (after_ready 1 c a)) (sym (in_hand_is 1 0 Woken a woken_held)) record { held = inl woken_held; effect = refl }

  pub woken : (v : Plain) → Readies 1 (in_hand 1 a) a v → v ≡ after_wake w
  woken v ready =
      let h : Readies 1 0 a v = subst (λ c. Readies 1 c a v) (in_hand_is 1 0 Woken a woken_held) ready in
      h.effect ∙ ap (after_ready 1 0) takes

-- Looking for the stop, and asking.
unstopped_phase : (is_stopped : Bool) → is_stopped ≡ false → (if is_stopped then Stopping else Checked) ≡ Checked
unstopped_phase true is = absurd cc
unstopped_phase false is = refl

module _ (w : Plain) (m : MayAskAgain w) where
  pub may_check : MayCheck 1 w
  may_check = subst (λ c. Checks 1 c w (after_check 1 c w)) (sym (in_hand_is 1 0 Known w m.held)) record { held = m.held; ready = m.ready; effect = refl }

  pub unstopped_answer : (answer : Bool) → answer ≡ stops w.stop w.raised (in_hand 1 w) → answer ≡ false
  unstopped_answer answer is = is ∙ (ap (stops w.stop w.raised) (in_hand_is 1 0 Known w m.held) ∙ m.unstopped)

  module _ (a : Plain) (check : Checks 1 (in_hand 1 w) w a) where
    checked_is : a ≡ after_check 1 0 w
    checked_is = let h : Checks 1 0 w a = subst (λ c. Checks 1 c w a) (in_hand_is 1 0 Known w m.held) check in h.effect

    checked_held : a.hands 1 ≡ hand 0 Checked
    unfolding set_at
    checked_held = ap (λ (x : Plain). x.hands 1) checked_is ∙ ap (hand 0) (unstopped_phase (stops w.stop w.raised 0) m.unstopped)

    pub may_ask : MayAsk 1 a
    may_ask =
        let here : Asks 1 0 a (after_ask 1 0 a) = record { held = checked_held; none_held = ap (λ (x : Plain). unsent_of x 0) checked_is ∙ m.none_held; effect = refl } in
        subst (λ c. Asks 1 c a (after_ask 1 c a)) (sym (in_hand_is 1 0 Checked a checked_held)) here

    pub asked : (v : Plain) → Asks 1 (in_hand 1 a) a v → v ≡ after_asking w
    asked v ask =
        let h : Asks 1 0 a v = subst (λ c. Asks 1 c a v) (in_hand_is 1 0 Checked a checked_held) ask in
        h.effect ∙ ap (after_ask 1 0) checked_is

-- Fetching.
module _ (w a : Plain) (asks : a ≡ after_asking w) where
  asked_held : in_hand 1 a ≡ 0
  unfolding set_at
  asked_held = ap (in_hand 1) asks

  pub may_fetch : MayFetch 1 a
  unfolding set_at
  may_fetch = let here : MayFetch 1 (after_asking w) = refl in subst (MayFetch 1) (sym asks) here

  pub fetched : (v : Plain) → Fetches 1 (in_hand 1 a) a v → v ≡ after_fetching w
  unfolding set_at
  fetched v fetch =
      let here = after_asking w in
      let h : Fetches 1 (in_hand 1 here) here v = subst (λ x. Fetches 1 (in_hand 1 x) x v) asks fetch in h.effect

  pub fetched_answer : (answer : Option Tuple) → answer ≡ option_map (λ (x : Call). x.tuple) (next_call a (in_hand 1 a)) → answer ≡ option_map (λ (x : Call). x.tuple) (found_then w)
  unfolding set_at
  fetched_answer answer is = is ∙ ap (λ (x : Plain). option_map (λ (x : Call). x.tuple) (next_call x (in_hand 1 x))) asks

  pub fetched_steps : (answer : Option Tuple) (f g h : ℕ → Option Tuple) → h ≡ set_at (in_hand 1 a) answer g → g ≡ f → h ≡ set_at 0 answer f
  fetched_steps answer f g h is same = is ∙ (ap (λ c. set_at c answer g) asked_held ∙ ap (set_at 0 answer) same)

-- A call: something was found, and the component runs.
runs : (found : Option Call) (tuple : Tuple) (w : Plain) → Some tuple ≡ option_map (λ (x : Call). x.tuple) found → (after_fetch 1 0 found w).hands 1 ≡ hand 0 Running
unfolding set_at
runs None tuple w is = absurd cc
runs (Some call) tuple w is = refl

-- Nothing is to be stepped where what was found was stepped, or nothing was found.
set_none : (f : ℕ → Option Tuple) → ((c : ℕ) → f c ≡ None) → (c : ℕ) → set_at 0 None f c ≡ None
unfolding set_at
set_none f none c = elim (eqb_tells c 0) [ inl h ↦ rw h.0 | inr h ↦ rw h.0 (none c) ]

set_again : (answer : Option Tuple) (f : ℕ → Option Tuple) → ((c : ℕ) → f c ≡ None) → (c : ℕ) → set_at 0 None (set_at 0 answer f) c ≡ None
unfolding set_at
set_again answer f none c = elim (eqb_tells c 0) [ inl h ↦ rw h.0 | inr h ↦ rw h.0 (none c) ]

module _ (w a : Plain) (fetched : a ≡ after_fetching w) (f g : ℕ → Option Tuple) where
  pub none_stepped : g ≡ set_at 0 None f → ((c : ℕ) → f c ≡ None) → (c : ℕ) → g c ≡ None
  none_stepped steps none c = ap (λ (h : ℕ → Option Tuple). h c) steps ∙ set_none f none c

  module _ (tuple : Tuple) (answer : Some tuple ≡ option_map (λ (x : Call). x.tuple) (found_then w)) (steps : g ≡ set_at 0 (Some tuple) f) where
    runs_now : a.hands 1 ≡ hand 0 Running
    runs_now = ap (λ (x : Plain). x.hands 1) fetched ∙ runs (found_then w) tuple (after_asking w) answer

    pub may_step : MayStep 1 tuple a g
    unfolding set_at
    may_step =
        let at = in_hand_is 1 0 Running a runs_now in
        record {
          held = subst (λ c. a.hands 1 ≡ hand c Running) (sym at) runs_now;
          given = ap g at ∙ ap (λ (h : ℕ → Option Tuple). h 0) steps;
        }

    pub all_stepped : (h : ℕ → Option Tuple) → h ≡ set_at (in_hand 1 a) None g → ((c : ℕ) → f c ≡ None) → (c : ℕ) → h c ≡ None
    all_stepped h stepped none c =
        ap (λ (k : ℕ → Option Tuple). k c) (stepped ∙ (ap (λ at. set_at at None g) (in_hand_is 1 0 Running a runs_now) ∙ ap (set_at 0 None) steps)) ∙ set_again (Some tuple) f none c

    pub found_some : true ≡ is_some (found_then w)
    found_some = by (found_then w) answer
      where
        by : (found : Option Call) → Some tuple ≡ option_map (λ (x : Call). x.tuple) found → true ≡ is_some found
        by None is = absurd cc
        by (Some call) is = refl

pub found_none : (found : Option Call) → None ≡ option_map (λ (x : Call). x.tuple) found → false ≡ is_some found
found_none None is = refl
found_none (Some call) is = absurd cc

-- Giving it back.
back_in_hand : (state : State) (w : Plain) → MayYield 1 0 state w → in_hand 1 w ≡ 0
back_in_hand state w (inl h) = in_hand_is 1 0 Empty w h.0
back_in_hand state w (inr (inl h)) = in_hand_is 1 0 Running w h.0
back_in_hand state w (inr (inr (inl h))) = in_hand_is 1 0 Sending w h.0
back_in_hand state w (inr (inr (inr (inl held, finished, none)))) = in_hand_is 1 0 Stopping w held
back_in_hand state w (inr (inr (inr (inr held, finished, none)))) = in_hand_is 1 0 LastSending w held

module _ (state : State) (w : Plain) (m : MayGiveBack state w) where
  pub may_yield : MayYieldAs 1 state w
  may_yield = subst (λ c. Yields 1 c state w (after_yield 1 c state w)) (sym (back_in_hand state w m.held)) record { owes = m.owes; held = m.held; effect = refl }

  module _ (a : Plain) (yields : Yields 1 (in_hand 1 w) state w a) where
    yielded_is : a ≡ after_yield 1 0 state w
    yielded_is = let h : Yields 1 0 state w a = subst (λ c. Yields 1 c state w a) (back_in_hand state w m.held) yields in h.effect

    pub may_release : MayRelease 1 a
    unfolding set_at
    may_release = let here : MayRelease 1 (after_yield 1 0 state w) = inl refl in subst (MayRelease 1) (sym yielded_is) here

    pub gave_back : (v : Plain) → Releases 1 (in_hand 1 a) a v → v ≡ after_back state w
    gave_back v releases = releases.effect ∙ ap (after_release 1) yielded_is

-- Sending its output.
module _ (t : Token) (w : Plain) (m : MaySendOn t w) where
  pub may_send : MayTape 1 t w
  may_send = record {
    player = λ unwritten. absurd (m.written unwritten);
    played = λ unwritten. absurd (m.written unwritten);
    sent = λ _.
        let by = λ (h : Option Hand). let c = option_map_or (λ (x : Hand). x.croutine) h 0 in Sends 1 c (phase_sent h) t w (after_send 1 c (phase_sent h) t w) in
        subst by (sym m.held) record { owes = m.owes; held = inl (m.held, m.at_once, refl); unsent = m.unsent; effect = refl };
  }

  module _ (a : Plain) (tape : Taped 1 t w a) where
    sent_is : a ≡ after_send 1 0 Running t w
    sent_is =
        let by = λ (h : Option Hand). Sends 1 (option_map_or (λ (x : Hand). x.croutine) h 0) (phase_sent h) t w a in
        let h : Sends 1 0 Running t w a = subst by m.held (tape.sent m.written) in h.effect

    pub may_give_back : MayGiveBack Ready a
    unfolding set_at
    may_give_back =
        let here : MayGiveBack Ready (after_send 1 0 Running t w) = record {
          owes = record { filled = m.unread; looked = m.owes.looked; cleared = m.owes.cleared };
          held = inr (inl (refl, m.yields, λ _. m.all));
        } in
        subst (MayGiveBack Ready) (sym sent_is) here

    pub sent_on : (v : Plain) → v ≡ after_back Ready a → v ≡ after_output t w
    sent_on v back = back ∙ ap (after_back Ready) sent_is
