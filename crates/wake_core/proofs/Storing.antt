-- A croutine in hand changes its phase, its flag or its state.
use Rattle.std.proofs.Common.{ℕ, ◌+◌, ◌≡◌, ◌≢◌, ◌≤◌, ◌<◌, Bool, true, false, refl, sym, ◌∙◌, ap, inl, inr, arith, Option, Some, None, List, length, set, option_map, slice_get, subst, if◌then◌else◌}
use mathlib.Core.Path.{fun_ext}
use Rattle.cy_comp.specs.declared.call.Call.{Call}
use Rattle.cy_msg.specs.declared.token.Token.{Token}
use Rattle.cy_msg.proofs.Lists.{place}
use Rattle.cy_fuse.specs.Visitor.{VisitorView}
use Rattle.cy_comp.specs.Calls.{cursor_after, outs, output}
use Rattle.cy_comp.specs.Routine.{RoutineView}
use Rattle.wake_core.specs.declared.found.Found.{Found}
use Rattle.wake_core.specs.Run.{Route, set_at}
use Rattle.wake_core.specs.Plain.{Plain, Hand, hand, State, Ready, Phase, Fresh, Woken, Known, Checked, Stopping, Empty, Running, Sending, LastSending, Done, stops}
use Rattle.wake_core.specs.Planned.{planned_count, first_reader}
use Rattle.wake_core.specs.Events.{Spends, Readies, Checks, Asks, Yields, Releases, after_spend, after_ready, after_check, after_ask, after_yield, after_release, phase_after_spend}
use Rattle.wake_core.specs.WorldCalls.{in_hand, MaySpend, MayReady, MayCheck, MayAsk, MayYieldAs, MayRelease, IsStepped}
use Rattle.wake_core.specs.Fields.{read, no_routine, IsRoomy}
use Rattle.wake_core.specs.private.Shown.{shown_calls, calls_at, IsFlagged, IsStepping, IsWaiting}
use Rattle.wake_core.proofs.Places.{set_at_there, set_at_other}
use Rattle.wake_core.proofs.Reading.{read-set}
use Rattle.wake_core.proofs.Flags.{hand_stepping}
use Rattle.wake_core.proofs.Holding.{in_hand_is}

-- What is said of the croutine in hand is said of its number.
pub held_as : (w : Plain) {p n : ℕ} (f : Phase) → n ≡ in_hand p w → w.hands p ≡ hand (in_hand p w) f → w.hands p ≡ hand n f
held_as w f e held = held ∙ ap (λ k. hand k f) (sym e)

-- A world that changes by states, flags and hands.
pub with_parts : (w : Plain) {st tt : ℕ → State} {sp tp : ℕ → Bool} {hs gs : ℕ → Option Hand} → st ≡ tt → sp ≡ tp → hs ≡ gs
    → record w { states = st; spent = sp; hands = hs } ≡ record w { states = tt; spent = tp; hands = gs }
with_parts w {tt = tt} {sp = sp} {tp = tp} {hs = hs} s t h =
    ap (λ (x : ℕ → State). record w { states = x; spent = sp; hands = hs }) s
    ∙ ap (λ (x : ℕ → Bool). record w { states = tt; spent = x; hands = hs }) t
    ∙ ap (λ (x : ℕ → Option Hand). record w { states = tt; spent = tp; hands = x }) h

-- Spend.
pub spent_world : (w : Plain) (p n : ℕ) {sp : ℕ → Bool} {hs : ℕ → Option Hand} {phase : Phase} {state : State} {was : Bool}
    → state ≡ w.states n → was ≡ w.spent n → phase ≡ phase_after_spend state was → sp ≡ set_at n true w.spent → hs ≡ set_at p (hand n phase) w.hands
    → record w { spent = sp; hands = hs } ≡ after_spend p n w
spent_world w p n {state = state} {was = was} is_state was_is is_phase is_spent is_hands = with_parts w refl is_spent
    (is_hands ∙ ap (λ f. set_at p (hand n f) w.hands) (is_phase ∙ ap (λ (s : State). phase_after_spend s was) is_state ∙ ap (λ (b : Bool). phase_after_spend (w.states n) b) was_is))

pub spends : {p n : ℕ} {w v : Plain} → n ≡ in_hand p w → MaySpend p w → v ≡ after_spend p n w → Spends p (in_hand p w) w.clock w v
spends {p} {n} {w} e may effect = record { held = may.held; past = may.past; not_due = may.not_due; effect = effect ∙ ap (λ k. after_spend p k w) e }

-- A routine stores a state, and is else as it was.
pub stored : (f : ℕ → RoutineView) (n : ℕ) (r : RoutineView) (s : State) → r ≡ record (f n) { state = s } → (c : ℕ) → record (set_at n r f c) { state = s } ≡ record (f c) { state = s }
stored f n r s is c = elim (place c n) [
  | inl same ↦ ap (λ (x : RoutineView). record x { state = s }) (set_at_there n r f c same) ∙ ap (λ (x : RoutineView). record x { state = s }) is ∙ ap (λ k. record (f k) { state = s }) (sym same)
  | inr other ↦ ap (λ (x : RoutineView). record x { state = s }) (set_at_other n r f c other)
]

pub shown_stored : (s : State) (a b : RoutineView) (o : Option Found) → record a { state = s } ≡ record b { state = s } → shown_calls a o ≡ shown_calls b o
shown_stored s a b None e = ap (λ (r : RoutineView). r.calls) e
shown_stored s a b (Some f) e = ap (λ (r : RoutineView). shown_calls r (Some f)) e

-- The routines are else as they were.
pub routines_stored : (routines : List RoutineView) (n : ℕ) (r : RoutineView) (s : State) → n < length routines → r ≡ record (read (λ r. r) no_routine routines n) { state = s } → (c : ℕ)
    → record (read (λ r. r) no_routine (set routines n r) c) { state = s } ≡ record (read (λ r. r) no_routine routines c) { state = s }
routines_stored routines n r s lt is c = ap (λ (g : ℕ → RoutineView). record (g c) { state = s }) (read-set (λ r. r) no_routine routines n r lt) ∙ stored (read (λ r. r) no_routine routines) n r s is c

pub calls_stored : (routines : List RoutineView) (found : List (Option Found)) (n : ℕ) (r : RoutineView) (s : State) → n < length routines → r ≡ record (read (λ r. r) no_routine routines n) { state = s }
    → calls_at (set routines n r) found ≡ calls_at routines found
calls_stored routines found n r s lt is = fun_ext (λ c. shown_stored s (read (λ r. r) no_routine (set routines n r) c) (read (λ r. r) no_routine routines c) (read (λ f. f) None found c) (routines_stored routines n r s lt is c))

pub states_stored : (routines : List RoutineView) (n : ℕ) (r : RoutineView) (s : State) → n < length routines → r ≡ record (read (λ r. r) no_routine routines n) { state = s }
    → read (λ r. r.state) Ready (set routines n r) ≡ set_at n s (read (λ r. r.state) Ready routines)
states_stored routines n r s lt is = read-set (λ r. r.state) Ready routines n r lt ∙ ap (λ (x : RoutineView). set_at n x.state (read (λ r. r.state) Ready routines)) is

pub waiting_stored : {routes : List Route} {f g : ℕ → RoutineView} {found : ℕ → Option Found} {sent : ℕ → ℕ} {tape : List Token} (s : State)
    → ((c : ℕ) → record (g c) { state = s } ≡ record (f c) { state = s }) → IsWaiting routes f found sent tape → IsWaiting routes g found sent tape
waiting_stored {routes} {f} {g} {found} {sent} {tape} s same h = record {
  kinds = λ c x at. ap (λ (r : RoutineView). r.kind) (same c) ∙ h.kinds c x at;
  counted = h.counted;
  unsent = λ c x at. ap (λ (r : RoutineView). slice_get (outs x.out r.calls) (sent c)) (same c) ∙ h.unsent c x at ∙ ap (λ (r : RoutineView). option_map (output x.out (sent c + 1)) r.pending) (sym (same c));
  none_waits = λ c some. ap (λ (r : RoutineView). r.pending) (same c) ∙ h.none_waits c some;
  few = λ c x at. subst (λ (r : RoutineView). sent c ≤ length (outs x.out r.calls)) (sym (same c)) (h.few c x at);
}

pub roomy_stored : {routes : List Route} {counts : List ℕ} {visitors : ℕ → VisitorView} {f g : ℕ → RoutineView} {tape : ℕ} (s : State)
    → ((c : ℕ) → record (g c) { state = s } ≡ record (f c) { state = s }) → IsRoomy routes counts visitors f tape → IsRoomy routes counts visitors g tape
roomy_stored {routes} {counts} {visitors} {f} {g} {tape} s same h = record {
  arrivals = h.arrivals;
  calls = λ c x at. subst (λ (r : RoutineView). planned_count routes counts (first_reader x) ≤ length r.calls + r.spare) (sym (same c)) (h.calls c x at);
  messages = h.messages;
}

-- The world that shows a stored state.
pub stored_world : (w : Plain) (p n : ℕ) (s : State) (f : Phase) {st : ℕ → State} {cs : ℕ → List Call} {hs : ℕ → Option Hand}
    → st ≡ set_at n s w.states → cs ≡ w.calls → hs ≡ set_at p (hand n f) w.hands
    → record w { states = st; cursors = λ c. cursor_after (cs c); calls = cs; hands = hs }
    ≡ record w { states = set_at n s w.states; cursors = λ c. cursor_after (w.calls c); hands = set_at p (hand n f) w.hands }
stored_world w p n s f {st = st} {cs = cs} {hs = hs} is_states is_calls is_hands =
    ap (λ (x : ℕ → State). record w { states = x; cursors = λ c. cursor_after (cs c); calls = cs; hands = hs }) is_states
    ∙ ap (λ (x : ℕ → List Call). record w { states = set_at n s w.states; cursors = λ c. cursor_after (x c); calls = x; hands = hs }) is_calls
    ∙ ap (λ (x : ℕ → Option Hand). record w { states = set_at n s w.states; cursors = λ c. cursor_after (w.calls c); hands = x }) is_hands

pub readies : {p n : ℕ} {w v : Plain} → n ≡ in_hand p w → MayReady p w → v ≡ after_ready p n w → Readies p (in_hand p w) w v
readies {p} {n} {w} e may effect = record { held = may.held; effect = effect ∙ ap (λ k. after_ready p k w) e }

pub asks : {p n : ℕ} {w v : Plain} → n ≡ in_hand p w → MayAsk p w → v ≡ after_ask p n w → Asks p (in_hand p w) w v
asks {p} {n} {w} e may effect = record { held = may.held; none_held = may.none_held; effect = effect ∙ ap (λ k. after_ask p k w) e }

-- The world after a look for the stop.
pub checked_world : (w : Plain) (p n : ℕ) {is : Bool} {f : Phase} {hs : ℕ → Option Hand} → is ≡ stops w.stop w.raised n → f ≡ (if is then Stopping else Checked) → hs ≡ set_at p (hand n f) w.hands
    → record w { hands = hs } ≡ after_check p n w
checked_world w p n is_stopped is_phase is_hands =
    ap (λ (h : ℕ → Option Hand). record w { hands = h }) (is_hands ∙ ap (λ g. set_at p (hand n g) w.hands) (is_phase ∙ ap (λ b. if b then Stopping else Checked) is_stopped))

pub checks : {p n : ℕ} {w v : Plain} → n ≡ in_hand p w → MayCheck p w → v ≡ after_check p n w → Checks p (in_hand p w) w v
checks {p} {n} {w} e may effect = record { held = may.held; ready = may.ready; effect = effect ∙ ap (λ k. after_check p k w) e }

pub yields : {p n : ℕ} {s : State} {w v : Plain} → n ≡ in_hand p w → MayYieldAs p s w → v ≡ after_yield p n s w → Yields p (in_hand p w) s w v
yields {p} {n} {s} {w} e may effect = record { owes = may.owes; held = may.held; effect = effect ∙ ap (λ k. after_yield p k s w) e }

pub releases : {p : ℕ} {w v : Plain} → MayRelease p w → v ≡ after_release p w → Releases p (in_hand p w) w v
releases may effect = record { held = may; effect = effect }

-- The phase in which a croutine is made READY, is to yield, or is given back.
pub ready_phase : (w : Plain) {p n : ℕ} → n ≡ in_hand p w → MayReady p w → (X : Type 0) → ((f : Phase) → f ≢ Running → w.hands p ≡ hand n f → X) → X
ready_phase w e may X by = elim may.held [
  | inl h ↦ by Woken (λ e. cc) (held_as w Woken e h)
  | inr h ↦ by Fresh (λ e. cc) (held_as w Fresh e h.0)
]

pub yield_phase : (w : Plain) {p n : ℕ} {s : State} → n ≡ in_hand p w → MayYieldAs p s w → (X : Type 0) → ((f : Phase) → w.hands p ≡ hand n f → X) → X
yield_phase w e may X by = elim may.held [
  | inl h ↦ by Empty (held_as w Empty e h.0)
  | inr m ↦ elim m [
    | inl h ↦ by Running (held_as w Running e h.0)
    | inr t ↦ elim t [
      | inl h ↦ by Sending (held_as w Sending e h.0)
      | inr h ↦ elim h.0 [ inl b ↦ by Stopping (held_as w Stopping e b) | inr b ↦ by LastSending (held_as w LastSending e b) ]
    ]
  ]
]

pub release_phase : (w : Plain) {p n : ℕ} → n ≡ in_hand p w → MayRelease p w → (X : Type 0) → ((f : Phase) → f ≢ Running → w.hands p ≡ hand n f → X) → X
release_phase w e may X by = elim may [
  | inl h ↦ by Done (λ e. cc) (held_as w Done e h)
  | inr h ↦ by Known (λ e. cc) (held_as w Known e h)
]

-- A component that is stepped may yield, and stays so.
pub yield_stepping : (w : Plain) {found : ℕ → Option Found} {p : ℕ} (new : Option Hand) → IsStepped p w (λ c. option_map (λ (f : Found). f.tuple) (found c)) → IsStepping w.hands found → IsStepping (set_at p new w.hands) found
yield_stepping w {found} {p} new done h = hand_stepping p new (λ c some r. some (none (found c) (is_stepped c r))) h
  where
    none : (o : Option Found) → option_map (λ (f : Found). f.tuple) o ≡ None → o ≡ None
    none None e = refl
    none (Some f) e = absurd (cc)

    is_stepped : (c : ℕ) → w.hands p ≡ hand c Running → option_map (λ (f : Found). f.tuple) (found c) ≡ None
    is_stepped c r =
        let is = in_hand_is w p record { croutine = c; phase = Running } r in
        ap (λ k. option_map (λ (f : Found). f.tuple) (found k)) is ∙ done (r ∙ ap (λ k. hand k Running) is)

-- A croutine that is given back is free, and its thread has nothing in hand.
pub release_flags : {size : ℕ} {held : ℕ → Bool} {hands : ℕ → Option Hand} (p n : ℕ) (f : Phase) → hands p ≡ hand n f → ((c p q : ℕ) (f g : Phase) → hands p ≡ hand c f → hands q ≡ hand c g → p ≡ q)
    → IsFlagged size held hands → IsFlagged size (set_at n false held) (set_at p None hands)
release_flags {size} {held} {hands} p n f has one h = record {
  free = λ k l e q g i. elim (place q p) [
    | inl same ↦ none_some k g (sym (set_at_there p None hands q same) ∙ i)
    | inr other ↦
        let i' = sym (set_at_other p None hands q other) ∙ i in
        elim (place k n) [
          | inl same ↦ other (one k q p g f i' (has ∙ ap (λ m. hand m f) (sym same)))
          | inr apart ↦ h.free k l (sym (set_at_other n false held k apart) ∙ e) q g i'
        ]
  ];
  taken = λ k l e none. elim (place k n) [
    | inl same ↦ false_true (sym (set_at_there n false held k same) ∙ e)
    | inr apart ↦ h.taken k l (sym (set_at_other n false held k apart) ∙ e) (λ q g i. elim (place q p) [
      | inl same ↦ apart (croutine_of k n g f (sym i ∙ ap hands same ∙ has))
      | inr other ↦ none q g (set_at_other p None hands q other ∙ i)
    ])
  ];
}
  where
    none_some : (k : ℕ) (g : Phase) → None ≡ hand k g → ⊥
    none_some k g e = cc

    false_true : false ≡ true → ⊥
    false_true e = cc

    croutine_of : (c k : ℕ) (f g : Phase) → hand c f ≡ hand k g → c ≡ k
    croutine_of c k f g e = grind arith

-- The world that shows a stored state, with other flags and hands.
pub stored_parts : (w : Plain) (n : ℕ) (s : State) {st : ℕ → State} {cs : ℕ → List Call} {sp tp : ℕ → Bool} {hs gs : ℕ → Option Hand}
    → st ≡ set_at n s w.states → sp ≡ tp → cs ≡ w.calls → hs ≡ gs
    → record w { states = st; spent = sp; cursors = λ c. cursor_after (cs c); calls = cs; hands = hs }
    ≡ record w { states = set_at n s w.states; spent = tp; cursors = λ c. cursor_after (w.calls c); hands = gs }
stored_parts w n s {st = st} {cs = cs} {sp = sp} {tp = tp} {hs = hs} is_states is_spent is_calls is_hands =
    ap (λ (x : ℕ → State). record w { states = x; spent = sp; cursors = λ c. cursor_after (cs c); calls = cs; hands = hs }) is_states
    ∙ ap (λ (x : ℕ → Bool). record w { states = set_at n s w.states; spent = x; cursors = λ c. cursor_after (cs c); calls = cs; hands = hs }) is_spent
    ∙ ap (λ (x : ℕ → List Call). record w { states = set_at n s w.states; spent = tp; cursors = λ c. cursor_after (x c); calls = x; hands = hs }) is_calls
    ∙ ap (λ (x : ℕ → Option Hand). record w { states = set_at n s w.states; spent = tp; cursors = λ c. cursor_after (w.calls c); hands = x }) is_hands
