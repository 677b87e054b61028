-- What each event keeps of holders, states, calls, deliveries, causes and room, where it makes no call and tapes nothing.
use Rattle.std.proofs.Common.{ℕ, ◌≡◌, ◌≢◌, ◌⊎◌, ◌<◌, Bool, true, false, true≢false, Option, Some, refl, sym, ◌∙◌, ap, inl, inr, List, [], ◌∷◌, ◌++◌, length, None, if◌then◌else◌}
use Rattle.cy_msg.proofs.Lists.{place, get_in}
use Rattle.cy_comp.specs.declared.call.Outcome.{Outcome}
use Rattle.wake_core.specs.Run.{set_at}
use Rattle.wake_core.specs.Plain.{Plain, Stop, Hand, hand, State, Ready, DataWait, Sleep, Finished, Fresh, Woken, Known, Checked, Stopping, Asked, Empty, Running, LastSending, Done, stops, made_of, taped_of, unsent_of, outs_of, lists}
use Rattle.wake_core.specs.Events.{IsFree, phase_after_spend, phase_after_check, is_waiting, after_acquire, after_spend, after_ready, after_check, after_stop, after_ask, after_none, after_fill, after_look, after_clear, MayYield, after_yield, after_release}
use Rattle.wake_core.specs.Sound.{Held, HeldIn, Consistent, state_in, is_ending}
use Rattle.wake_core.proofs.Places.{set_at_there, set_at_other}
use Rattle.wake_core.proofs.Listing.{lists_wider, lists_snoc, lists_first, lists_rest}
use Rattle.wake_core.proofs.HeldLaws.{acquire_held, phase_held, ready_held, ask_held, release_held, yield_empty_held, yield_running_held, yield_sending_held, yield_stopped_held}
use Rattle.wake_core.proofs.Delivering.{hand_delivered, phase_delivered, idle_hand_delivered, renew_delivered, fill_delivered}
use Rattle.wake_core.proofs.Calling.{arrival_called, arrival_causal}

-- Where there is no unsent output, none of the outputs is missing on the tape.
pub none_unsent : (w : Plain) (c : ℕ) → unsent_of w c ≡ None → taped_of w.routes w.tape c < made_of w.routes w.calls c → ⊥
none_unsent w c none l = get_in (outs_of w.routes w.calls c) (taped_of w.routes w.tape c) l none

pub acquire_in : (p c : ℕ) (w : Plain) → c < length w.routes → w.hands p ≡ None → IsFree w.hands c → HeldIn w → HeldIn (after_acquire p c w)
acquire_in p c w known idle free h = acquire_held p c known idle free h

pub acquire_consistent : (p c : ℕ) (w : Plain) → c < length w.routes → w.hands p ≡ None → IsFree w.hands c → Consistent w → Consistent (after_acquire p c w)
acquire_consistent p c w known idle free s = record {
  wired = s.wired;
  held = acquire_in p c w known idle free s.held;
  called = s.called;
  delivered = hand_delivered p None (hand c Fresh) idle (λ k. refl) s.delivered;
  causal = s.causal;
  room = s.room;
}

-- The phase after a Spend is Woken, where the state is DATA_WAIT, or Known.
spend_state : (state : State) (was_spent : Bool) (s : State) → state_in (phase_after_spend state was_spent) ≡ Some s → state ≡ s
spend_state Ready b s e = cc
spend_state DataWait true s e = cc
spend_state DataWait false s e = cc
spend_state (Sleep until) b s e = cc
spend_state Finished b s e = cc

spend_runs : (state : State) (was_spent : Bool) → phase_after_spend state was_spent ≢ Running
spend_runs Ready b e = cc
spend_runs DataWait true e = cc
spend_runs DataWait false e = cc
spend_runs (Sleep until) b e = cc
spend_runs Finished b e = cc

spend_ends : (state : State) (was_spent : Bool) → is_ending (phase_after_spend state was_spent) ≡ true → ⊥
spend_ends Ready b e = cc
spend_ends DataWait true e = cc
spend_ends DataWait false e = cc
spend_ends (Sleep until) b e = cc
spend_ends Finished b e = cc

pub spend_in : (p c : ℕ) (w : Plain) → w.hands p ≡ hand c Fresh → HeldIn w → HeldIn (after_spend p c w)
spend_in p c w held h =
    phase_held p c Fresh (phase_after_spend (w.states c) (w.spent c)) held (λ e. cc) (spend_runs (w.states c) (w.spent c)) (spend_state (w.states c) (w.spent c)) (λ e. absurd (spend_ends (w.states c) (w.spent c) e)) h

pub spend_consistent : (p c : ℕ) (w : Plain) → w.hands p ≡ hand c Fresh → Consistent w → Consistent (after_spend p c w)
spend_consistent p c w held s = record {
  wired = s.wired;
  held = spend_in p c w held s.held;
  called = s.called;
  delivered = phase_delivered p c Fresh (hand c (phase_after_spend (w.states c) (w.spent c))) held refl s.delivered;
  causal = s.causal;
  room = s.room;
}

pub ready_in : (p c : ℕ) (w : Plain) → (w.hands p ≡ hand c Woken) ⊎ (w.hands p ≡ hand c Fresh) → w.states c ≢ Finished → HeldIn w → HeldIn (after_ready p c w)
ready_in p c w held unfinished h = elim held [
  | inl e ↦ ready_held p c Woken e (λ e. cc) unfinished h
  | inr e ↦ ready_held p c Fresh e (λ e. cc) unfinished h
]

pub ready_consistent : (p c : ℕ) (w : Plain) → (w.hands p ≡ hand c Woken) ⊎ (w.hands p ≡ hand c Fresh) → w.states c ≢ Finished → Consistent w → Consistent (after_ready p c w)
ready_consistent p c w held unfinished s = record {
  wired = s.wired;
  held = ready_in p c w held unfinished s.held;
  called = s.called;
  delivered = elim held [
    | inl e ↦ phase_delivered p c Woken (hand c Known) e refl s.delivered
    | inr e ↦ phase_delivered p c Fresh (hand c Known) e refl s.delivered
  ];
  causal = s.causal;
  room = s.room;
}

check_runs : (b : Bool) → (if b then Stopping else Checked) ≢ Running
check_runs true e = cc
check_runs false e = cc

check_state : (b : Bool) (s : State) → state_in (if b then Stopping else Checked) ≡ Some s → Ready ≡ s
check_state true s e = cc
check_state false s e = cc

check_ends : (b : Bool) → is_ending (if b then Stopping else Checked) ≡ true → b ≡ true
check_ends true e = refl
check_ends false e = cc

pub check_in : (p c : ℕ) (w : Plain) → w.hands p ≡ hand c Known → w.states c ≡ Ready → HeldIn w → HeldIn (after_check p c w)
check_in p c w held ready h =
    let b = stops w.stop w.raised c in
    phase_held p c Known (phase_after_check w c) held (λ e. cc) (check_runs b) (λ s e. ready ∙ check_state b s e) (check_ends b) h

pub check_consistent : (p c : ℕ) (w : Plain) → w.hands p ≡ hand c Known → w.states c ≡ Ready → Consistent w → Consistent (after_check p c w)
check_consistent p c w held ready s = record {
  wired = s.wired;
  held = check_in p c w held ready s.held;
  called = s.called;
  delivered = phase_delivered p c Known (hand c (phase_after_check w c)) held refl s.delivered;
  causal = s.causal;
  room = s.room;
}

-- What the stop names may become more.
more_stopped : {size : ℕ} {hands : ℕ → Option Hand} {states : ℕ → State} {last : ℕ → Option Outcome} {made taped : ℕ → ℕ} {stopped also : ℕ → Bool} → ((c : ℕ) → stopped c ≡ true → also c ≡ true)
    → Held size hands states last made taped stopped → Held size hands states last made taped also
more_stopped {stopped = stopped} {also = also} more h = record {
  known = h.known;
  one = h.one;
  phased = h.phased;
  stopping = λ p c f e m. more c (h.stopping p c f e m);
  sleeps = h.sleeps;
  asleep = h.asleep;
  finished = λ c e n. h.finished c e (was c (stopped c) refl n);
  ended = h.ended;
  called = h.called;
  holds = h.holds;
  few = h.few;
  held_back = h.held_back;
  resting = h.resting;
  unended = h.unended;
}
  where
    was : (c : ℕ) (b : Bool) → stopped c ≡ b → also c ≡ false → stopped c ≡ false
    was c true is n = absurd (true≢false (sym (more c is) ∙ n))
    was c false is n = is

stops_more : (stop : Option Stop) (raised : Bool) (c : ℕ) → stops stop raised c ≡ true → stops stop true c ≡ true
stops_more None raised c e = e
stops_more (Some s) true c e = e
stops_more (Some s) false c e = cc

pub stop_in : (w : Plain) → HeldIn w → HeldIn (after_stop w)
stop_in w h = more_stopped (stops_more w.stop w.raised) h

pub stop_consistent : (w : Plain) → Consistent w → Consistent (after_stop w)
stop_consistent w s = record {
  wired = s.wired;
  held = stop_in w s.held;
  called = s.called;
  delivered = s.delivered;
  causal = s.causal;
  room = s.room;
}

pub ask_in : (p c : ℕ) (w : Plain) → w.hands p ≡ hand c Checked → unsent_of w c ≡ None → HeldIn w → HeldIn (after_ask p c w)
ask_in p c w held none h = ask_held p c held (none_unsent w c none) h

pub ask_consistent : (p c : ℕ) (w : Plain) → w.hands p ≡ hand c Checked → unsent_of w c ≡ None → Consistent w → Consistent (after_ask p c w)
ask_consistent p c w held none s = record {
  wired = s.wired;
  held = ask_in p c w held none s.held;
  called = s.called;
  delivered = phase_delivered p c Checked (hand c Asked) held refl s.delivered;
  causal = s.causal;
  room = s.room;
}

pub none_in : (p c : ℕ) (w : Plain) → w.hands p ≡ hand c Asked → HeldIn w → HeldIn (after_none p c w)
none_in p c w held h = phase_held p c Asked Empty held (λ e. cc) (λ e. cc) (λ s e. h.phased p c Asked DataWait held refl ∙ some_of s e) (λ e. cc) h
  where
    some_of : (s : State) → Some DataWait ≡ Some s → DataWait ≡ s
    some_of s e = cc

pub none_consistent : (p c : ℕ) (w : Plain) → w.hands p ≡ hand c Asked → Consistent w → Consistent (after_none p c w)
none_consistent p c w held s = record {
  wired = s.wired;
  held = none_in p c w held s.held;
  called = s.called;
  delivered = phase_delivered p c Asked (hand c Empty) held refl s.delivered;
  causal = s.causal;
  room = s.room;
}

pub yield_in : (p c : ℕ) (state : State) (w : Plain) → MayYield p c state w → HeldIn w → HeldIn (after_yield p c state w)
yield_in p c state w held h = elim held [
  | inl e ↦ rw e.1 (yield_empty_held p c e.0 h)
  | inr r ↦ elim r [
    | inl e ↦ yield_running_held p c state e.0 e.1 (λ now. none_unsent w c (e.2 now)) h
    | inr t ↦ elim t [
      | inl e ↦ rw e.1 (yield_sending_held p c e.0 (none_unsent w c e.2) h)
      | inr e ↦ elim e.0 [
        | inl b ↦ rw e.1 (yield_stopped_held p c Stopping refl b (none_unsent w c e.2) h)
        | inr b ↦ rw e.1 (yield_stopped_held p c LastSending refl b (none_unsent w c e.2) h)
      ]
    ]
  ]
]

pub yield_consistent : (p c : ℕ) (state : State) (w : Plain) → w.fills p ≡ [] → MayYield p c state w → Consistent w → Consistent (after_yield p c state w)
yield_consistent p c state w filled held s = record {
  wired = s.wired;
  held = yield_in p c state w held s.held;
  called = s.called;
  delivered = idle_hand_delivered p (hand c Done) filled s.delivered;
  causal = s.causal;
  room = s.room;
}

pub release_in : (p c : ℕ) (w : Plain) → (w.hands p ≡ hand c Done) ⊎ (w.hands p ≡ hand c Known) → HeldIn w → HeldIn (after_release p w)
release_in p c w held h = elim held [ inl e ↦ release_held p c Done e (λ e. cc) h | inr e ↦ release_held p c Known e (λ e. cc) h ]

pub release_consistent : (p c : ℕ) (w : Plain) → (w.hands p ≡ hand c Done) ⊎ (w.hands p ≡ hand c Known) → Consistent w → Consistent (after_release p w)
release_consistent p c w held s = record {
  wired = s.wired;
  held = release_in p c w held s.held;
  called = s.called;
  delivered = elim held [
    | inl e ↦ phase_delivered p c Done None e refl s.delivered
    | inr e ↦ phase_delivered p c Known None e refl s.delivered
  ];
  causal = s.causal;
  room = s.room;
}

pub fill_consistent : (p v j : ℕ) (later : List (ℕ × ℕ)) (w : Plain) → w.fills p ≡ (v, j) ∷ later → Consistent w → Consistent (after_fill p v j later w)
fill_consistent p v j later w first s = record {
  wired = s.wired;
  held = s.held;
  called = arrival_called v (j, w.tokens p) s.called;
  delivered = fill_delivered p v j later first s.held.one s.delivered;
  causal = arrival_causal v (j, w.tokens p) (s.called.lawful v) s.causal;
  room = s.room;
}

pub look_consistent : (p c : ℕ) (later : List ℕ) (w : Plain) → w.news p ≡ c ∷ later → Consistent w → Consistent (after_look p c later w)
look_consistent p c later w first s = record {
  wired = s.wired;
  held = s.held;
  called = s.called;
  delivered = renew_delivered (set_at p later w.news) (set_at p (if is_waiting (w.states c) then w.clearing p ++ c ∷ [] else w.clearing p) w.clearing)
      (λ q v l. elim (place q p) [
        | inl e ↦ inl (ap (lists v) (ap w.news e ∙ first) ∙ lists_rest v c later (ap (lists v) (sym (set_at_there p later w.news q e)) ∙ l))
        | inr e ↦ inl (ap (lists v) (sym (set_at_other p later w.news q e)) ∙ l)
      ])
      (λ q v l. elim (place q p) [
        | inl e ↦ rw e (either v (is_waiting (w.states c)) (ap (lists v) (sym (set_at_there p (if is_waiting (w.states c) then w.clearing p ++ c ∷ [] else w.clearing p) w.clearing q e)) ∙ l))
        | inr e ↦ inr (ap (lists v) (sym (set_at_other p (if is_waiting (w.states c) then w.clearing p ++ c ∷ [] else w.clearing p) w.clearing q e)) ∙ l)
      ]) s.delivered;
  causal = s.causal;
  room = s.room;
}
  where
    either : (v : ℕ) (waits : Bool) → lists v (if waits then w.clearing p ++ c ∷ [] else w.clearing p) ≡ true → (lists v (w.news p) ≡ true) ⊎ (lists v (w.clearing p) ≡ true)
    either v true l = elim (lists_snoc v c (w.clearing p) l) [
      | inl h ↦ inr h
      | inr h ↦ inl (ap (lists v) first ∙ ap (λ n. lists n (c ∷ later)) h ∙ lists_first c later)
    ]
    either v false l = inr l

pub clear_consistent : (p c : ℕ) (before after : List ℕ) (w : Plain) → w.clearing p ≡ before ++ c ∷ after → Consistent w → Consistent (after_clear p c (before ++ after) w)
clear_consistent p c before after w there s = record {
  wired = s.wired;
  held = s.held;
  called = s.called;
  delivered = renew_delivered w.news (set_at p (before ++ after) w.clearing) (λ q v l. inl l)
      (λ q v l. elim (place q p) [
        | inl e ↦ inr (ap (lists v) (ap w.clearing e ∙ there) ∙ lists_wider v c before after (ap (lists v) (sym (set_at_there p (before ++ after) w.clearing q e)) ∙ l))
        | inr e ↦ inr (ap (lists v) (sym (set_at_other p (before ++ after) w.clearing q e)) ∙ l)
      ]) s.delivered;
  causal = s.causal;
  room = s.room;
}
