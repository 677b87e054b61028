-- What each event keeps of holders, phases and states.
use Rattle.std.proofs.Common.{ℕ, ◌≡◌, ◌≢◌, ◌⊎◌, ◌<◌, Bool, true, false, refl, sym, ◌∙◌, ap, subst, inl, inr, arith, Option, Some, None, option_map}
use Rattle.cy_msg.proofs.Lists.{place}
use Rattle.cy_comp.specs.declared.call.Outcome.{Outcome}
use Rattle.cy_comp.specs.declared.call.Outcome.TheVariants.{Emit, Hold, Last}
use Rattle.cy_comp.specs.Calls.{is_last, held_until}
use Rattle.wake_core.specs.Run.{set_at}
use Rattle.wake_core.specs.Plain.{Hand, hand, State, Ready, DataWait, Sleep, Finished, Phase, Fresh, Known, Checked, Asked, Empty, Running, Sending, Done}
use Rattle.wake_core.specs.Events.{IsFree, state_after}
use Rattle.wake_core.specs.Sound.{Held, NotRunning, state_in, is_ending}
use Rattle.wake_core.proofs.Places.{set_at_is, set_at_there, set_at_other}

-- Who isn't Running after a thread's hand changed was not before, if that thread wasn't.
pub not_running : (hands : ℕ → Option Hand) (p : ℕ) (new : Option Hand) (k : ℕ) → hands p ≢ hand k Running → NotRunning (set_at p new hands) k
    → NotRunning hands k
not_running hands p new k was un q r = un q (grind (arith, set_at_other, was, r))

-- What the state that an outcome names says of it.
named_sleep : (last : Option Outcome) (u : ℕ) → option_map state_after last ≡ Some (Sleep u) → held_until last ≡ Some u
named_sleep None u e = cc
named_sleep (Some (Emit out)) u e = cc
named_sleep (Some (Hold until out)) u e = cc
named_sleep (Some (Last out)) u e = cc

named_finished : (last : Option Outcome) → option_map state_after last ≡ Some Finished → is_last last ≡ true
named_finished None e = cc
named_finished (Some (Emit out)) e = cc
named_finished (Some (Hold until out)) e = cc
named_finished (Some (Last out)) e = refl

ended_named : (last : Option Outcome) (state : State) → is_last last ≡ true → option_map state_after last ≡ Some state → state ≡ Finished
ended_named None state l e = cc
ended_named (Some (Emit out)) state l e = cc
ended_named (Some (Hold until out)) state l e = cc
ended_named (Some (Last out)) state l e = cc

last_now : (last : Option Outcome) → is_last last ≡ true → held_until last ≡ None
last_now None l = refl
last_now (Some (Emit out)) l = refl
last_now (Some (Hold until out)) l = cc
last_now (Some (Last out)) l = refl

named_waiting : (last : Option Outcome) → option_map state_after last ≡ Some DataWait → ⊥
named_waiting None e = cc
named_waiting (Some (Emit out)) e = cc
named_waiting (Some (Hold until out)) e = cc
named_waiting (Some (Last out)) e = cc

-- A state fits an outcome outside Running.
pub record Fits (state : State) (last : Option Outcome) (made taped : ℕ) (stopped : Bool) : Type 0 where
  pub sleeps : (u : ℕ) → state ≡ Sleep u → held_until last ≡ Some u
  pub asleep : (u : ℕ) → state ≡ Sleep u → taped < made
  pub finished : state ≡ Finished → stopped ≡ false → is_last last ≡ true
  pub ended : is_last last ≡ true → state ≡ Finished
  pub held_back : taped < made → held_until last ≢ None
  pub resting : taped < made → state ≢ DataWait
  pub unended : taped < made → state ≢ Finished

-- A hand says nothing that isn't so, and its croutine isn't Running.
pub record Says (new : Option Hand) (states : ℕ → State) (stopped : ℕ → Bool) : Type 0 where
  pub phased : (k : ℕ) (f : Phase) (s : State) → new ≡ hand k f → state_in f ≡ Some s → states k ≡ s
  pub stopping : (k : ℕ) (f : Phase) → new ≡ hand k f → is_ending f ≡ true → stopped k ≡ true
  pub calm : (k : ℕ) → new ≢ hand k Running

says_phase : {states : ℕ → State} {stopped : ℕ → Bool} (c : ℕ) (new : Phase) → new ≢ Running → ((s : State) → state_in new ≡ Some s → states c ≡ s) → (is_ending new ≡ true → stopped c ≡ true)
    → Says (hand c new) states stopped
says_phase {states} {stopped} c new is phased stopping = record {
  phased = λ k f s e i. let same : k ≡ c = croutine_of k f e in let also : f ≡ new = phase_of k f e in ap states same ∙ phased s (ap state_in (sym also) ∙ i);
  stopping = λ k f e i. let same : k ≡ c = croutine_of k f e in let also : f ≡ new = phase_of k f e in ap stopped same ∙ stopping (ap is_ending (sym also) ∙ i);
  calm = λ k e. is (sym (phase_of k Running e));
}
  where
    croutine_of : (k : ℕ) (f : Phase) → hand c new ≡ hand k f → k ≡ c
    croutine_of k f e = grind (arith, e)

    phase_of : (k : ℕ) (f : Phase) → hand c new ≡ hand k f → f ≡ new
    phase_of k f e = grind (arith, e)

module _ {size : ℕ} {hands : ℕ → Option Hand} {states : ℕ → State} {last : ℕ → Option Outcome} {made taped : ℕ → ℕ} {stopped : ℕ → Bool} where
  -- A thread's hand changes, and nothing else.
  hand_held : (p : ℕ) (new : Option Hand) → ((k : ℕ) → hands p ≢ hand k Running) → ((k : ℕ) (f : Phase) → new ≡ hand k f → k < size)
      → ((q k : ℕ) (f g : Phase) → q ≢ p → new ≡ hand k f → hands q ≡ hand k g → ⊥) → Says new states stopped
      → Held size hands states last made taped stopped → Held size (set_at p new hands) states last made taped stopped
  hand_held p new was inside alone says h =
      let before : (k : ℕ) → NotRunning (set_at p new hands) k → NotRunning hands k = λ k. not_running hands p new k (was k) in
      record {
        known = λ a k f e. elim (set_at_is p new hands a (hand k f) e) [ inl i ↦ inside k f i.1 | inr i ↦ h.known a k f i.1 ];
        one = λ k a b f g e d. elim (set_at_is p new hands a (hand k f) e) [
          | inl i ↦ elim (set_at_is p new hands b (hand k g) d) [ inl j ↦ i.0 ∙ sym j.0 | inr j ↦ absurd (alone b k f g j.0 i.1 j.1) ]
          | inr i ↦ elim (set_at_is p new hands b (hand k g) d) [ inl j ↦ absurd (alone a k g f i.0 j.1 i.1) | inr j ↦ h.one k a b f g i.1 j.1 ]
        ];
        phased = λ a k f s e m. elim (set_at_is p new hands a (hand k f) e) [ inl i ↦ says.phased k f s i.1 m | inr i ↦ h.phased a k f s i.1 m ];
        stopping = λ a k f e m. elim (set_at_is p new hands a (hand k f) e) [ inl i ↦ says.stopping k f i.1 m | inr i ↦ h.stopping a k f i.1 m ];
        sleeps = h.sleeps;
        asleep = h.asleep;
        finished = h.finished;
        ended = λ k l no. h.ended k l (before k no);
        called = λ a k e. elim (set_at_is p new hands a (hand k Running) e) [ inl i ↦ absurd (says.calm k i.1) | inr i ↦ h.called a k i.1 ];
        holds = λ a k u e. elim (set_at_is p new hands a (hand k Running) e) [ inl i ↦ absurd (says.calm k i.1) | inr i ↦ h.holds a k u i.1 ];
        few = h.few;
        held_back = λ k l no. h.held_back k l (before k no);
        resting = λ k l no. h.resting k l (before k no);
        unended = λ k l no. h.unended k l (before k no);
      }

  pub acquire_held : (p c : ℕ) → c < size → hands p ≡ None → IsFree hands c → Held size hands states last made taped stopped
      → Held size (set_at p (hand c Fresh) hands) states last made taped stopped
  acquire_held p c inside idle free h = hand_held p (hand c Fresh) (λ k e. none_held k (sym idle ∙ e)) (λ k f e. grind (arith, e, inside))
      (λ q k f g o e d. free q g (d ∙ ap (λ n. hand n g) (croutine_of k f e))) (says_phase c Fresh (λ e. cc) (λ s e. cc) (λ e. cc)) h
    where
      none_held : (k : ℕ) → None ≡ hand k Running → ⊥
      none_held k e = cc

      croutine_of : (k : ℕ) (f : Phase) → hand c Fresh ≡ hand k f → k ≡ c
      croutine_of k f e = grind (arith, e)

  -- From a phase that isn't Running to another one.
  pub phase_held : (p c : ℕ) (old new : Phase) → hands p ≡ hand c old → old ≢ Running → new ≢ Running
      → ((s : State) → state_in new ≡ Some s → states c ≡ s) → (is_ending new ≡ true → stopped c ≡ true)
      → Held size hands states last made taped stopped → Held size (set_at p (hand c new) hands) states last made taped stopped
  phase_held p c old new held was is phased stopping h = hand_held p (hand c new) (λ k e. was (phase_of k (sym held ∙ e))) (λ k f e. subst (λ n. n < size) (sym (croutine_of k f e)) (h.known p c old held))
      (λ q k f g o e d. o (h.one c q p g old (d ∙ ap (λ n. hand n g) (croutine_of k f e)) held)) (says_phase c new is phased stopping) h
    where
      phase_of : (k : ℕ) → hand c old ≡ hand k Running → old ≡ Running
      phase_of k e = grind (arith, e)

      croutine_of : (k : ℕ) (f : Phase) → hand c new ≡ hand k f → k ≡ c
      croutine_of k f e = grind (arith, e)

  pub release_held : (p c : ℕ) (old : Phase) → hands p ≡ hand c old → old ≢ Running
      → Held size hands states last made taped stopped → Held size (set_at p None hands) states last made taped stopped
  release_held p c old held was h = hand_held p None (λ k e. was (phase_of k (sym held ∙ e))) (λ k f e. absurd (none_hand k f e)) (λ q k f g o e d. none_hand k f e)
      record { phased = λ k f s e m. absurd (none_hand k f e); stopping = λ k f e m. absurd (none_hand k f e); calm = λ k e. none_hand k Running e } h
    where
      phase_of : (k : ℕ) → hand c old ≡ hand k Running → old ≡ Running
      phase_of k e = grind (arith, e)

      none_hand : (k : ℕ) (f : Phase) → None ≡ hand k f → ⊥
      none_hand k f e = cc

  -- Nobody else holds what a thread holds.
  pub not_running_of : (p c : ℕ) (old : Phase) → hands p ≡ hand c old → old ≢ Running → Held size hands states last made taped stopped → NotRunning hands c
  not_running_of p c old held was h q r =
      let same : q ≡ p = h.one c q p Running old r held in
      let both : hand c Running ≡ hand c old = sym r ∙ ap hands same ∙ held in was (grind (arith, both))

  -- A hand after that of p changed: p's own, or that of another croutine.
  pub moved : (p c : ℕ) (old new : Phase) → hands p ≡ hand c old → Held size hands states last made taped stopped
      → (a k : ℕ) (f : Phase) → set_at p (hand c new) hands a ≡ hand k f
      → ((a ≡ p) × (k ≡ c) × (new ≡ f)) ⊎ ((a ≢ p) × (k ≢ c) × (hands a ≡ hand k f))
  moved p c old new held h a k f e = elim (set_at_is p (hand c new) hands a (hand k f) e) [
    | inl i ↦ inl (i.0, grind (arith, i.1), grind (arith, i.1))
    | inr i ↦ inr (i.0, (λ s. i.0 (h.one c a p f old (i.1 ∙ ap (λ n. hand n f) s) held)), i.1)
  ]

  -- The holder, not Running any more, stores a state that fits the last outcome.
  pub store_held : (p c : ℕ) (old new : Phase) (state : State) → hands p ≡ hand c old → new ≢ Running
      → ((s : State) → state_in new ≡ Some s → state ≡ s) → (is_ending new ≡ true → stopped c ≡ true) → Fits state (last c) (made c) (taped c) (stopped c)
      → Held size hands states last made taped stopped → Held size (set_at p (hand c new) hands) (set_at c state states) last made taped stopped
  store_held p c old new state held is phased stopping fits h =
      let there : (k : ℕ) → k ≡ c → set_at c state states k ≡ state = set_at_there c state states in
      let before : (k : ℕ) → k ≢ c → NotRunning (set_at p (hand c new) hands) k → NotRunning hands k = λ k n.
      not_running hands p (hand c new) k (λ r. n (grind (arith, held, r))) in
      record {
        known = λ a k f e. elim (moved p c old new held h a k f e) [ inl i ↦ rw i.1 (h.known p c old held) | inr i ↦ h.known a k f i.2 ];
        one = λ k a b f g e d. elim (moved p c old new held h a k f e) [
          | inl i ↦ elim (moved p c old new held h b k g d) [ inl j ↦ i.0 ∙ sym j.0 | inr j ↦ absurd (j.1 i.1) ]
          | inr i ↦ elim (moved p c old new held h b k g d) [ inl j ↦ absurd (i.1 j.1) | inr j ↦ h.one k a b f g i.2 j.2 ]
        ];
        phased = λ a k f s e m. elim (moved p c old new held h a k f e) [
          | inl i ↦ there k i.1 ∙ phased s (ap state_in i.2 ∙ m)
          | inr i ↦ set_at_other c state states k i.1 ∙ h.phased a k f s i.2 m
        ];
        stopping = λ a k f e m. elim (moved p c old new held h a k f e) [
          | inl i ↦ ap stopped i.1 ∙ stopping (ap is_ending i.2 ∙ m)
          | inr i ↦ h.stopping a k f i.2 m
        ];
        sleeps = λ k u e. elim (set_at_is c state states k (Sleep u) e) [ inl i ↦ ap (λ n. held_until (last n)) i.0 ∙ fits.sleeps u i.1 | inr i ↦ h.sleeps k u i.1 ];
        asleep = λ k u e. elim (set_at_is c state states k (Sleep u) e) [ inl i ↦ rw i.0 (fits.asleep u i.1) | inr i ↦ h.asleep k u i.1 ];
        finished = λ k e n. elim (set_at_is c state states k Finished e) [ inl i ↦ ap (λ n. is_last (last n)) i.0 ∙ fits.finished i.1 (ap stopped (sym i.0) ∙ n) | inr i ↦ h.finished k i.1 n ];
        ended = λ k l no. elim (place k c) [
          | inl i ↦ there k i ∙ fits.ended (ap (λ n. is_last (last n)) (sym i) ∙ l)
          | inr i ↦ set_at_other c state states k i ∙ h.ended k l (before k i no)
        ];
        called = λ a k e. elim (moved p c old new held h a k Running e) [ inl i ↦ absurd (is i.2) | inr i ↦ h.called a k i.2 ];
        holds = λ a k u e. elim (moved p c old new held h a k Running e) [ inl i ↦ absurd (is i.2) | inr i ↦ h.holds a k u i.2 ];
        few = h.few;
        held_back = λ k l no e. elim (place k c) [
          | inl i ↦ fits.held_back (rw i at l) (ap (λ n. held_until (last n)) (sym i) ∙ e)
          | inr i ↦ h.held_back k l (before k i no) e
        ];
        resting = λ k l no e. elim (place k c) [
          | inl i ↦ fits.resting (rw i at l) (sym (there k i) ∙ e)
          | inr i ↦ h.resting k l (before k i no) (sym (set_at_other c state states k i) ∙ e)
        ];
        unended = λ k l no e. elim (place k c) [
          | inl i ↦ fits.unended (rw i at l) (sym (there k i) ∙ e)
          | inr i ↦ h.unended k l (before k i no) (sym (set_at_other c state states k i) ∙ e)
        ];
      }

  pub ready_held : (p c : ℕ) (old : Phase) → hands p ≡ hand c old → old ≢ Running → states c ≢ Finished
      → Held size hands states last made taped stopped → Held size (set_at p (hand c Known) hands) (set_at c Ready states) last made taped stopped
  ready_held p c old held was unfinished h =
      let no = not_running_of p c old held was h in
      store_held p c old Known Ready held (λ e. cc) (λ s e. cc) (λ e. cc) record {
        sleeps = λ u e. cc;
        asleep = λ u e. absurd (ready_sleeps u e);
        finished = λ e. cc;
        ended = λ l. absurd (unfinished (h.ended c l no));
        held_back = λ l. h.held_back c l no;
        resting = λ l e. cc;
        unended = λ l e. cc;
      } h
    where
      ready_sleeps : (u : ℕ) → Ready ≡ Sleep u → ⊥
      ready_sleeps u e = cc

  pub ask_held : (p c : ℕ) → hands p ≡ hand c Checked → (taped c < made c → ⊥)
      → Held size hands states last made taped stopped → Held size (set_at p (hand c Asked) hands) (set_at c DataWait states) last made taped stopped
  ask_held p c held none h =
      let no = not_running_of p c Checked held (λ e. cc) h in
      let ready : states c ≡ Ready = h.phased p c Checked Ready held refl in
      store_held p c Checked Asked DataWait held (λ e. cc) (λ s e. some_of s e) (λ e. cc) record {
        sleeps = λ u e. cc;
        asleep = λ u e. absurd (waits_sleeps u e);
        finished = λ e. cc;
        ended = λ l. let f : states c ≡ Finished = h.ended c l no in cc;
        held_back = λ l. absurd (none l);
        resting = λ l. absurd (none l);
        unended = λ l. absurd (none l);
      } h
    where
      waits_sleeps : (u : ℕ) → DataWait ≡ Sleep u → ⊥
      waits_sleeps u e = cc

      some_of : (s : State) → Some DataWait ≡ Some s → DataWait ≡ s
      some_of s e = cc

  -- Yield of one that found nothing, ..
  pub yield_empty_held : (p c : ℕ) → hands p ≡ hand c Empty
      → Held size hands states last made taped stopped → Held size (set_at p (hand c Done) hands) (set_at c DataWait states) last made taped stopped
  yield_empty_held p c held h =
      let no = not_running_of p c Empty held (λ e. cc) h in
      let is : states c ≡ DataWait = h.phased p c Empty DataWait held refl in
      store_held p c Empty Done DataWait held (λ e. cc) (λ s e. cc) (λ e. cc) record {
        sleeps = λ u e. h.sleeps c u (is ∙ e);
        asleep = λ u e. h.asleep c u (is ∙ e);
        finished = λ e. h.finished c (is ∙ e);
        ended = λ l. sym is ∙ h.ended c l no;
        held_back = λ l. h.held_back c l no;
        resting = λ l e. h.resting c l no is;
        unended = λ l e. h.resting c l no is;
      } h

  -- .. of one that was called, ..
  pub yield_running_held : (p c : ℕ) (state : State) → hands p ≡ hand c Running → option_map state_after (last c) ≡ Some state
      → (held_until (last c) ≡ None → taped c < made c → ⊥)
      → Held size hands states last made taped stopped → Held size (set_at p (hand c Done) hands) (set_at c state states) last made taped stopped
  yield_running_held p c state held named sent h =
      store_held p c Running Done state held (λ e. cc) (λ s e. cc) (λ e. cc) record {
        sleeps = λ u e. named_sleep (last c) u (named ∙ ap (λ s. Some s) e);
        asleep = λ u e. h.holds p c u held (named_sleep (last c) u (named ∙ ap (λ s. Some s) e));
        finished = λ e n. named_finished (last c) (named ∙ ap (λ s. Some s) e);
        ended = λ l. ended_named (last c) state l named;
        held_back = λ l e. sent e l;
        resting = λ l e. named_waiting (last c) (named ∙ ap (λ s. Some s) e);
        unended = λ l e. sent (last_now (last c) (named_finished (last c) (named ∙ ap (λ s. Some s) e))) l;
      } h

  -- .. of one whose held output was sent, ..
  pub yield_sending_held : (p c : ℕ) → hands p ≡ hand c Sending → (taped c < made c → ⊥)
      → Held size hands states last made taped stopped → Held size (set_at p (hand c Done) hands) (set_at c Ready states) last made taped stopped
  yield_sending_held p c held sent h =
      let no = not_running_of p c Sending held (λ e. cc) h in
      let is : states c ≡ Ready = h.phased p c Sending Ready held refl in
      store_held p c Sending Done Ready held (λ e. cc) (λ s e. cc) (λ e. cc) record {
        sleeps = λ u e. h.sleeps c u (is ∙ e);
        asleep = λ u e. h.asleep c u (is ∙ e);
        finished = λ e. h.finished c (is ∙ e);
        ended = λ l. sym is ∙ h.ended c l no;
        held_back = λ l. absurd (sent l);
        resting = λ l. absurd (sent l);
        unended = λ l. absurd (sent l);
      } h

  -- .. and of one that is stopped.
  pub yield_stopped_held : (p c : ℕ) (old : Phase) → is_ending old ≡ true → hands p ≡ hand c old → (taped c < made c → ⊥)
      → Held size hands states last made taped stopped → Held size (set_at p (hand c Done) hands) (set_at c Finished states) last made taped stopped
  yield_stopped_held p c old ending held sent h =
      store_held p c old Done Finished held (λ e. cc) (λ s e. cc) (λ e. cc) record {
        sleeps = λ u e. cc;
        asleep = λ u e. absurd (finished_sleeps u e);
        finished = λ e n. absurd (both (sym (h.stopping p c old held ending) ∙ n));
        ended = λ l. refl;
        held_back = λ l. absurd (sent l);
        resting = λ l. absurd (sent l);
        unended = λ l. absurd (sent l);
      } h
    where
      finished_sleeps : (u : ℕ) → Finished ≡ Sleep u → ⊥
      finished_sleeps u e = cc

      both : true ≡ false → ⊥
      both e = cc
