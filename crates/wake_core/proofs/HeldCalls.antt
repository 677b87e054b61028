-- What a call, and an output that is sent, keep of holders, phases and states.
use Rattle.std.proofs.Common.{ℕ, ◌≡◌, ◌≢◌, ◌≤◌, ◌<◌, ◌+◌, Bool, true, refl, sym, ◌∙◌, ap, subst, inl, inr, arith, Option, Some, None}
use mathlib.Core.Path.{fun_ext}
use Rattle.cy_msg.proofs.Lists.{place}
use Rattle.cy_comp.specs.declared.call.Outcome.{Outcome}
use Rattle.cy_comp.specs.Calls.{is_last, held_until}
use Rattle.wake_core.specs.Run.{set_at}
use Rattle.wake_core.specs.Plain.{Hand, hand, State, Ready, DataWait, Sleep, Phase, Asked, Running}
use Rattle.wake_core.specs.Sound.{Held, NotRunning, state_in, is_ending}
use Rattle.wake_core.proofs.Places.{set_at_there}
use Rattle.wake_core.proofs.HeldLaws.{not_running, moved, not_running_of}

-- A call more of one component, with this outcome.
pub record OneCall (c : ℕ) (outcome : Outcome) (last last' : ℕ → Option Outcome) (made made' : ℕ → ℕ) : Type 0 where
  pub outcome_of : last' c ≡ Some outcome
  pub more : made c ≤ made' c
  pub put : held_until (Some outcome) ≢ None → made c < made' c
  pub last_other : (k : ℕ) → k ≢ c → last' k ≡ last k
  pub made_other : (k : ℕ) → k ≢ c → made' k ≡ made k

-- An output more of one component on the tape.
pub record OneTaped (c : ℕ) (taped taped' : ℕ → ℕ) : Type 0 where
  pub one : taped' c ≡ taped c + 1
  pub other : (k : ℕ) → k ≢ c → taped' k ≡ taped k

module _ {size : ℕ} {hands : ℕ → Option Hand} {states : ℕ → State} {last last' : ℕ → Option Outcome} {made made' taped : ℕ → ℕ} {stopped : ℕ → Bool} where
  pub call_held : (p c : ℕ) (outcome : Outcome) → hands p ≡ hand c Asked → OneCall c outcome last last' made made'
      → Held size hands states last made taped stopped → Held size (set_at p (hand c Running) hands) states last' made' taped stopped
  call_held p c outcome held more h =
      let is : states c ≡ DataWait = h.phased p c Asked DataWait held refl in
      let before : (k : ℕ) → k ≢ c → NotRunning (set_at p (hand c Running) hands) k → NotRunning hands k = λ k n.
      not_running hands p (hand c Running) k (λ r. n (grind (arith, held, r))) in
      let runs : (k : ℕ) → k ≡ c → NotRunning (set_at p (hand c Running) hands) k → ⊥ = λ k e no. no p (set_at_there p (hand c Running) hands p refl ∙ ap (λ n. hand n Running) (sym e)) in
      let of_last : (k : ℕ) → k ≢ c → last' k ≡ last k = more.last_other in
      let of_made : (k : ℕ) → k ≢ c → made' k ≡ made k = more.made_other in
      record {
        known = λ a k f e. elim (moved p c Asked Running held h a k f e) [ inl i ↦ rw i.1 (h.known p c Asked held) | inr i ↦ h.known a k f i.2 ];
        one = λ k a b f g e d. elim (moved p c Asked Running held h a k f e) [
          | inl i ↦ elim (moved p c Asked Running held h b k g d) [ inl j ↦ i.0 ∙ sym j.0 | inr j ↦ absurd (j.1 i.1) ]
          | inr i ↦ elim (moved p c Asked Running held h b k g d) [ inl j ↦ absurd (i.1 j.1) | inr j ↦ h.one k a b f g i.2 j.2 ]
        ];
        phased = λ a k f t e m. elim (moved p c Asked Running held h a k f e) [
          | inl i ↦ ap states i.1 ∙ is ∙ some_of t (ap state_in i.2 ∙ m)
          | inr i ↦ h.phased a k f t i.2 m
        ];
        stopping = λ a k f e m. elim (moved p c Asked Running held h a k f e) [ inl i ↦ absurd (runs_on (ap is_ending i.2 ∙ m)) | inr i ↦ h.stopping a k f i.2 m ];
        sleeps = λ k u e. elim (place k c) [ inl i ↦ let waits : states k ≡ DataWait = ap states i ∙ is in cc | inr i ↦ ap held_until (of_last k i) ∙ h.sleeps k u e ];
        asleep = λ k u e. elim (place k c) [
          | inl i ↦ absurd (waits_not_sleeps u (sym is ∙ ap states (sym i) ∙ e))
          | inr i ↦ let was = h.asleep k u e in rw (of_made k i) was
        ];
        finished = λ k e n. elim (place k c) [ inl i ↦ let waits : states k ≡ DataWait = ap states i ∙ is in cc | inr i ↦ ap is_last (of_last k i) ∙ h.finished k e n ];
        ended = λ k l no. elim (place k c) [ inl i ↦ absurd (runs k i no) | inr i ↦ h.ended k (ap is_last (sym (of_last k i)) ∙ l) (before k i no) ];
        called = λ a k e none. elim (moved p c Asked Running held h a k Running e) [
          | inl i ↦ let some : last' k ≡ Some outcome = ap last' i.1 ∙ more.outcome_of in cc
          | inr i ↦ h.called a k i.2 (sym (of_last k i.1) ∙ none)
        ];
        holds = λ a k u e g. elim (moved p c Asked Running held h a k Running e) [
          | inl i ↦ rw i.1 (held_more u (h.few c) (ap held_until (sym (ap last' i.1 ∙ more.outcome_of)) ∙ g) more.put)
          | inr i ↦ let was = h.holds a k u i.2 (ap held_until (sym (of_last k i.1)) ∙ g) in rw (of_made k i.1) was
        ];
        few = λ k. elim (place k c) [ inl i ↦ rw i (few_more (h.few c) more.more) | inr i ↦ let was = h.few k in rw (of_made k i) was ];
        held_back = λ k l no e. elim (place k c) [
          | inl i ↦ runs k i no
          | inr i ↦ h.held_back k (rw (of_made k i) at l) (before k i no) (ap held_until (sym (of_last k i)) ∙ e)
        ];
        resting = λ k l no. elim (place k c) [ inl i ↦ absurd (runs k i no) | inr i ↦ h.resting k (rw (of_made k i) at l) (before k i no) ];
        unended = λ k l no. elim (place k c) [ inl i ↦ absurd (runs k i no) | inr i ↦ h.unended k (rw (of_made k i) at l) (before k i no) ];
      }
    where
      some_of : (t : State) → Some DataWait ≡ Some t → DataWait ≡ t
      some_of t e = cc

      runs_on : is_ending Running ≡ true → ⊥
      runs_on e = cc

      waits_not_sleeps : (u : ℕ) → DataWait ≡ Sleep u → ⊥
      waits_not_sleeps u e = cc

      held_more : (u : ℕ) → taped c ≤ made c → held_until (Some outcome) ≡ Some u → (held_until (Some outcome) ≢ None → made c < made' c) → taped c < made' c
      held_more u few is put = let more : made c < made' c = put (λ none. some_none u (sym is ∙ none)) in omega arith
        where
          some_none : (u : ℕ) → Some u ≡ None → ⊥
          some_none u e = cc

      few_more : taped c ≤ made c → made c ≤ made' c → taped c ≤ made' c
      few_more few more = omega arith

module _ {size : ℕ} {hands : ℕ → Option Hand} {states : ℕ → State} {last : ℕ → Option Outcome} {made taped taped' : ℕ → ℕ} {stopped : ℕ → Bool} where
  -- An output is sent after a call that doesn't hold it back, ..
  pub send_running_held : (p c : ℕ) → hands p ≡ hand c Running → held_until (last c) ≡ None → taped c < made c → OneTaped c taped taped'
      → Held size hands states last made taped stopped → Held size hands states last made taped' stopped
  send_running_held p c held now unsent more h =
      let is : states c ≡ DataWait = h.phased p c Running DataWait held refl in
      let runs : (k : ℕ) → k ≡ c → NotRunning hands k → ⊥ = λ k e no. no p (held ∙ ap (λ n. hand n Running) (sym e)) in
      record {
        known = h.known;
        one = h.one;
        phased = h.phased;
        stopping = h.stopping;
        sleeps = h.sleeps;
        asleep = λ k u e. elim (place k c) [
          | inl i ↦ absurd (waits_not_sleeps u (sym is ∙ ap states (sym i) ∙ e))
          | inr i ↦ let was = h.asleep k u e in rw (more.other k i) was
        ];
        finished = h.finished;
        ended = h.ended;
        called = h.called;
        holds = λ a k u e g. elim (place k c) [
          | inl i ↦ absurd (some_none u (sym g ∙ ap (λ n. held_until (last n)) i ∙ now))
          | inr i ↦ let was = h.holds a k u e g in rw (more.other k i) was
        ];
        few = λ k. elim (place k c) [ inl i ↦ rw (i, more.one) (fits unsent) | inr i ↦ let was = h.few k in rw (more.other k i) was ];
        held_back = λ k l no e. elim (place k c) [ inl i ↦ runs k i no | inr i ↦ h.held_back k (rw (more.other k i) at l) no e ];
        resting = λ k l no. elim (place k c) [ inl i ↦ absurd (runs k i no) | inr i ↦ h.resting k (rw (more.other k i) at l) no ];
        unended = λ k l no. elim (place k c) [ inl i ↦ absurd (runs k i no) | inr i ↦ h.unended k (rw (more.other k i) at l) no ];
      }
    where
      waits_not_sleeps : (u : ℕ) → DataWait ≡ Sleep u → ⊥
      waits_not_sleeps u e = cc

      some_none : (u : ℕ) → Some u ≡ None → ⊥
      some_none u e = cc

      fits : taped c < made c → taped c + 1 ≤ made c
      fits l = omega arith

  -- .. or when it was held back and the component is READY.
  pub send_held_held : (p c : ℕ) (old new : Phase) → hands p ≡ hand c old → old ≢ Running → new ≢ Running → state_in old ≡ Some Ready
      → ((t : State) → state_in new ≡ Some t → Ready ≡ t) → (is_ending new ≡ true → stopped c ≡ true) → taped c < made c → OneTaped c taped taped'
      → Held size hands states last made taped stopped → Held size (set_at p (hand c new) hands) states last made taped' stopped
  send_held_held p c old new held was is in_old in_new names unsent more h =
      let ready : states c ≡ Ready = h.phased p c old Ready held in_old in
      let no_c = not_running_of p c old held was h in
      let before : (k : ℕ) → k ≢ c → NotRunning (set_at p (hand c new) hands) k → NotRunning hands k = λ k n.
      not_running hands p (hand c new) k (λ r. n (grind (arith, held, r))) in
      record {
        known = λ a k f e. elim (moved p c old new held h a k f e) [ inl i ↦ rw i.1 (h.known p c old held) | inr i ↦ h.known a k f i.2 ];
        one = λ k a b f g e d. elim (moved p c old new held h a k f e) [
          | inl i ↦ elim (moved p c old new held h b k g d) [ inl j ↦ i.0 ∙ sym j.0 | inr j ↦ absurd (j.1 i.1) ]
          | inr i ↦ elim (moved p c old new held h b k g d) [ inl j ↦ absurd (i.1 j.1) | inr j ↦ h.one k a b f g i.2 j.2 ]
        ];
        phased = λ a k f t e m. elim (moved p c old new held h a k f e) [
          | inl i ↦ ap states i.1 ∙ ready ∙ in_new t (ap state_in i.2 ∙ m)
          | inr i ↦ h.phased a k f t i.2 m
        ];
        stopping = λ a k f e m. elim (moved p c old new held h a k f e) [ inl i ↦ ap stopped i.1 ∙ names (ap is_ending i.2 ∙ m) | inr i ↦ h.stopping a k f i.2 m ];
        sleeps = h.sleeps;
        asleep = λ k u e. elim (place k c) [
          | inl i ↦ absurd (ready_not_sleeps u (sym ready ∙ ap states (sym i) ∙ e))
          | inr i ↦ let was = h.asleep k u e in rw (more.other k i) was
        ];
        finished = h.finished;
        ended = λ k l no. elim (place k c) [ inl i ↦ h.ended k l (λ q r. no_c q (r ∙ ap (λ n. hand n Running) i)) | inr i ↦ h.ended k l (before k i no) ];
        called = λ a k e. elim (moved p c old new held h a k Running e) [ inl i ↦ absurd (is i.2) | inr i ↦ h.called a k i.2 ];
        holds = λ a k u e g. elim (moved p c old new held h a k Running e) [
          | inl i ↦ absurd (is i.2)
          | inr i ↦ let was = h.holds a k u i.2 g in rw (more.other k i.1) was
        ];
        few = λ k. elim (place k c) [ inl i ↦ rw (i, more.one) (fits unsent) | inr i ↦ let was = h.few k in rw (more.other k i) was ];
        held_back = λ k l no e. elim (place k c) [
          | inl i ↦ h.held_back c unsent no_c (ap (λ n. held_until (last n)) (sym i) ∙ e)
          | inr i ↦ h.held_back k (rw (more.other k i) at l) (before k i no) e
        ];
        resting = λ k l no e. elim (place k c) [
          | inl i ↦ h.resting c unsent no_c (ap states (sym i) ∙ e)
          | inr i ↦ h.resting k (rw (more.other k i) at l) (before k i no) e
        ];
        unended = λ k l no e. elim (place k c) [
          | inl i ↦ h.unended c unsent no_c (ap states (sym i) ∙ e)
          | inr i ↦ h.unended k (rw (more.other k i) at l) (before k i no) e
        ];
      }
    where
      ready_not_sleeps : (u : ℕ) → Ready ≡ Sleep u → ⊥
      ready_not_sleeps u e = cc

      fits : taped c < made c → taped c + 1 ≤ made c
      fits l = omega arith

  -- Where nobody's outputs on the tape became more.
  pub same_taped_held : ((k : ℕ) → taped' k ≡ taped k) → Held size hands states last made taped stopped → Held size hands states last made taped' stopped
  same_taped_held same h = subst (λ (t : ℕ → ℕ). Held size hands states last made t stopped) (sym (fun_ext same)) h
