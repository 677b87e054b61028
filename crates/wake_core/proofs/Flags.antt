-- Acquire flags, and components that are still to be stepped, when a hand changes.
use Rattle.std.proofs.Common.{ℕ, ◌≡◌, ◌≢◌, Bool, true, refl, sym, ◌∙◌, ap, inl, inr, arith, Option, Some, None}
use Rattle.cy_msg.proofs.Lists.{place}
use Rattle.wake_core.specs.declared.found.Found.{Found}
use Rattle.wake_core.specs.Run.{set_at}
use Rattle.wake_core.specs.Plain.{Hand, hand, Phase, Fresh, Running}
use Rattle.wake_core.specs.Events.{IsFree}
use Rattle.wake_core.specs.Sound.{NotRunning}
use Rattle.wake_core.specs.private.Shown.{IsFlagged, IsStepping}
use Rattle.wake_core.proofs.Places.{set_at_is, set_at_there, set_at_other}

-- Whom this thread doesn't hold, nor takes, is as free as before.
free_before : (hands : ℕ → Option Hand) (p : ℕ) (new : Option Hand) (k : ℕ) → ((f : Phase) → hands p ≢ hand k f) → IsFree (set_at p new hands) k → IsFree hands k
free_before hands p new k n free q f e = free q f (grind (arith, set_at_other, n, e))

pub acquire_flags : {size : ℕ} {held : ℕ → Bool} {hands : ℕ → Option Hand} (p c : ℕ) → hands p ≡ None → IsFlagged size held hands
    → IsFlagged size (set_at c true held) (set_at p (hand c Fresh) hands)
acquire_flags {size} {held} {hands} p c idle h = record {
  free = λ k l e q f i. grind (arith, set_at_is, h.free k l, e, i);
  taken = λ k l e free. grind (arith, set_at_is, h.taken k l, free_before hands p (hand c Fresh) k (λ f i. cc) free, e, free p Fresh, set_at_there);
}

-- A thread's hand changes, and was not in Running, or what it ran is stepped.
pub hand_stepping : {hands : ℕ → Option Hand} {found : ℕ → Option Found} (p : ℕ) (new : Option Hand) → ((c : ℕ) → found c ≢ None → hands p ≢ hand c Running) → IsStepping hands found
    → IsStepping (set_at p new hands) found
hand_stepping {hands} {found} p new apart h = record { stepped = λ c still. by c still (found c) refl }
  where
    none_some : (f : Found) → Some f ≡ None → ⊥
    none_some f e = cc

    by : (c : ℕ) → NotRunning (set_at p new hands) c → (o : Option Found) → found c ≡ o → found c ≡ None
    by c still None e = e
    by c still (Some f) e = h.stepped c (λ q r. elim (place q p) [
      | inl same ↦ apart c (λ none. none_some f (sym e ∙ none)) (ap hands (sym same) ∙ r)
      | inr other ↦ still q (set_at_other p new hands q other ∙ r)
    ])

-- A thread that had nothing in hand takes a croutine, or one that does not run changes its phase.
pub idle_stepping : {hands : ℕ → Option Hand} {found : ℕ → Option Found} (p : ℕ) (new : Option Hand) → hands p ≡ None → IsStepping hands found → IsStepping (set_at p new hands) found
idle_stepping {hands} p new idle h = hand_stepping p new (λ c some r. none_running c (sym idle ∙ r)) h
  where
    none_running : (c : ℕ) → None ≡ hand c Running → ⊥
    none_running c e = cc

-- The thread's croutine stands in another phase.
pub phase_flags : {size : ℕ} {held : ℕ → Bool} {hands : ℕ → Option Hand} (p c : ℕ) (old new : Phase) → hands p ≡ hand c old → IsFlagged size held hands → IsFlagged size held (set_at p (hand c new) hands)
phase_flags {size} {held} {hands} p c old new has h = record {
  free = λ k l e q f i. elim (place q p) [
    | inl same ↦ h.free k l e p old (has ∙ ap (λ n. hand n old) (croutine_of c k new f (sym (set_at_there p (hand c new) hands q same) ∙ i)))
    | inr other ↦ h.free k l e q f (sym (set_at_other p (hand c new) hands q other) ∙ i)
  ];
  taken = λ k l e none. h.taken k l e (λ q f i. elim (place q p) [
    | inl same ↦ none p new (set_at_there p (hand c new) hands p refl ∙ ap (λ n. hand n new) (croutine_of c k old f (sym has ∙ ap hands (sym same) ∙ i)))
    | inr other ↦ none q f (set_at_other p (hand c new) hands q other ∙ i)
  ]);
}
  where
    croutine_of : (c k : ℕ) (f g : Phase) → hand c f ≡ hand k g → c ≡ k
    croutine_of c k f g e = grind arith

pub phase_stepping : {hands : ℕ → Option Hand} {found : ℕ → Option Found} (p c : ℕ) (old : Phase) (new : Option Hand) → hands p ≡ hand c old → old ≢ Running → IsStepping hands found
    → IsStepping (set_at p new hands) found
phase_stepping {hands} p c old new has other h = hand_stepping p new (λ k some r. other (phase_of c k old Running (sym has ∙ r))) h
  where
    phase_of : (c k : ℕ) (f g : Phase) → hand c f ≡ hand k g → f ≡ g
    phase_of c k f g e = grind arith
