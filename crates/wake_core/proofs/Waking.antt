-- What each event keeps of waking: no croutine parks with its flag spent while something waits for it.
use Rattle.std.proofs.Common.{ℕ, ◌≡◌, ◌≢◌, ◌⊎◌, Bool, true, false, refl, sym, ◌∙◌, ap, inl, inr, arith, Option, None, List, ◌++◌, ◌∷◌, [], if◌then◌else◌}
use Rattle.std.proofs.lemmas.Bool.Decides.{nat_tests}
use Rattle.cy_msg.proofs.Lists.{place}
use Rattle.wake_core.specs.Run.{set_at}
use Rattle.wake_core.specs.Plain.{Hand, hand, State, Ready, DataWait, Phase, Fresh, Woken, Known, Checked, Asked, Empty, Running, Done, lists}
use Rattle.wake_core.specs.Events.{phase_after_spend, is_waiting}
use Rattle.wake_core.specs.Sound.{Wakes, Unwatched}
use Rattle.wake_core.proofs.Places.{set_at_there, set_at_other}
use Rattle.wake_core.proofs.Listing.{lists_parts, lists_whole}

-- Whoever nobody watches after a hand changed from a phase in which nobody watched it was not watched before.
unwatched_before : (hands : ℕ → Option Hand) (p c : ℕ) (old : Phase) (new : Option Hand) → hands p ≡ hand c old → old ≢ Woken → old ≢ Asked → old ≢ Running
    → (k : ℕ) → Unwatched (set_at p new hands) k → Unwatched hands k
unwatched_before hands p c old new held a b d k un = λ q. grind (arith, set_at_other, held, a, b, d, un q)

-- What isn't among a thread's list after a change wasn't before.
kept_off : (f : ℕ → List ℕ) (p : ℕ) (xs : List ℕ) (k : ℕ) → (lists k xs ≡ false → lists k (f p) ≡ false) → (q : ℕ) → lists k (set_at p xs f q) ≡ false → lists k (f q) ≡ false
kept_off f p xs k back q e = elim (place q p) [
  | inl is ↦ ap (λ n. lists k (f n)) is ∙ back (ap (lists k) (sym (set_at_there p xs f q is)) ∙ e)
  | inr is ↦ ap (lists k) (sym (set_at_other p xs f q is)) ∙ e
]

lists_either : (k c : ℕ) (b : Bool) (xs : List ℕ) → lists k (if b then xs ++ c ∷ [] else xs) ≡ false → lists k xs ≡ false
lists_either k c true xs e = (lists_parts k xs (c ∷ []) e).0
lists_either k c false xs e = e

module _ {hands : ℕ → Option Hand} {states : ℕ → State} {spent : ℕ → Bool} {found : ℕ → Option ℕ} {news clearing : ℕ → List ℕ} where
  pub acquire_wakes : (p c : ℕ) → hands p ≡ None → Wakes hands states spent found news clearing → Wakes (set_at p (hand c Fresh) hands) states spent found news clearing
  acquire_wakes p c held h = record { none_lost = λ k is_spent some quiet waiting un. h.none_lost k is_spent some quiet waiting (λ q. grind (arith, set_at_other, held, un q)) }

  pub spend_wakes : (p c : ℕ) → hands p ≡ hand c Fresh → Wakes hands states spent found news clearing
      → Wakes (set_at p (hand c (phase_after_spend (states c) (spent c))) hands) states (set_at c true spent) found news clearing
  spend_wakes p c held h = record {
    none_lost = λ k is_spent some quiet waiting un.
        h.none_lost k (was k is_spent waiting (un p)) some quiet waiting (unwatched_before hands p c Fresh (hand c (phase_after_spend (states c) (spent c))) held (λ e. cc) (λ e. cc) (λ e. cc) k un);
  }
    where
      woken : (b : Bool) → states c ≡ DataWait → phase_after_spend (states c) b ≢ Woken → b ≡ true
      woken true e n = refl
      woken false e n = absurd (n (ap (λ s. phase_after_spend s false) e))

      was : (k : ℕ) → set_at c true spent k ≡ true → states k ≡ DataWait
          → (set_at p (hand c (phase_after_spend (states c) (spent c))) hands p ≢ hand k Woken) × (set_at p (hand c (phase_after_spend (states c) (spent c))) hands p ≢ hand k Asked) × (set_at p (hand c (phase_after_spend (states c) (spent c))) hands p ≢ hand k Running)
          → spent k ≡ true
      was k is_spent waiting un = elim (place k c) [
        | inl e ↦ ap spent e ∙ woken (spent c) (ap states (sym e) ∙ waiting) (λ w. un.0 (set_at_there p (hand c (phase_after_spend (states c) (spent c))) hands p refl ∙ ap (hand c) w ∙ ap (λ n. hand n Woken) (sym e)))
        | inr e ↦ sym (set_at_other c true spent k e) ∙ is_spent
      ]

  pub ready_wakes : (p c : ℕ) → (hands p ≡ hand c Woken) ⊎ (hands p ≡ hand c Fresh) → Wakes hands states spent found news clearing
      → Wakes (set_at p (hand c Known) hands) (set_at c Ready states) spent found news clearing
  ready_wakes p c held h = record {
    none_lost = λ k is_spent some quiet waiting un.
        let other : k ≢ c = λ e. ready_waits (sym (set_at_there c Ready states k e) ∙ waiting) in
        h.none_lost k is_spent some quiet (sym (set_at_other c Ready states k other) ∙ waiting) (λ q. grind (arith, set_at_other, held, other, un q));
  }
    where
      ready_waits : Ready ≡ DataWait → ⊥
      ready_waits e = cc

  pub ask_wakes : (p c : ℕ) → hands p ≡ hand c Checked → Wakes hands states spent found news clearing
      → Wakes (set_at p (hand c Asked) hands) (set_at c DataWait states) spent found news clearing
  ask_wakes p c held h = record {
    none_lost = λ k is_spent some quiet waiting un.
        let other : k ≢ c = λ e. (un p).1 (set_at_there p (hand c Asked) hands p refl ∙ ap (λ n. hand n Asked) (sym e)) in
        h.none_lost k is_spent some quiet (sym (set_at_other c DataWait states k other) ∙ waiting) (unwatched_before hands p c Checked (hand c Asked) held (λ e. cc) (λ e. cc) (λ e. cc) k un);
  }

  pub none_wakes : (p c : ℕ) → hands p ≡ hand c Asked → found c ≡ None → Wakes hands states spent found news clearing
      → Wakes (set_at p (hand c Empty) hands) states spent found news clearing
  none_wakes p c held none h = record {
    none_lost = λ k is_spent some quiet waiting un.
        let other : k ≢ c = λ e. some (ap found e ∙ none) in
        h.none_lost k is_spent some quiet waiting (λ q. grind (arith, set_at_other, held, other, un q));
  }

  pub call_wakes : (after : ℕ → Option ℕ) (p c : ℕ) → hands p ≡ hand c Asked → ((k : ℕ) → k ≢ c → after k ≡ found k) → Wakes hands states spent found news clearing
      → Wakes (set_at p (hand c Running) hands) states spent after news clearing
  call_wakes after p c held same h = record {
    none_lost = λ k is_spent some quiet waiting un.
        let other : k ≢ c = λ e. (un p).2 (set_at_there p (hand c Running) hands p refl ∙ ap (λ n. hand n Running) (sym e)) in
        h.none_lost k is_spent (λ e. some (same k other ∙ e)) quiet waiting (λ q. grind (arith, set_at_other, held, other, un q));
  }

  -- An output that was held back is sent.
  -- A hand changes from a phase in which nobody watches.
  pub hand_wakes : (p c : ℕ) (old : Phase) (new : Option Hand) → hands p ≡ hand c old → old ≢ Woken → old ≢ Asked → old ≢ Running → Wakes hands states spent found news clearing
      → Wakes (set_at p new hands) states spent found news clearing
  hand_wakes p c old new held a b d h = record {
    none_lost = λ k is_spent some quiet waiting un. h.none_lost k is_spent some quiet waiting (unwatched_before hands p c old new held a b d k un);
  }

  -- A message arrives that triggers a component, which joins the news.
  pub fill_wakes : (after : ℕ → Option ℕ) (p c : ℕ) → ((k : ℕ) → k ≢ c → after k ≡ found k) → Wakes hands states spent found news clearing
      → Wakes hands states spent after (set_at p (news p ++ c ∷ []) news) clearing
  fill_wakes after p c same h = record {
    none_lost = λ k is_spent some quiet waiting un.
        let now : lists k (news p ++ c ∷ []) ≡ false = ap (lists k) (sym (set_at_there p (news p ++ c ∷ []) news p refl)) ∙ (quiet p).0 in
        let parts = lists_parts k (news p) (c ∷ []) now in
        let other : k ≢ c = apart k parts.1 in
        h.none_lost k is_spent (λ e. some (same k other ∙ e))
        (λ q. (kept_off news p (news p ++ c ∷ []) k (λ e. parts.0) q (quiet q).0, (quiet q).1)) waiting un;
  }
    where
      apart : (k : ℕ) → lists k (c ∷ []) ≡ false → k ≢ c
      apart k l = λ e. grind (arith, nat_tests, l, e)

  -- One that triggers none leaves the news.
  pub quiet_fill_wakes : (after : ℕ → Option ℕ) (p : ℕ) → ((k : ℕ) → after k ≡ found k) → Wakes hands states spent found news clearing
      → Wakes hands states spent after (set_at p (news p) news) clearing
  quiet_fill_wakes after p same h = record {
    none_lost = λ k is_spent some quiet waiting un.
        h.none_lost k is_spent (λ e. some (same k ∙ e)) (λ q. (kept_off news p (news p) k (λ e. e) q (quiet q).0, (quiet q).1)) waiting un;
  }

  pub look_wakes : (p c : ℕ) (later : List ℕ) → news p ≡ c ∷ later → Wakes hands states spent found news clearing
      → Wakes hands states spent found (set_at p later news) (set_at p (if is_waiting (states c) then clearing p ++ c ∷ [] else clearing p) clearing)
  look_wakes p c later first h = record {
    none_lost = λ k is_spent some quiet waiting un.
        let seen : states c ≡ DataWait → lists k (clearing p ++ c ∷ []) ≡ false = λ e.
        ap (λ (s : State). lists k (if is_waiting s then clearing p ++ c ∷ [] else clearing p)) (sym e)
        ∙ ap (lists k) (sym (set_at_there p (if is_waiting (states c) then clearing p ++ c ∷ [] else clearing p) clearing p refl)) ∙ (quiet p).1 in
        let other : k ≢ c = λ e. apart k (lists_parts k (clearing p) (c ∷ []) (seen (ap states (sym e) ∙ waiting))).1 e in
        h.none_lost k is_spent some (λ q. (
          kept_off news p later k (λ e. ap (lists k) first ∙ lists_whole k c [] later other e) q (quiet q).0,
          kept_off clearing p (if is_waiting (states c) then clearing p ++ c ∷ [] else clearing p) k (lists_either k c (is_waiting (states c)) (clearing p)) q (quiet q).1,
        )) waiting un;
  }
    where
      apart : (k : ℕ) → lists k (c ∷ []) ≡ false → k ≢ c
      apart k l = λ e. grind (arith, nat_tests, l, e)

  pub clear_wakes : (p c : ℕ) (before after : List ℕ) → clearing p ≡ before ++ c ∷ after → Wakes hands states spent found news clearing
      → Wakes hands states (set_at c false spent) found news (set_at p (before ++ after) clearing)
  clear_wakes p c before after there h = record {
    none_lost = λ k is_spent some quiet waiting un.
        let other : k ≢ c = λ e. false_true (sym (set_at_there c false spent k e) ∙ is_spent) in
        h.none_lost k (sym (set_at_other c false spent k other) ∙ is_spent) some (λ q. (
          (quiet q).0,
          kept_off clearing p (before ++ after) k (λ e. ap (lists k) there ∙ lists_whole k c before after other e) q (quiet q).1,
        )) waiting un;
  }
    where
      false_true : false ≡ true → ⊥
      false_true e = cc

  -- One that found nothing parks, ..
  pub yield_empty_wakes : (p c : ℕ) → hands p ≡ hand c Empty → states c ≡ DataWait → Wakes hands states spent found news clearing
      → Wakes (set_at p (hand c Done) hands) (set_at c DataWait states) spent found news clearing
  yield_empty_wakes p c held was h = record {
    none_lost = λ k is_spent some quiet waiting un.
        let waits : states k ≡ DataWait = elim (place k c) [ inl e ↦ ap states e ∙ was | inr e ↦ sym (set_at_other c DataWait states k e) ∙ waiting ] in
        h.none_lost k is_spent some quiet waits (unwatched_before hands p c Empty (hand c Done) held (λ e. cc) (λ e. cc) (λ e. cc) k un);
  }

  -- .. and any other stores another state than DATA_WAIT.
  pub yield_wakes : (p c : ℕ) (old : Phase) (state : State) → hands p ≡ hand c old → state ≢ DataWait → Wakes hands states spent found news clearing
      → Wakes (set_at p (hand c Done) hands) (set_at c state states) spent found news clearing
  yield_wakes p c old state held named h = record {
    none_lost = λ k is_spent some quiet waiting un.
        let other : k ≢ c = λ e. named (sym (set_at_there c state states k e) ∙ waiting) in
        h.none_lost k is_spent some quiet (sym (set_at_other c state states k other) ∙ waiting) (λ q. grind (arith, set_at_other, held, other, un q));
  }
