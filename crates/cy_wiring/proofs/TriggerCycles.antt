-- Following triggers comes back to a component within as many steps as there are components, or never.
use Rattle.std.proofs.Common.{ℕ, zero, suc, ◌≡◌, ◌+◌, ◌-◌, ◌<◌, ◌≤◌, ◌⊎◌, Bool, true, false, cond, eqb, if◌then◌else◌, List, length, slice_get, Option, Some, None, unwrap_or, option_map, option_and_then, refl, sym, ap, ◌∙◌, inl, inr, arith}
use Rattle.std.proofs.lemmas.Bool.{cases_order, eq-eqb, eqb-true, false≢true}
use Rattle.std.proofs.lemmas.Option.{none-some, slice_get_within}
use Rattle.cy_wiring.specs.Triggers.{after, back_at, cycle_at, cycle_refusal, is_at, met, trigger_in, way_back}
use Rattle.cy_dag.specs.declared.error.DagError.TheVariants.{TriggerCycle}
use Rattle.cy_dag.proofs.Found.{none_given}

-- A function that is one to one on the numbers below n, with values below m: n is at most m.
abbrev Into : (ℕ → ℕ) → ℕ → ℕ → Type 0
Into f n m = (i : ℕ) → i < n → f i < m

abbrev OneToOne : (ℕ → ℕ) → ℕ → Type 0
OneToOne f n = (i j : ℕ) → i < n → j < n → f i ≡ f j → i ≡ j

-- The value m is replaced by that of the last number.
abbrev other : (ℕ → ℕ) → ℕ → ℕ → ℕ → ℕ
other f m n i = cond (eqb (f i) m) (f n) (f i)

abbrev IsOther : ℕ → ℕ → ℕ → ℕ → Type 0
IsOther x m y r = ((x ≡ m) × (r ≡ y)) ⊎ ((x ≡ m → ⊥) × (r ≡ x))

is_other : (x m y : ℕ) → IsOther x m y (cond (eqb x m) y x)
is_other x m y = by_test (eqb x m) refl
  where
    by_test : (b : Bool) → eqb x m ≡ b → IsOther x m y (cond b y x)
    by_test true is = inl (eqb-true x m is, refl)
    by_test false is = inr (λ e. false≢true (sym is ∙ eq-eqb x m e), refl)

into_less : (f : ℕ → ℕ) (n m : ℕ) → Into f (suc n) (suc m) → OneToOne f (suc n) → Into (other f m n) n m
into_less f n m into one i below =
    elim (is_other (f i) m (f n)) [
      | inl e ↦ rw e.1 (elim (cases_order (f n) m) [
        | inl same ↦ absurd (omega (arith, one i n (omega arith) (omega arith) (e.0 ∙ sym same)))
        | inr apart ↦ elim apart [ inl less ↦ less | inr more ↦ absurd (omega (arith, into n (omega arith))) ]
      ])
      | inr e ↦ rw e.1 (elim (cases_order (f i) m) [
        | inl same ↦ absurd (e.0 same)
        | inr apart ↦ elim apart [ inl less ↦ less | inr more ↦ absurd (omega (arith, into i (omega arith))) ]
      ])
    ]

one_less : (f : ℕ → ℕ) (n m : ℕ) → OneToOne f (suc n) → OneToOne (other f m n) n
one_less f n m one i j p q same =
    elim (is_other (f i) m (f n)) [
      | inl a ↦ elim (is_other (f j) m (f n)) [
        | inl b ↦ one i j (omega arith) (omega arith) (a.0 ∙ sym b.0)
        | inr b ↦ absurd (omega (arith, one n j (omega arith) (omega arith) (sym a.1 ∙ same ∙ b.1)))
      ]
      | inr a ↦ elim (is_other (f j) m (f n)) [
        | inl b ↦ absurd (omega (arith, one i n (omega arith) (omega arith) (sym a.1 ∙ same ∙ b.1)))
        | inr b ↦ one i j (omega arith) (omega arith) (sym a.1 ∙ same ∙ b.1)
      ]
    ]

fits_into : (n m : ℕ) (f : ℕ → ℕ) → Into f n m → OneToOne f n → n ≤ m
fits_into zero m f into one = omega arith
fits_into (suc n) zero f into one = absurd (omega (arith, into n (omega arith)))
fits_into (suc n) (suc m) f into one = omega (arith, fits_into n m (other f m n) (into_less f n m into one) (one_less f n m one))

module _ (triggers : List (Option ℕ)) where
  -- Steps one after another.
  after_steps : (a b c : ℕ) → after triggers (a + b) c ≡ option_and_then (after triggers b) (after triggers a c)
  after_steps a zero c = rw add-zero (whole (after triggers a c))
    where
      add-zero : a + 0 ≡ a
      add-zero = omega arith

      whole : (o : Option ℕ) → o ≡ option_and_then (λ d. Some d) o
      whole None = refl
      whole (Some d) = refl
  after_steps a (suc b) c =
      let n : a + suc b ≡ suc (a + b) = omega arith in
      rw (n, after_steps a b c) (both (after triggers a c))
    where
      both : (o : Option ℕ) → option_and_then (trigger_in triggers) (option_and_then (after triggers b) o) ≡ option_and_then (after triggers (suc b)) o
      both None = refl
      both (Some d) = refl

  pub after_first : (n c : ℕ) → after triggers (suc n) c ≡ option_and_then (after triggers n) (trigger_in triggers c)
  after_first n c =
      let e : suc n ≡ 1 + n = omega arith in
      ap (λ (k : ℕ). after triggers k c) e ∙ after_steps 1 n c

  -- Where a step leads on, it leads from a component.
  within : (c d : ℕ) → trigger_in triggers c ≡ Some d → c < length triggers
  within c d h = by_entry (slice_get triggers c) refl h
    where
      by_entry : (o : Option (Option ℕ)) → slice_get triggers c ≡ o → option_and_then (λ (t : Option ℕ). t) o ≡ Some d → c < length triggers
      by_entry None is e = absurd (none-some d e)
      by_entry (Some t) is e = slice_get_within triggers c t is

  -- Each step of a way that leads somewhere.
  reached : (a b c d : ℕ) → after triggers (a + b) c ≡ Some d → after triggers a c ≡ Some (unwrap_or (after triggers a c) 0)
  reached a b c d h = some_is (after triggers a c) (sym (after_steps a b c) ∙ h)
    where
      some_is : (o : Option ℕ) → option_and_then (after triggers b) o ≡ Some d → o ≡ Some (unwrap_or o 0)
      some_is None e = absurd (none-some d e)
      some_is (Some x) e = refl

  -- The component that is met after so many steps.
  abbrev at_step : ℕ → ℕ → ℕ
  at_step c i = unwrap_or (after triggers i c) 0

  met_within : (c i n d : ℕ) → i < n → after triggers n c ≡ Some d → at_step c i < length triggers
  met_within c i n d less h =
      let e : i + suc (n - suc i) ≡ n = omega arith in
      let here = reached i (suc (n - suc i)) c d (rw e h) in
      let on : after triggers (suc i) c ≡ Some (unwrap_or (after triggers (suc i) c) 0) =
      (let k : suc i + (n - suc i) ≡ n = omega arith in reached (suc i) (n - suc i) c d (rw k h)) in
      within (at_step c i) (at_step c (suc i)) (sym (ap (option_and_then (trigger_in triggers)) here) ∙ on)

  -- Two steps at one component would come back sooner.
  sooner : (c i j n : ℕ) → i < j → j < suc n → after triggers (suc n) c ≡ Some c → at_step c i ≡ at_step c j → after triggers (i + (suc n - j)) c ≡ Some c
  sooner c i j n less below h same =
      let e : i + (suc n - i) ≡ suc n = omega arith in
      let f : j + (suc n - j) ≡ suc n = omega arith in
      let at_i = reached i (suc n - i) c c (rw e h) in
      let at_j = reached j (suc n - j) c c (rw f h) in
      after_steps i (suc n - j) c ∙ ap (option_and_then (after triggers (suc n - j))) (at_i ∙ ap (λ (x : ℕ). Some x) same ∙ sym at_j)
      ∙ sym (after_steps j (suc n - j) c) ∙ rw f h

  never : (c : ℕ) → ((k : ℕ) → k < length triggers → after triggers (suc k) c ≡ Some c → ⊥) → (n k : ℕ) → k < n → after triggers (suc k) c ≡ Some c → ⊥
  never c few zero k below h = absurd (omega arith)
  never c few (suc n) k below h =
      let least = never c few n in
      let into : Into (at_step c) (suc k) (length triggers) = λ i p. met_within c i (suc k) c p h in
      let apart = λ (i j : ℕ) (p : i < j) (q : j < suc k) (same : at_step c i ≡ at_step c j).
      (let e : suc (i + (k - j)) ≡ i + (suc k - j) = omega arith in least (i + (k - j)) (omega arith) (ap (λ (m : ℕ). after triggers m c) e ∙ sooner c i j k p q h same)) in
      let one : OneToOne (at_step c) (suc k) = λ i j p q same.
      elim (cases_order i j) [
        | inl e ↦ e
        | inr unlike ↦ elim unlike [ inl less ↦ absurd (apart i j less q same) | inr more ↦ absurd (apart j i more p (sym same)) ]
      ] in
      few k (omega (arith, fits_into (suc k) (length triggers) (at_step c) into one)) h

  -- Where no cycle is refused, following triggers never comes back.
  not_back : (c : ℕ) → way_back triggers c ≡ None → (k : ℕ) → k < length triggers → after triggers (suc k) c ≡ Some c → ⊥
  unfolding way_back
  not_back c none k below h =
      let given = none_given (back_at triggers c) k (length triggers) below none in
      let back : is_at (after triggers (suc k) c) c ≡ true = ap (λ (o : Option ℕ). is_at o c) h ∙ eq-eqb c c refl in
      none-some k (sym given ∙ ap (λ (b : Bool). if b then Some k else None) back)

  no_way : (c : ℕ) → cycle_refusal triggers ≡ None → c < length triggers → way_back triggers c ≡ None
  unfolding cycle_refusal
  no_way c none below = unmapped (way_back triggers c) (none_given (cycle_at triggers) c (length triggers) below none)
    where
      unmapped : (o : Option ℕ) → option_map (λ n. TriggerCycle (met triggers c (suc n))) o ≡ None → o ≡ None
      unmapped None e = refl
      unmapped (Some n) e = absurd (none-some _ (sym e))

  pub no_cycle : cycle_refusal triggers ≡ None → (n c : ℕ) → after triggers (suc n) c ≡ Some c → ⊥
  no_cycle none n c h =
      let below = within c (at_step c 1) (reached 1 n c c (let e : 1 + n ≡ suc n = omega arith in rw e h)) in
      never c (not_back c (no_way c none below)) (suc n) n (omega arith) h
