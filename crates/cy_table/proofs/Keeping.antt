-- What lies behind a word, after a step.
use Rattle.std.proofs.Common.{ℕ, ◌≡◌, ◌≢◌, sym, ◌∙◌, ap, inl, inr, ⊎_elim, Option, Some, None, arith}
use Rattle.std.proofs.lemmas.Option.{none-some}
use Rattle.cy_table.specs.Shown.{AtHome, OutWith, Kept}
use Rattle.cy_table.proofs.Places.{place}

module _ {X : Type 0} {home home' : Option X} {word word' : ℕ} {has has' : ℕ → Option X} {x : X} where
  -- Nothing of it changed.
  pub stays : home' ≡ home → word' ≡ word → ((j : ℕ) → has' j ≡ has j) → Kept home word has x → Kept home' word' has' x
  stays h w same k = ⊎_elim
      (λ (a : AtHome home word has x). inl record { free = w ∙ a.free; shown = h ∙ a.shown; nobody = λ j. same j ∙ a.nobody j })
      (λ (b : OutWith word has x). inr record { seat = b.seat; shut = w ∙ b.shut; mine = same b.seat ∙ b.mine; alone = λ j ne. same j ∙ b.alone j ne })
      k

module _ {X : Type 0} {home : Option X} {word : ℕ} {has : ℕ → Option X} {x : X} (k : Kept home word has x) where
  -- The word was found 0, or it was not.
  pub at_home : word ≡ 0 → AtHome home word has x
  at_home free = ⊎_elim (λ (a : AtHome home word has x). a) (λ (b : OutWith word has x). absurd (omega (arith, free, b.shut))) k

  pub is_shut : word ≢ 0 → word ≡ 1
  is_shut ne = ⊎_elim (λ (a : AtHome home word has x). absurd (ne a.free)) (λ (b : OutWith word has x). b.shut) k

  -- A seat has it: then it is out with this seat alone.
  pub has_it : (id : ℕ) (y : X) → has id ≡ Some y → (word ≡ 1) × (y ≡ x) × ((j : ℕ) → j ≢ id → has j ≡ None)
  has_it id y e = ⊎_elim
      (λ (a : AtHome home word has x). absurd (none-some y (sym (a.nobody id) ∙ e)))
      (λ (b : OutWith word has x).
      let same : id ≡ b.seat = ⊎_elim (λ (h : id ≡ b.seat). h) (λ (ne : id ≢ b.seat). absurd (none-some y (sym (b.alone id ne) ∙ e))) (place id b.seat) in
      (b.shut, ap (got y) (sym e ∙ ap has same ∙ b.mine), λ j ne. b.alone j (λ h. ne (h ∙ sym same))))
      k
    where
      got : X → Option X → X
      got d None = d
      got d (Some z) = z

module _ {X : Type 0} {home home' : Option X} {word word' : ℕ} {has has' : ℕ → Option X} {x : X} (k : Kept home word has x) (id : ℕ) (same : (j : ℕ) → j ≢ id → has' j ≡ has j) where
  -- A seat takes it.
  pub taken : word ≡ 0 → word' ≡ 1 → has' id ≡ Some x → Kept home' word' has' x
  taken free shut mine = inr record { seat = id; shut = shut; mine = mine; alone = λ j ne. same j ne ∙ (at_home k free).nobody j }

  -- The seat that has it gives something back for it, or makes something else of it.
  pub given : (y x' : X) → has id ≡ Some y → word' ≡ 0 → home' ≡ Some x' → has' id ≡ None → Kept home' word' has' x'
  given y x' mine free back none = let t = has_it k id y mine in inl record {
    free = free;
    shown = back;
    nobody = λ j. ⊎_elim (λ (h : j ≡ id). ap has' h ∙ none) (λ (ne : j ≢ id). same j ne ∙ t.2 j ne) (place j id);
  }

  pub turned : (y x' : X) → has id ≡ Some y → word' ≡ word → has' id ≡ Some x' → Kept home' word' has' x'
  turned y x' mine w now = let t = has_it k id y mine in inr record { seat = id; shut = w ∙ t.0; mine = now; alone = λ j ne. same j ne ∙ t.2 j ne }
