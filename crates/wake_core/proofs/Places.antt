-- A function that was changed at one place.
use Rattle.std.proofs.Common.{ℕ, ◌≡◌, ◌≢◌, ◌⊎◌, cond, refl, sym, ◌∙◌, ap, inl, inr}
use Rattle.std.proofs.lemmas.Bool.Decides.{eqb_tells}
use mathlib.Core.Path.{fun_ext}
use Rattle.cy_msg.proofs.Lists.{place}
use Rattle.wake_core.specs.Run.{set_at}

pub set_at_same : {X : Type 0} (i : ℕ) (x : X) (f : ℕ → X) → set_at i x f i ≡ x
unfolding set_at
set_at_same i x f = elim (eqb_tells i i) [ inl h ↦ ap (λ b. cond b x (f i)) h.0 | inr h ↦ absurd (h.1 refl) ]

-- A second change at the same place replaces the first.
pub set_at_again : {X : Type 0} (i : ℕ) (x y : X) (f : ℕ → X) → set_at i y (set_at i x f) ≡ set_at i y f
unfolding set_at
set_at_again i x y f = fun_ext (λ k. elim (eqb_tells k i) [
  | inl h ↦ ap (λ b. cond b y (cond b x (f k))) h.0 ∙ sym (ap (λ b. cond b y (f k)) h.0)
  | inr h ↦ ap (λ b. cond b y (cond b x (f k))) h.0 ∙ sym (ap (λ b. cond b y (f k)) h.0)
])

-- A change to what was there changes nothing.
pub set_at_itself : {X : Type 0} (i : ℕ) (f : ℕ → X) → set_at i (f i) f ≡ f
unfolding set_at
set_at_itself i f = fun_ext (λ k. elim (eqb_tells k i) [
  | inl h ↦ ap (λ b. cond b (f i) (f k)) h.0 ∙ ap f (sym h.1)
  | inr h ↦ ap (λ b. cond b (f i) (f k)) h.0
])

pub set_at_there : {X : Type 0} (i : ℕ) (x : X) (f : ℕ → X) (k : ℕ) → k ≡ i → set_at i x f k ≡ x
unfolding set_at
set_at_there i x f k e = elim (eqb_tells k i) [ inl h ↦ ap (λ b. cond b x (f k)) h.0 | inr h ↦ absurd (h.1 e) ]

pub set_at_other : {X : Type 0} (i : ℕ) (x : X) (f : ℕ → X) (k : ℕ) → k ≢ i → set_at i x f k ≡ f k
unfolding set_at
set_at_other i x f k e = elim (eqb_tells k i) [ inl h ↦ absurd (e h.1) | inr h ↦ ap (λ b. cond b x (f k)) h.0 ]

-- What a value of a changed function says.
pub set_at_is : {X : Type 0} (i : ℕ) (x : X) (f : ℕ → X) (k : ℕ) (y : X) → set_at i x f k ≡ y
    → ((k ≡ i) × (x ≡ y)) ⊎ ((k ≢ i) × (f k ≡ y))
set_at_is i x f k y e = elim (place k i) [
  | inl h ↦ inl (h, sym (set_at_there i x f k h) ∙ e)
  | inr h ↦ inr (h, sym (set_at_other i x f k h) ∙ e)
]
