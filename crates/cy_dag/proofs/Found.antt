-- What is found first.
use Rattle.std.proofs.Common.{ℕ, zero, suc, ◌≡◌, ◌<◌, Option, Some, None, option_map, refl, inl, inr, arith}
use Rattle.std.proofs.lemmas.Bool.{cases_lt}
use Rattle.std.proofs.lemmas.Option.{same_Some, none-some}
use Rattle.std.specs.Option.{option_or}
use Rattle.cy_dag.specs.DagFile.{first_found}

-- The least number that gives something decides.
pub found_at : {A : Type 0} (given : ℕ → Option A) (i n : ℕ) (x : A) → i < n → first_found given i ≡ None → given i ≡ Some x → first_found given n ≡ Some x
found_at given i zero x below none is = absurd (omega arith)
found_at given i (suc n) x below none is =
    elim (cases_lt i n) [
      | inl earlier ↦ rw (found_at given i n x earlier none is) refl
      | inr later ↦ let here : n ≡ i = omega arith in rw (here, none, is) refl
    ]

-- Where neither of two is there, and where nothing is found.
pub or_none : {A : Type 0} (a b : Option A) → option_or a b ≡ None → (a ≡ None) × (b ≡ None)
or_none None b h = (refl, h)
or_none (Some x) b h = absurd (cc)

pub none_given : {A : Type 0} (given : ℕ → Option A) (i n : ℕ) → i < n → first_found given n ≡ None → given i ≡ None
none_given given i zero below none = absurd (omega arith)
none_given given i (suc n) below none =
    let both = or_none (first_found given n) (given n) none in
    elim (cases_lt i n) [
      | inl earlier ↦ none_given given i n earlier both.0
      | inr later ↦ let here : i ≡ n = omega arith in rw here both.1
    ]

-- What a value that is made of something is made of.
pub mapped_some : {A B : Type 0} (f : A → B) (o : Option A) (b : B) → option_map f o ≡ Some b → (a : A) × (o ≡ Some a) × (f a ≡ b)
mapped_some f None b h = absurd (none-some b h)
mapped_some f (Some a) b h = (a, refl, same_Some (f a) b h)
