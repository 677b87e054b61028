-- The last number of each field, when one more field is read.
use Rattle.std.proofs.Common.{zero, suc, replicate, ◌≤◌, ◌≡◌, ◌<◌, ℕ, ◌++◌, List, [], ◌∷◌, length, refl, ap, ◌∙◌, arith, get_or, set, get_or-set_same, Option, Some, None, ◌≢◌, inl, inr}
use Rattle.std.specs.Prelude.{unwrap_or}
use Rattle.std.specs.Option.{option_or}
use Rattle.std.proofs.lemmas.Grind.{common_steps}
use Rattle.std.proofs.lemmas.Bool.{cases_eq}
use Rattle.cy_wire.specs.Field.{WireField}
use Rattle.cy_wire.specs.Message.{u64_of, number_in, last_number}
use Rattle.cy_wire.proofs.Lasts.{last_number-more}

pub u64_of-more : (n : ℕ) (fields : List WireField) (field : WireField) → u64_of n (fields ++ field ∷ []) ≡ unwrap_or (number_in n field) (u64_of n fields)
u64_of-more n fields field = ap (λ (o : Option ℕ). unwrap_or o 0) (last_number-more n fields field) ∙ either (number_in n field) (last_number n fields)
  where
    either : (o p : Option ℕ) → unwrap_or (option_or o p) 0 ≡ unwrap_or o (unwrap_or p 0)
    either None p = refl
    either (Some x) p = refl

-- a field says nothing of another number
pub number_in-other : (n : ℕ) (field : WireField) → n ≢ field.number → number_in n field ≡ None
unfolding number_in
number_in-other n field ne = grind (arith, common_steps)

-- and one that holds no number says nothing of any
pub number_in-nothing : (n : ℕ) (field : WireField) → number_in field.number field ≡ None → number_in n field ≡ None
number_in-nothing n field e = elim (cases_eq n field.number) [
  | inl same ↦ rw same e
  | inr other ↦ number_in-other n field other
]

-- the place of a number has it, and no other place changes
pub kept : (numbers : List ℕ) (field : WireField) (value : ℕ) → number_in field.number field ≡ Some value → field.number < length numbers
    → (k : ℕ) → get_or (set numbers field.number value) k 0 ≡ unwrap_or (number_in k field) (get_or numbers k 0)
kept numbers field value e few k = elim (cases_eq k field.number) [
  | inl same ↦
      let there : get_or (set numbers field.number value) field.number 0 ≡ value = get_or-set_same numbers field.number value 0 few in
      rw (same, e) there
  | inr other ↦
      let away : k ≢ field.number = other in
      rw (number_in-other k field other) (grind (arith, common_steps))
]

pub not_kept : (numbers : List ℕ) (field : WireField) → length numbers ≤ field.number
    → (k : ℕ) → k < length numbers → get_or numbers k 0 ≡ unwrap_or (number_in k field) (get_or numbers k 0)
not_kept numbers field many k few =
    let away : k ≢ field.number = omega arith in
    rw (number_in-other k field away) refl

pub no_number : (numbers : List ℕ) (field : WireField) → number_in field.number field ≡ None
    → (k : ℕ) → get_or numbers k 0 ≡ unwrap_or (number_in k field) (get_or numbers k 0)
no_number numbers field e k = rw (number_in-nothing k field e) refl

-- where no number was kept
pub get_or-zeros : (n k : ℕ) → let zero_is : ℕ = 0 in get_or (replicate n zero_is) k zero_is ≡ zero_is
get_or-zeros zero k = refl
get_or-zeros (suc n) zero = refl
get_or-zeros (suc n) (suc k) = get_or-zeros n k
