-- The last number and the last bytes of fields, when one more is read.
use Rattle.std.proofs.Common.{◌≡◌, ℕ, List, [], ◌∷◌, ◌++◌, refl, ap, sym, ◌∙◌, Option, Some, None, Ok, Err, append_assoc, append-nil, length, ◌<◌, arith}
use Rattle.std.specs.List.{filter_map, last_or}
use Rattle.std.specs.Option.{option_or}
use Rattle.std.proofs.lemmas.List.Elements.{filter_map-append}
use Rattle.cy_wire.specs.declared.error.WireError.{WireError}
use Rattle.cy_wire.specs.Field.{WireField, Fields, no_fields, faulty, with_field, unless_fault}
use Rattle.cy_wire.specs.Message.{number_in, span_in, last_number, last_span}

-- one more item is the last
last_or-append : {A : Type 0} (o : Option A) (xs : List A) (x : A) → last_or o (xs ++ x ∷ []) ≡ Some x
last_or-append o [] x = refl
last_or-append o (y ∷ xs) x = last_or-append (Some y) xs x

last-filter_map : {A B : Type 0} (h : A → Option B) (xs : List A) (x : A) (o : Option B) → h x ≡ o
    → last_or None (filter_map h (xs ++ x ∷ [])) ≡ option_or o (last_or None (filter_map h xs))
last-filter_map h xs x None e = rw (filter_map-append, e, append-nil) refl
last-filter_map h xs x (Some y) e = rw (filter_map-append, e) (last_or-append None (filter_map h xs) y)

pub last_number-more : (n : ℕ) (fields : List WireField) (field : WireField) → last_number n (fields ++ field ∷ []) ≡ option_or (number_in n field) (last_number n fields)
unfolding last_number
last_number-more n fields field = last-filter_map (number_in n) fields field (number_in n field) refl

pub last_span-more : (n : ℕ) (fields : List WireField) (field : WireField) → last_span n (fields ++ field ∷ []) ≡ option_or (span_in n field) (last_span n fields)
unfolding last_span
last_span-more n fields field = last-filter_map (span_in n) fields field (span_in n field) refl

-- the fields so far and those that are left are all
pub record AreLeft (front : List WireField) (left all : Fields) : Type 0 where
  pub fields : front ++ left.fields ≡ all.fields
  pub fault : left.fault ≡ all.fault

pub none_before : (all : Fields) → AreLeft [] all all
none_before all = record { fields = refl; fault = refl }

pub one_more : (front : List WireField) (left next all : Fields) (field : WireField) → AreLeft front left all → left ≡ with_field field next → AreLeft (front ++ field ∷ []) next all
one_more front left next all field so_far e = record {
  fields = append_assoc front (field ∷ []) next.fields ∙ ap (λ (l : Fields). front ++ l.fields) (sym e) ∙ so_far.fields;
  fault = ap (λ (l : Fields). l.fault) (sym e) ∙ so_far.fault;
}

-- all were read, and nothing is left
pub all_read : (front : List WireField) (left all : Fields) → AreLeft front left all → left ≡ no_fields → (all.fields ≡ front) × (all.fault ≡ None)
all_read front left all so_far e =
    (sym so_far.fields ∙ ap (λ (l : Fields). front ++ l.fields) e ∙ append-nil front, sym so_far.fault ∙ ap (λ (l : Fields). l.fault) e)

-- a fault ends them
pub fault_read : (front : List WireField) (left all : Fields) (fault : WireError) → AreLeft front left all → left ≡ faulty fault → all.fault ≡ Some fault
fault_read front left all fault so_far e = sym so_far.fault ∙ ap (λ (l : Fields). l.fault) e

-- a function that reads fields, and where it ends
pub read_all : {A : Type 0} (made : List WireField → A) (front : List WireField) (left all : Fields) → AreLeft front left all → left ≡ no_fields
    → unless_fault all.fault (made all.fields) ≡ Ok (made front)
read_all made front left all so_far e =
    let ends = all_read front left all so_far e in
    rw (ends.0, ends.1) refl

pub read_fault : {A : Type 0} (made : A) (front : List WireField) (left all : Fields) (fault : WireError) → AreLeft front left all → left ≡ faulty fault
    → unless_fault all.fault made ≡ Err fault
read_fault made front left all fault so_far e = rw (fault_read front left all fault so_far e) refl

-- a field fewer is left
pub fewer : (left next : Fields) (field : WireField) → left ≡ with_field field next → length next.fields < length left.fields
fewer left next field e = omega (arith, ap (λ (l : Fields). length l.fields) e)
