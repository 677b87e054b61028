-- How many bytes a varint, a value and a field take, and the fields behind one.
use Rattle.std.proofs.Common.{◌≡◌, ℕ, zero, suc, ◌+◌, ◌-◌, ◌%◌, ◌/◌, ◌<◌, ◌≤◌, List, [], ◌∷◌, length, take, drop, refl, ap, sym, ◌∙◌, arith, inl, inr, length-drop, Result, Ok, Err, Bool, true, false, if◌then◌else◌, nat_lt, ◌==◌, ltb-false}
use Rattle.std.proofs.lemmas.List.{take_all}
use Rattle.std.proofs.lemmas.Grind.{common_steps}
use Rattle.std.proofs.lemmas.Bool.{cases_lt}
use Rattle.byteorder.specs.Endian.{little_number}
use Rattle.cy_wire.specs.declared.error.WireError.{WireError}
use Rattle.cy_wire.specs.declared.error.WireError.TheVariants.{Cut}
use Rattle.cy_wire.specs.Varint.{varint_in, varint_at, above, low_64_bits}
use Rattle.cy_wire.specs.Field.{◌>>=◌, WireValue, Varint, Eight, Bytes, Four, WireField, Fields, no_fields, faulty, with_field, and_those_behind, wire_type, fixed_at, number_at, bytes_at, value_at, field_at, fields_in, fields_of}

-- a choice, by what follows in either case
by_test : (b : Bool) (one other : Result (WireValue × ℕ) WireError) (x : WireValue × ℕ) → (if b then one else other) ≡ Ok x
    → {P : Type 0} → (one ≡ Ok x → P) → (other ≡ Ok x → P) → P
by_test true one other x e f g = f e
by_test false one other x e f g = g e

behind_same : (r : Result (WireField × ℕ) WireError) (f g : ℕ → Fields) → ((x : WireField × ℕ) → r ≡ Ok x → f x.1 ≡ g x.1) → and_those_behind r f ≡ and_those_behind r g
behind_same (Ok x) f g same = ap (with_field x.0) (same x refl)
behind_same (Err fault) f g same = refl

-- some bytes are taken, and no more than there are
pub record Within (bytes : List ℕ) (taken : ℕ) : Type 0 where
  pub some : 0 < taken
  pub most : taken ≤ length bytes

pub bind_ok : {A B : Type 0} (r : Result A WireError) (f : A → Result B WireError) (y : B) → (r >>= f) ≡ Ok y → (x : A) × (r ≡ Ok x) × (f x ≡ Ok y)
bind_ok (Ok x) f y e = (x, refl, e)
bind_ok (Err d) f y e = cc

guard_ok : {A : Type 0} (b : Bool) (d : WireError) (y x : A) → (if b then Err d else Ok y) ≡ Ok x → (b ≡ false) × (y ≡ x)
guard_ok true d y x e = absurd cc
guard_ok false d y x e = (refl, cc)

made_is : {A : Type 0} (p q : A) → (let r : Result A WireError = Ok p in r ≡ Ok q) → p ≡ q
made_is p q e = cc

above_ok : (low scale n : ℕ) (r : Result (ℕ × ℕ) WireError) (x : ℕ × ℕ) → above low scale n r ≡ Ok x → (y : ℕ × ℕ) × (r ≡ Ok y) × (x.1 ≡ n + y.1)
above_ok low scale n (Ok y) x e = (y, refl, cc)
above_ok low scale n (Err d) x e = absurd cc

low_ok : (r : Result (ℕ × ℕ) WireError) (x : ℕ × ℕ) → low_64_bits r ≡ Ok x → (y : ℕ × ℕ) × (r ≡ Ok y) × (x.1 ≡ y.1)
low_ok (Ok y) x e = (y, refl, cc)
low_ok (Err d) x e = absurd cc

ok_is : {A : Type 0} (p q : A) (r : Result A WireError) → r ≡ Ok p → r ≡ Ok q → p ≡ q
ok_is p q r e f = cc

varint_in-takes : (k at : ℕ) (bytes : List ℕ) (x : ℕ × ℕ) → varint_in k at bytes ≡ Ok x → Within bytes x.1
unfolding varint_in
varint_in-takes zero at bytes x e = absurd cc
varint_in-takes (suc k) at [] x e = absurd cc
varint_in-takes (suc k) at (b ∷ bytes) x e = elim (cases_lt b 128) [
  | inl small ↦
      let one : varint_in (suc k) at (b ∷ bytes) ≡ Ok (b, 1) = grind (arith, common_steps) in
      let taken : 1 ≡ x.1 = ap (λ (p : ℕ × ℕ). p.1) (ok_is (b, 1) x (varint_in (suc k) at (b ∷ bytes)) one e) in
      record { some = omega arith; most = omega arith }
  | inr large ↦
      let more : varint_in (suc k) at (b ∷ bytes) ≡ above (b % 128) 128 1 (varint_in k at bytes) = grind (arith, common_steps) in
      let y = above_ok (b % 128) 128 1 (varint_in k at bytes) x (sym more ∙ e) in
      let rest = varint_in-takes k at bytes y.0 y.1 in
      let some = rest.some in
      let most = rest.most in
      record { some = omega (arith, y.2); most = omega (arith, y.2) }
]

pub varint_at-takes : (at : ℕ) (bytes : List ℕ) (x : ℕ × ℕ) → varint_at at bytes ≡ Ok x → Within bytes x.1
unfolding varint_at
varint_at-takes at bytes x e =
    let y = low_ok (varint_in 10 at bytes) x e in
    let taken = varint_in-takes 10 at bytes y.0 y.1 in
    record { some = omega (arith, y.2, taken.some); most = omega (arith, y.2, taken.most) }

bytes_at-takes : (at : ℕ) (bytes : List ℕ) (x : WireValue × ℕ) → bytes_at at bytes ≡ Ok x → x.1 ≤ length bytes
unfolding bytes_at
bytes_at-takes at bytes x e =
    let n = bind_ok (varint_at at bytes) (λ size. if nat_lt (length bytes - size.1) size.0 then Err (Cut (at + size.1)) else Ok (Bytes (at + size.1) (take size.0 (drop size.1 bytes)), size.1 + size.0)) x e in
    let taken = varint_at-takes at bytes n.0 n.1 in
    let made = guard_ok (nat_lt (length bytes - n.0.1) n.0.0) (Cut (at + n.0.1)) (Bytes (at + n.0.1) (take n.0.0 (drop n.0.1 bytes)), n.0.1 + n.0.0) x n.2 in
    let size : n.0.1 + n.0.0 ≡ x.1 = ap (λ (p : WireValue × ℕ). p.1) made.1 in
    let most = taken.most in
    let few : n.0.0 ≤ length bytes - n.0.1 = ltb-false _ _ made.0 in
    omega arith

number_at-takes : (at : ℕ) (bytes : List ℕ) (x : WireValue × ℕ) → number_at at bytes ≡ Ok x → x.1 ≤ length bytes
unfolding number_at
number_at-takes at bytes x e =
    let n = bind_ok (varint_at at bytes) (λ number. Ok (Varint number.0, number.1)) x e in
    let taken = varint_at-takes at bytes n.0 n.1 in
    let size : n.0.1 ≡ x.1 = ap (λ (p : WireValue × ℕ). p.1) (made_is (Varint n.0.0, n.0.1) x n.2) in
    let most = taken.most in
    omega arith

fixed_at-takes : (size at : ℕ) (value : ℕ → WireValue) (bytes : List ℕ) (x : WireValue × ℕ) → fixed_at size value at bytes ≡ Ok x → x.1 ≤ length bytes
fixed_at-takes size at value bytes x e =
    let made = guard_ok (nat_lt (length bytes) size) (Cut at) (value (little_number size bytes), size) x e in
    let same : size ≡ x.1 = ap (λ (p : WireValue × ℕ). p.1) made.1 in
    let few : size ≤ length bytes = ltb-false _ _ made.0 in
    omega arith

value_at-takes : (kind at : ℕ) (bytes : List ℕ) (x : WireValue × ℕ) → value_at kind at bytes ≡ Ok x → x.1 ≤ length bytes
unfolding value_at
value_at-takes kind at bytes x e =
    by_test (kind == 0) (number_at at bytes) _ x e (number_at-takes at bytes x) (λ e1.
    by_test (kind == 1) (fixed_at 8 Eight at bytes) _ x e1 (fixed_at-takes 8 at Eight bytes x) (λ e2.
    by_test (kind == 2) (bytes_at at bytes) _ x e2 (bytes_at-takes at bytes x) (fixed_at-takes 4 at Four bytes x)))

-- a field takes a byte at least, and no more than there are
pub field_at-takes : (at : ℕ) (bytes : List ℕ) (x : WireField × ℕ) → field_at at bytes ≡ Ok x → Within bytes x.1
unfolding field_at
field_at-takes at bytes x e =
    let t = bind_ok (varint_at at bytes) (λ tag. wire_type at tag.0 >>= λ kind. value_at kind (at + tag.1) (drop tag.1 bytes) >>= λ value. Ok (record { number = tag.0 / 8; at = at; value = value.0 }, tag.1 + value.1)) x e in
    let k = bind_ok (wire_type at t.0.0) (λ kind. value_at kind (at + t.0.1) (drop t.0.1 bytes) >>= λ value. Ok (record { number = t.0.0 / 8; at = at; value = value.0 }, t.0.1 + value.1)) x t.2 in
    let v = bind_ok (value_at k.0 (at + t.0.1) (drop t.0.1 bytes)) (λ value. Ok (record { number = t.0.0 / 8; at = at; value = value.0 }, t.0.1 + value.1)) x k.2 in
    let tag = varint_at-takes at bytes t.0 t.1 in
    let rest = value_at-takes k.0 (at + t.0.1) (drop t.0.1 bytes) v.0 v.1 in
    let field : WireField = record { number = t.0.0 / 8; at = at; value = v.0.0 } in
    let made = made_is (field, t.0.1 + v.0.1) x v.2 in
    let size : t.0.1 + v.0.1 ≡ x.1 = ap (λ (p : WireField × ℕ). p.1) made in
    let some = tag.some in
    let most = tag.most in
    let left = length-drop t.0.1 bytes in
    record { some = omega arith; most = omega arith }

-- how many steps are allowed changes nothing, where they are as many as bytes
fields_in-enough : (m n at : ℕ) (bytes : List ℕ) → length bytes ≤ m → length bytes ≤ n → fields_in m at bytes ≡ fields_in n at bytes
unfolding fields_in
fields_in-enough m n at [] f g = refl
fields_in-enough zero n at (b ∷ bytes) f g = absurd (omega arith)
fields_in-enough (suc m) zero at (b ∷ bytes) f g = absurd (omega arith)
fields_in-enough (suc m) (suc n) at (b ∷ bytes) f g =
    behind_same (field_at at (b ∷ bytes)) (λ taken. fields_in m (at + taken) (drop taken (b ∷ bytes))) (λ taken. fields_in n (at + taken) (drop taken (b ∷ bytes)))
    (λ x e.
    let taken = field_at-takes at (b ∷ bytes) x e in
    let some = taken.some in
    let left = length-drop x.1 (b ∷ bytes) in
    fields_in-enough m n (at + x.1) (drop x.1 (b ∷ bytes)) (omega arith) (omega arith))

-- a field, and the fields behind it
pub fields_of-field : (at : ℕ) (bytes : List ℕ) (x : WireField × ℕ) → 0 < length bytes → field_at at bytes ≡ Ok x
    → fields_of at bytes ≡ with_field x.0 (fields_of (at + x.1) (drop x.1 bytes))
unfolding fields_of fields_in
fields_of-field at [] x some e = absurd (omega arith)
fields_of-field at (b ∷ bytes) x some e =
    let taken = field_at-takes at (b ∷ bytes) x e in
    let least = taken.some in
    let left = length-drop x.1 (b ∷ bytes) in
    ap (λ (r : Result (WireField × ℕ) WireError). and_those_behind r (λ taken. fields_in (length bytes) (at + taken) (drop taken (b ∷ bytes)))) e
    ∙ ap (with_field x.0) (fields_in-enough (length bytes) (length (drop x.1 (b ∷ bytes))) (at + x.1) (drop x.1 (b ∷ bytes)) (omega arith) (omega arith))

-- a fault
pub fields_of-fault : (at : ℕ) (bytes : List ℕ) (fault : WireError) → 0 < length bytes → field_at at bytes ≡ Err fault → fields_of at bytes ≡ faulty fault
unfolding fields_of fields_in
fields_of-fault at [] fault some e = absurd (omega arith)
fields_of-fault at (b ∷ bytes) fault some e =
    ap (λ (r : Result (WireField × ℕ) WireError). and_those_behind r (λ taken. fields_in (length bytes) (at + taken) (drop taken (b ∷ bytes)))) e

-- the end
pub fields_of-end : (at : ℕ) (bytes : List ℕ) → length bytes ≡ 0 → fields_of at bytes ≡ no_fields
unfolding fields_of fields_in
fields_of-end at [] e = refl
fields_of-end at (b ∷ bytes) e = absurd (omega arith)

-- the bytes that a slice from a place on has
rest_is : (n : ℕ) (bytes : List ℕ) → take (length bytes - n) (drop n bytes) ≡ drop n bytes
rest_is n bytes = take_all (length bytes - n) (drop n bytes) (omega (arith, length-drop n bytes))

-- a field, and the slice behind it
pub fields_of-taken : (at : ℕ) (bytes : List ℕ) (x : WireField × ℕ) → 0 < length bytes → field_at at bytes ≡ Ok x
    → fields_of at bytes ≡ with_field x.0 (fields_of (at + x.1) (take (length bytes - x.1) (drop x.1 bytes)))
fields_of-taken at bytes x some e = rw (rest_is x.1 bytes) (fields_of-field at bytes x some e)
