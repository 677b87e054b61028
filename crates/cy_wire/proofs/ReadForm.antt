-- What is read of bytes is what the grammar says of them.
use Rattle.std.proofs.Common.{◌≡◌, ℕ, zero, suc, ◌+◌, ◌*◌, ◌-◌, ◌/◌, ◌%◌, ◌^◌, ◌<◌, ◌≤◌, ◌⊎◌, inl, inr, List, [], ◌∷◌, ◌++◌, length, take, drop, refl, ap, sym, ◌∙◌, subst, arith, length-append, length-take, append_assoc, take-append-drop, Result, Ok, Err, nat_lt, ◌==◌, ◌||◌, if◌then◌else◌}
use Rattle.std.proofs.Math.Seq.{drop-append_seam}
use Rattle.std.proofs.lemmas.Bool.{cases_lt, le-ltb, lt-ltb}
use Rattle.byteorder.specs.Endian.{little_number}
use Rattle.byteorder.specs.Numbers.{little_from-take}
use Rattle.cy_wire.specs.declared.error.WireError.{WireError}
use Rattle.cy_wire.specs.declared.error.WireError.TheVariants.{Cut, LongVarint, BadTag, Group}
use Rattle.cy_wire.specs.Varint.{varint_in, varint_at, above, low_64_bits}
use Rattle.cy_wire.specs.Field.{◌>>=◌, WireValue, Varint, Eight, Bytes, Four, WireField, with_field, wire_type, fixed_at, number_at, bytes_at, value_at, field_at, fields_of}
use Rattle.cy_wire.specs.Form.{IsBase128, last, more, IsVarint, IsTag, IsValue, plain, eight, counted, four, IsField, tagged, AreHigh, IsNoVarint, cut, long, IsNoTag, large, unnumbered, untyped, IsNoValue, no_number, no_eight, no_length, no_bytes, no_four, IsNoField, no_varint, no_tag, group, no_value, IsFields, ended, field, broken}
use Rattle.cy_wire.proofs.FormReads.{IsRead, zeroth, first, second, fifth, no_tag_read}
use Rattle.cy_wire.proofs.Taken.{field_at-takes, fields_of-field, fields_of-fault, fields_of-end}
use Rattle.cy_wire.proofs.VarintSteps.{varint_in-low, varint_in-high}

-- What a reading of bytes answers: what stands in front of them, with its size, or the fault for which nothing does.
data Shows {A : Type 0} (Is : List ℕ → A → Type 0) (Lacks : List ℕ → WireError → Type 0) : List ℕ → Result (A × ℕ) WireError → Type 0 where
  there : (front rest : List ℕ) (x : A) (size : ℕ) → Is front x → length front ≡ size → Shows Is Lacks (front ++ rest) (Ok (x, size))
  lacking : (bytes : List ℕ) (fault : WireError) → Lacks bytes fault → Shows Is Lacks bytes (Err fault)

-- ---- varints

-- the same of a number of so many bytes at most, before its low bits are taken
data Counts (k at : ℕ) : List ℕ → Result (ℕ × ℕ) WireError → Type 0 where
  counts : (front rest : List ℕ) (n size : ℕ) → IsBase128 front n → length front ≡ size → size ≤ k → Counts k at (front ++ rest) (Ok (n, size))
  ends : (bytes : List ℕ) → AreHigh bytes → length bytes < k → Counts k at bytes (Err (Cut at))
  goes_on : (front rest : List ℕ) → AreHigh front → length front ≡ k → Counts k at (front ++ rest) (Err (LongVarint at))

one_more : (k at b : ℕ) → 128 ≤ b → {bytes : List ℕ} {r : Result (ℕ × ℕ) WireError} → Counts k at bytes r → Counts (suc k) at (b ∷ bytes) (above (b % 128) 128 1 r)
one_more k at b high (counts front rest n size is e few) = counts (b ∷ front) rest (b % 128 + 128 * n) (1 + size) (more high is) (omega (arith, e)) (omega (arith, few))
one_more k at b high (ends bytes all short) = ends (b ∷ bytes) (high, all) (omega (arith, short))
one_more k at b high (goes_on front rest all e) = goes_on (b ∷ front) rest (high, all) (omega (arith, e))

number_shown : (k at : ℕ) (bytes : List ℕ) → Counts k at bytes (varint_in k at bytes)
unfolding varint_in
number_shown zero at bytes = goes_on [] bytes tt refl
number_shown (suc k) at [] = ends [] tt (omega arith)
number_shown (suc k) at (b ∷ bytes) = elim (cases_lt b 128) [
  | inl low ↦ subst (Counts (suc k) at (b ∷ bytes)) (sym (varint_in-low k at b bytes low)) (counts (b ∷ []) bytes b 1 (last low) refl (omega arith))
  | inr high ↦ subst (Counts (suc k) at (b ∷ bytes)) (sym (varint_in-high k at b bytes high)) (one_more k at b high (number_shown k at bytes))
]

low_shown : (at : ℕ) {bytes : List ℕ} {r : Result (ℕ × ℕ) WireError} → Counts 10 at bytes r → Shows IsVarint (IsNoVarint at) bytes (low_64_bits r)
low_shown at (counts front rest n size is e few) = there front rest (n % 2 ^ 64) size (record { number = n; bits = is; short = omega (arith, e, few); low = refl }) e
low_shown at (ends bytes all short) = lacking bytes (Cut at) (cut all short)
low_shown at (goes_on front rest all e) = lacking (front ++ rest) (LongVarint at) (long front rest all e)

varint_shown : (at : ℕ) (bytes : List ℕ) → Shows IsVarint (IsNoVarint at) bytes (varint_at at bytes)
unfolding varint_at
varint_shown at bytes = low_shown at (number_shown 10 at bytes)

-- ---- values

abbrev ValueShown : (at kind : ℕ) → List ℕ → Result (WireValue × ℕ) WireError → Type 0
ValueShown at kind bytes r = Shows (IsValue at kind) (IsNoValue at kind) bytes r

plain_shown : (at : ℕ) {bytes : List ℕ} {r : Result (ℕ × ℕ) WireError} → Shows IsVarint (IsNoVarint at) bytes r → ValueShown at 0 bytes (r >>= λ number. Ok (Varint number.0, number.1))
plain_shown at (there front rest n size is e) = there front rest (Varint n) size (plain is) e
plain_shown at (lacking bytes fault h) = lacking bytes fault (no_number h)

module _ (kind size at : ℕ) (value : ℕ → WireValue) (is : (bytes : List ℕ) → length bytes ≡ size → IsValue at kind bytes (value (little_number size bytes)))
    (lacks : (bytes : List ℕ) → length bytes < size → IsNoValue at kind bytes (Cut at)) where
  enough_shown : (bytes : List ℕ) → size ≤ length bytes → ValueShown at kind bytes (Ok (value (little_number size bytes), size))
  enough_shown bytes enough =
      let long : length (take size bytes) ≡ size = omega (arith, length-take size bytes) in
      let number : little_number size (take size bytes) ≡ little_number size bytes = little_from-take 0 size size bytes (omega arith) in
      let shown : ValueShown at kind (take size bytes ++ drop size bytes) (Ok (value (little_number size (take size bytes)), size)) = there (take size bytes) (drop size bytes) (value (little_number size (take size bytes))) size (is (take size bytes) long) long in
      let same : ValueShown at kind (take size bytes ++ drop size bytes) (Ok (value (little_number size bytes), size)) = subst (λ (n : ℕ). ValueShown at kind (take size bytes ++ drop size bytes) (Ok (value n, size))) number shown in
      subst (λ (l : List ℕ). ValueShown at kind l (Ok (value (little_number size bytes), size))) (take-append-drop size bytes) same

  fixed_shown : (bytes : List ℕ) → ValueShown at kind bytes (fixed_at size value at bytes)
  fixed_shown bytes = elim (cases_lt (length bytes) size) [
    | inl short ↦ rw (lt-ltb (length bytes) size short) (lacking bytes (Cut at) (lacks bytes short))
    | inr enough ↦ rw (le-ltb (length bytes) size enough) (enough_shown bytes enough)
  ]

rest_shown : (at n : ℕ) (front rest : List ℕ) → IsVarint front n → ValueShown at 2 (front ++ rest) (if nat_lt (length rest) n then Err (Cut (at + length front)) else Ok (Bytes (at + length front) (take n rest), length front + n))
rest_shown at n front rest is = elim (cases_lt (length rest) n) [
  | inl short ↦ rw (lt-ltb (length rest) n short) (lacking (front ++ rest) (Cut (at + length front)) (no_bytes is rest short))
  | inr enough ↦
      let long : length (take n rest) ≡ n = omega (arith, length-take n rest) in
      let value : IsValue at 2 (front ++ take n rest) (Bytes (at + length front) (take n rest)) = counted (subst (IsVarint front) (sym long) is) in
      let whole : (front ++ take n rest) ++ drop n rest ≡ front ++ rest = append_assoc front (take n rest) (drop n rest) ∙ ap (λ (l : List ℕ). front ++ l) (take-append-drop n rest) in
      rw (le-ltb (length rest) n enough)
      (subst (λ (l : List ℕ). ValueShown at 2 l (Ok (Bytes (at + length front) (take n rest), length front + n))) whole
      (there (front ++ take n rest) (drop n rest) (Bytes (at + length front) (take n rest)) (length front + n) value (length-append front (take n rest) ∙ ap (λ (k : ℕ). length front + k) long)))
]

counted_shown : (at : ℕ) {bytes : List ℕ} {r : Result (ℕ × ℕ) WireError} → Shows IsVarint (IsNoVarint at) bytes r
    → ValueShown at 2 bytes (r >>= λ size. if nat_lt (length bytes - size.1) size.0 then Err (Cut (at + size.1)) else Ok (Bytes (at + size.1) (take size.0 (drop size.1 bytes)), size.1 + size.0))
counted_shown at (there front rest n size is e) =
    let left : length (front ++ rest) - length front ≡ length rest = omega (arith, length-append front rest) in
    rw (← e, left, drop-append_seam front rest) (rest_shown at n front rest is)
counted_shown at (lacking bytes fault h) = lacking bytes fault (no_length h)

bytes_shown : (at : ℕ) (bytes : List ℕ) → ValueShown at 2 bytes (bytes_at at bytes)
unfolding bytes_at
bytes_shown at bytes = counted_shown at (varint_shown at bytes)

value_shown : (at : ℕ) {kind : ℕ} → IsRead kind → (bytes : List ℕ) → ValueShown at kind bytes (value_at kind at bytes)
unfolding value_at number_at
value_shown at zeroth bytes = plain_shown at (varint_shown at bytes)
value_shown at first bytes = fixed_shown 1 8 at Eight (λ l h. eight h) (λ l h. no_eight h) bytes
value_shown at second bytes = bytes_shown at bytes
value_shown at fifth bytes = fixed_shown 5 4 at Four (λ l h. four h) (λ l h. no_four h) bytes

-- ---- tags

-- a tag's parts
record HasParts (tag kind : ℕ) : Type 0 where
  whole : tag ≡ 8 * (tag / 8) + kind
  fits : tag < 2 ^ 32
  some : 0 < tag / 8

data TypeShown (at tag : ℕ) : Result ℕ WireError → Type 0 where
  typed : (kind : ℕ) → IsRead kind → kind < 8 → HasParts tag kind → TypeShown at tag (Ok kind)
  wrong : IsNoTag tag → TypeShown at tag (Err (BadTag at))
  grouped : (kind : ℕ) → (kind ≡ 3) ⊎ (kind ≡ 4) → kind < 8 → HasParts tag kind → TypeShown at tag (Err (Group at))

by_kind : (at tag kind : ℕ) → kind ≤ 5 → HasParts tag kind → TypeShown at tag (if kind == 3 || kind == 4 then Err (Group at) else Ok kind)
by_kind at tag zero low p = typed 0 zeroth (omega arith) p
by_kind at tag (suc zero) low p = typed 1 first (omega arith) p
by_kind at tag (suc (suc zero)) low p = typed 2 second (omega arith) p
by_kind at tag (suc (suc (suc zero))) low p = grouped 3 (inl refl) (omega arith) p
by_kind at tag (suc (suc (suc (suc zero)))) low p = grouped 4 (inr refl) (omega arith) p
by_kind at tag (suc (suc (suc (suc (suc zero))))) low p = typed 5 fifth (omega arith) p
by_kind at tag (suc (suc (suc (suc (suc (suc kind)))))) low p = absurd (omega arith)

good_shown : (at tag : ℕ) → tag ≤ 4294967295 → 8 ≤ tag → tag % 8 ≤ 5 → TypeShown at tag (wire_type at tag)
good_shown at tag fits some low =
    rw (le-ltb 4294967295 tag fits, le-ltb tag 8 some, le-ltb 5 (tag % 8) low)
    (by_kind at tag (tag % 8) low (record { whole = omega arith; fits = omega arith; some = omega arith }))

type_shown : (at tag : ℕ) → TypeShown at tag (wire_type at tag)
type_shown at tag = elim (cases_lt 4294967295 tag) [
  | inl above ↦ wrong_shown (large (omega arith))
  | inr fits ↦ elim (cases_lt tag 8) [
    | inl below ↦ wrong_shown (unnumbered (omega arith))
    | inr some ↦ elim (cases_lt 5 (tag % 8)) [
      | inl above ↦ wrong_shown (untyped (omega arith))
      | inr low ↦ good_shown at tag fits some low
    ]
  ]
]
  where
    wrong_shown : IsNoTag tag → TypeShown at tag (wire_type at tag)
    wrong_shown h = subst (TypeShown at tag) (sym (no_tag_read at tag h)) (wrong h)

-- ---- fields

abbrev FieldShown : (at : ℕ) → List ℕ → Result (WireField × ℕ) WireError → Type 0
FieldShown at bytes r = Shows (IsField at) (IsNoField at) bytes r

tag_there : (tag kind : ℕ) (bytes : List ℕ) → IsVarint bytes tag → kind < 8 → HasParts tag kind → IsTag bytes (tag / 8) kind
tag_there tag kind bytes v low p =
    let whole = p.whole in
    let fits = p.fits in
    record { spelled = subst (IsVarint bytes) whole v; fits = omega arith; some = p.some; low = low }

behind_tag : (at number kind : ℕ) (tag : List ℕ) → IsTag tag number kind → {bytes : List ℕ} {r : Result (WireValue × ℕ) WireError} → ValueShown (at + length tag) kind bytes r
    → FieldShown at (tag ++ bytes) (r >>= λ value. Ok (record { number = number; at = at; value = value.0 }, length tag + value.1))
behind_tag at number kind tag is (there front rest value size v e) =
    let f : WireField = record { number = number; at = at; value = value } in
    subst (λ (l : List ℕ). FieldShown at l (Ok (f, length tag + size))) (append_assoc tag front rest)
    (there (tag ++ front) rest f (length tag + size) (tagged is v) (length-append tag front ∙ ap (λ (k : ℕ). length tag + k) e))
behind_tag at number kind tag is (lacking bytes fault h) = lacking (tag ++ bytes) fault (no_value is h)

by_type : (at tag : ℕ) (front rest : List ℕ) → IsVarint front tag → {r : Result ℕ WireError} → TypeShown at tag r
    → FieldShown at (front ++ rest) (r >>= λ kind. value_at kind (at + length front) rest >>= λ value. Ok (record { number = tag / 8; at = at; value = value.0 }, length front + value.1))
by_type at tag front rest v (typed kind is low p) = behind_tag at (tag / 8) kind front (tag_there tag kind front v low p) (value_shown (at + length front) is rest)
by_type at tag front rest v (wrong h) = lacking (front ++ rest) (BadTag at) (no_tag v h rest)
by_type at tag front rest v (grouped kind is low p) = lacking (front ++ rest) (Group at) (group (tag_there tag kind front v low p) is rest)

behind_number : (at : ℕ) {bytes : List ℕ} {r : Result (ℕ × ℕ) WireError} → Shows IsVarint (IsNoVarint at) bytes r
    → FieldShown at bytes (r >>= λ tag. wire_type at tag.0 >>= λ kind. value_at kind (at + tag.1) (drop tag.1 bytes) >>= λ value. Ok (record { number = tag.0 / 8; at = at; value = value.0 }, tag.1 + value.1))
behind_number at (there front rest tag size v e) = rw (← e, drop-append_seam front rest) (by_type at tag front rest v (type_shown at tag))
behind_number at (lacking bytes fault h) = lacking bytes fault (no_varint h)

field_shown : (at : ℕ) (bytes : List ℕ) → FieldShown at bytes (field_at at bytes)
unfolding field_at
field_shown at bytes = behind_number at (varint_shown at bytes)

-- ---- all of them

first_form : (n at : ℕ) → ((at : ℕ) (bytes : List ℕ) → length bytes ≤ n → IsFields at bytes (fields_of at bytes)) → {bytes : List ℕ} {r : Result (WireField × ℕ) WireError} → FieldShown at bytes r
    → field_at at bytes ≡ r → 0 < length bytes → length bytes ≤ suc n → IsFields at bytes (fields_of at bytes)
first_form n at form (there front rest f size is e) reads some few =
    let taken = field_at-takes at (front ++ rest) (f, size) reads in
    let least : 0 < size = taken.some in
    let short : length rest ≤ n = omega (arith, length-append front rest, e) in
    let front_read : field_at at (front ++ rest) ≡ Ok (f, length front) = reads ∙ ap (λ (k : ℕ). Ok (f, k)) (sym e) in
    let whole : fields_of at (front ++ rest) ≡ with_field f (fields_of (at + length front) rest) =
    fields_of-field at (front ++ rest) (f, length front) some front_read ∙ ap (λ (l : List ℕ). with_field f (fields_of (at + length front) l)) (drop-append_seam front rest) in
    subst (IsFields at (front ++ rest)) (sym whole) (field is (form (at + length front) rest short))
first_form n at form (lacking bytes fault h) reads some few = subst (IsFields at bytes) (sym (fields_of-fault at bytes fault some reads)) (broken some h)

fields_form : (n at : ℕ) (bytes : List ℕ) → length bytes ≤ n → IsFields at bytes (fields_of at bytes)
fields_form n at [] few = subst (IsFields at []) (sym (fields_of-end at [] refl)) ended
fields_form zero at (b ∷ bytes) few = absurd (omega arith)
fields_form (suc n) at (b ∷ bytes) few = first_form n at (λ place l short. fields_form n place l short) (field_shown at (b ∷ bytes)) refl (omega arith) few

pub read_form : (at : ℕ) (bytes : List ℕ) → IsFields at bytes (fields_of at bytes)
read_form at bytes = fields_form (length bytes) at bytes (omega arith)
