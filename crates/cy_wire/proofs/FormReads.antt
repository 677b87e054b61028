-- What the grammar says of bytes is read of them.
use Rattle.std.proofs.Common.{◌≡◌, ℕ, zero, suc, ◌+◌, ◌*◌, ◌-◌, ◌/◌, ◌%◌, ◌^◌, ◌<◌, ◌≤◌, ◌⊎◌, inl, inr, List, [], ◌∷◌, ◌++◌, length, refl, ap, sym, ◌∙◌, arith, one-add, length-append, append_assoc, Ok, Err, Bool, true, false, nat_lt, ◌==◌, ◌||◌, if◌then◌else◌}
use Rattle.std.proofs.Math.Seq.{drop-append_seam, take-append_seam}
use Rattle.std.proofs.lemmas.Bool.{le-ltb, lt-ltb}
use Rattle.std.proofs.lemmas.List.{take-append-le}
use Rattle.byteorder.specs.Endian.{little_number}
use Rattle.byteorder.specs.Numbers.{little_from-take}
use Rattle.cy_wire.specs.declared.error.WireError.{WireError}
use Rattle.cy_wire.specs.declared.error.WireError.TheVariants.{Cut, LongVarint, BadTag, Group}
use Rattle.cy_wire.specs.Varint.{varint_in, varint_at, above, low_64_bits}
use Rattle.cy_wire.specs.Field.{WireValue, Eight, Bytes, Four, WireField, Fields, with_field, wire_type, fixed_at, number_at, bytes_at, value_at, field_at, fields_of}
use Rattle.cy_wire.specs.Form.{IsBase128, last, more, IsVarint, IsValue, plain, eight, counted, four, IsField, tagged, AreHigh, IsNoVarint, cut, long, IsNoTag, large, unnumbered, untyped, IsNoValue, no_number, no_eight, no_length, no_bytes, no_four, IsNoField, no_varint, no_tag, group, no_value, IsFields, ended, field, broken}
use Rattle.cy_wire.proofs.Taken.{field_at-takes, fields_of-field, fields_of-fault, fields_of-end}
use Rattle.cy_wire.proofs.VarintSteps.{varint_in-low, varint_in-high, varint_in-nothing}

-- ---- varints

base_read : {bytes : List ℕ} {n : ℕ} → IsBase128 bytes n → (k at : ℕ) (rest : List ℕ) → length bytes ≤ k → varint_in k at (bytes ++ rest) ≡ Ok (n, length bytes)
base_read (last {byte = b} low) zero at rest h = absurd (omega arith)
base_read (last {byte = b} low) (suc k) at rest h = varint_in-low k at b rest low
base_read (more {byte = b} {number = n} {bytes = bytes} high is) zero at rest h = absurd (omega arith)
base_read (more {byte = b} {number = n} {bytes = bytes} high is) (suc k) at rest h =
    varint_in-high k at b (bytes ++ rest) high ∙ ap (above (b % 128) 128 1) (base_read is k at rest (omega arith)) ∙ ap (λ (m : ℕ). Ok (b % 128 + 128 * n, m)) (one-add (length bytes))

varint_read : {bytes : List ℕ} {n : ℕ} → IsVarint bytes n → (at : ℕ) (rest : List ℕ) → varint_at at (bytes ++ rest) ≡ Ok (n, length bytes)
unfolding varint_at
varint_read {bytes = bytes} v at rest = ap low_64_bits (base_read v.bits 10 at rest v.short) ∙ ap (λ (m : ℕ). Ok (m, length bytes)) (sym v.low)

cut_read : (k at : ℕ) (bytes : List ℕ) → AreHigh bytes → length bytes < k → varint_in k at bytes ≡ Err (Cut at)
cut_read zero at bytes all h = absurd (omega arith)
cut_read (suc k) at [] all h = varint_in-nothing k at [] refl
cut_read (suc k) at (b ∷ bytes) all h = varint_in-high k at b bytes all.0 ∙ ap (above (b % 128) 128 1) (cut_read k at bytes all.1 (omega arith))

none_left : (at : ℕ) (bytes : List ℕ) → varint_in zero at bytes ≡ Err (LongVarint at)
unfolding varint_in
none_left at bytes = refl

long_read : (k at : ℕ) (bytes rest : List ℕ) → AreHigh bytes → length bytes ≡ k → varint_in k at (bytes ++ rest) ≡ Err (LongVarint at)
long_read zero at [] rest all h = none_left at rest
long_read zero at (b ∷ bytes) rest all h = absurd (omega arith)
long_read (suc k) at [] rest all h = absurd (omega arith)
long_read (suc k) at (b ∷ bytes) rest all h = varint_in-high k at b (bytes ++ rest) all.0 ∙ ap (above (b % 128) 128 1) (long_read k at bytes rest all.1 (omega arith))

no_varint_read : (at : ℕ) {bytes : List ℕ} {fault : WireError} → IsNoVarint at bytes fault → varint_at at bytes ≡ Err fault
unfolding varint_at
no_varint_read at (cut {bytes = bytes} all short) = ap low_64_bits (cut_read 10 at bytes all short)
no_varint_read at (long bytes rest all ten) = ap low_64_bits (long_read 10 at bytes rest all ten)

-- ---- values

-- The types of values that are read.
pub data IsRead : ℕ → Type 0 where
  zeroth : IsRead 0
  first : IsRead 1
  second : IsRead 2
  fifth : IsRead 5

value_type : {at kind : ℕ} {bytes : List ℕ} {value : WireValue} → IsValue at kind bytes value → IsRead kind
value_type (plain v) = zeroth
value_type (eight e) = first
value_type (counted v) = second
value_type (four e) = fifth

no_value_type : {at kind : ℕ} {bytes : List ℕ} {fault : WireError} → IsNoValue at kind bytes fault → IsRead kind
no_value_type (no_number v) = zeroth
no_value_type (no_eight h) = first
no_value_type (no_length v) = second
no_value_type (no_bytes v bytes h) = second
no_value_type (no_four h) = fifth

-- A number of fixed size reads nothing behind its bytes.
pub front_number : (size : ℕ) (bytes rest : List ℕ) → size ≤ length bytes → little_number size (bytes ++ rest) ≡ little_number size bytes
front_number size bytes rest enough =
    sym (little_from-take 0 size size (bytes ++ rest) (omega arith)) ∙ ap (little_number size) (take-append-le size bytes rest enough) ∙ little_from-take 0 size size bytes (omega arith)

fixed_read : (size at : ℕ) (value : ℕ → WireValue) (bytes rest : List ℕ) → length bytes ≡ size → fixed_at size value at (bytes ++ rest) ≡ Ok (value (little_number size bytes), length bytes)
fixed_read size at value bytes rest e =
    let enough : nat_lt (length (bytes ++ rest)) size ≡ false = le-ltb _ _ (omega (arith, length-append bytes rest)) in
    rw (enough, front_number size bytes rest (omega arith), e) refl

counted_read : (at : ℕ) (size bytes rest : List ℕ) → IsVarint size (length bytes) → bytes_at at ((size ++ bytes) ++ rest) ≡ Ok (Bytes (at + length size) bytes, length (size ++ bytes))
unfolding bytes_at
counted_read at size bytes rest v =
    let enough : nat_lt (length (size ++ (bytes ++ rest)) - length size) (length bytes) ≡ false = le-ltb _ _ (omega (arith, length-append size (bytes ++ rest), length-append bytes rest)) in
    rw (append_assoc size bytes rest, varint_read v at (bytes ++ rest), enough, drop-append_seam size (bytes ++ rest), take-append_seam bytes rest, length-append size bytes) refl

value_read : (at : ℕ) {kind : ℕ} {bytes : List ℕ} {value : WireValue} → IsValue at kind bytes value → (rest : List ℕ) → value_at kind at (bytes ++ rest) ≡ Ok (value, length bytes)
unfolding value_at number_at
value_read at (plain {bytes = bytes} {value = n} v) rest = rw (varint_read v at rest) refl
value_read at (eight {bytes = bytes} e) rest = fixed_read 8 at Eight bytes rest e
value_read at (counted {size = size} {bytes = bytes} v) rest = counted_read at size bytes rest v
value_read at (four {bytes = bytes} e) rest = fixed_read 4 at Four bytes rest e

no_bytes_read : (at count : ℕ) (size bytes : List ℕ) → IsVarint size count → length bytes < count → bytes_at at (size ++ bytes) ≡ Err (Cut (at + length size))
unfolding bytes_at
no_bytes_read at count size bytes v short =
    let few : nat_lt (length (size ++ bytes) - length size) count ≡ true = lt-ltb _ _ (omega (arith, length-append size bytes)) in
    rw (varint_read v at bytes, few) refl

no_length_read : (at : ℕ) {bytes : List ℕ} {fault : WireError} → IsNoVarint at bytes fault → bytes_at at bytes ≡ Err fault
unfolding bytes_at
no_length_read at h = rw (no_varint_read at h) refl

no_value_read : (at : ℕ) {kind : ℕ} {bytes : List ℕ} {fault : WireError} → IsNoValue at kind bytes fault → value_at kind at bytes ≡ Err fault
unfolding value_at number_at
no_value_read at (no_number h) = rw (no_varint_read at h) refl
no_value_read at (no_eight {bytes = bytes} h) = rw (lt-ltb (length bytes) 8 h) refl
no_value_read at (no_length h) = no_length_read at h
no_value_read at (no_bytes {size = size} {count = count} v bytes h) = no_bytes_read at count size bytes v h
no_value_read at (no_four {bytes = bytes} h) = rw (lt-ltb (length bytes) 4 h) refl

-- ---- tags

tag_read : (at number kind : ℕ) → 8 * number + kind < 2 ^ 32 → 0 < number → kind ≤ 5
    → wire_type at (8 * number + kind) ≡ (if kind == 3 || kind == 4 then Err (Group at) else Ok kind)
tag_read at number kind fits some low =
    let short : nat_lt 4294967295 (8 * number + kind) ≡ false = le-ltb _ _ (omega arith) in
    let numbered : nat_lt (8 * number + kind) 8 ≡ false = le-ltb _ _ (omega arith) in
    let same : (8 * number + kind) % 8 ≡ kind = omega arith in
    let typed : nat_lt 5 kind ≡ false = le-ltb _ _ low in
    rw (short, numbered, same, typed) refl

type_read : (at number : ℕ) {kind : ℕ} → IsRead kind → 8 * number + kind < 2 ^ 32 → 0 < number → wire_type at (8 * number + kind) ≡ Ok kind
type_read at number zeroth fits some = tag_read at number 0 fits some (omega arith)
type_read at number first fits some = tag_read at number 1 fits some (omega arith)
type_read at number second fits some = tag_read at number 2 fits some (omega arith)
type_read at number fifth fits some = tag_read at number 5 fits some (omega arith)

group_read : (at number kind : ℕ) → (kind ≡ 3) ⊎ (kind ≡ 4) → 8 * number + kind < 2 ^ 32 → 0 < number → wire_type at (8 * number + kind) ≡ Err (Group at)
group_read at number kind (inl is) fits some = tag_read at number kind fits some (omega arith) ∙ rw is refl
group_read at number kind (inr is) fits some = tag_read at number kind fits some (omega arith) ∙ rw is refl

any_true : (x y : Bool) → (x || y || true) ≡ true
any_true true y = refl
any_true false true = refl
any_true false false = refl

pub no_tag_read : (at tag : ℕ) → IsNoTag tag → wire_type at tag ≡ Err (BadTag at)
no_tag_read at tag (large h) = rw (lt-ltb 4294967295 tag (omega arith)) refl
no_tag_read at tag (unnumbered h) = rw (le-ltb 4294967295 tag (omega arith), lt-ltb tag 8 (omega arith)) refl
no_tag_read at tag (untyped h) =
    ap (λ (t : Bool). if t then Err (BadTag at) else (if tag % 8 == 3 || tag % 8 == 4 then Err (Group at) else Ok (tag % 8)))
    (ap (λ (t : Bool). nat_lt 4294967295 tag || nat_lt tag 8 || t) (lt-ltb 5 (tag % 8) (omega arith)) ∙ any_true (nat_lt 4294967295 tag) (nat_lt tag 8))

-- ---- fields

field_read : (at : ℕ) {bytes : List ℕ} {f : WireField} → IsField at bytes f → (rest : List ℕ) → field_at at (bytes ++ rest) ≡ Ok (f, length bytes)
unfolding field_at
field_read at (tagged {tag = tag} {bytes = bytes} {number = number} {kind = kind} {value = value} t v) rest =
    let kind_is = type_read at number (value_type v) t.fits t.some in
    let low : kind < 8 = t.low in
    let same : (8 * number + kind) / 8 ≡ number = omega arith in
    rw (append_assoc tag bytes rest, varint_read t.spelled at (bytes ++ rest), kind_is, drop-append_seam tag (bytes ++ rest), value_read (at + length tag) v rest, same, length-append tag bytes) refl

no_field_read : (at : ℕ) {bytes : List ℕ} {fault : WireError} → IsNoField at bytes fault → field_at at bytes ≡ Err fault
unfolding field_at
no_field_read at (no_varint h) = rw (no_varint_read at h) refl
no_field_read at (no_tag {tag = tag} v h rest) = rw (varint_read v at rest, no_tag_read at tag h) refl
no_field_read at (group {number = number} {kind = kind} t h rest) = rw (varint_read t.spelled at rest, group_read at number kind h t.fits t.some) refl
no_field_read at (no_value {tag = tag} {bytes = bytes} {number = number} t h) =
    rw (varint_read t.spelled at bytes, type_read at number (no_value_type h) t.fits t.some, drop-append_seam tag bytes, no_value_read (at + length tag) h) refl

pub fields_read : {at : ℕ} {bytes : List ℕ} {all : Fields} → IsFields at bytes all → fields_of at bytes ≡ all
fields_read (ended {at = at}) = fields_of-end at [] refl
fields_read (field {at = at} {bytes = bytes} {rest = rest} {first = f} {others = others} is behind) =
    let one = field_read at is rest in
    let taken = field_at-takes at (bytes ++ rest) (f, length bytes) one in
    let least : 0 < length bytes = taken.some in
    fields_of-field at (bytes ++ rest) (f, length bytes) (omega (arith, length-append bytes rest)) one
    ∙ ap (λ (l : List ℕ). with_field f (fields_of (at + length bytes) l)) (drop-append_seam bytes rest) ∙ ap (with_field f) (fields_read behind)
fields_read (broken {at = at} {bytes = bytes} {fault = fault} some h) = fields_of-fault at bytes fault some (no_field_read at h)
