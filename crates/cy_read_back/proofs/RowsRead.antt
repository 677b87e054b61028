-- What is written of a message of numbers is read of it, whatever its rows are.
use Rattle.std.proofs.Common.{◌≡◌, ℕ, ◌+◌, ◌^◌, List, [], ◌∷◌, length, refl, ap, ◌∙◌, arith, mod-eq_of_lt, Bool, true, false, nat_lt, nat_le, None, Ok}
use Rattle.std.specs.Prelude.{◌&&◌, ◌==◌, not, IsTrue, if◌then◌else◌}
use Rattle.std.proofs.lemmas.Bool.{and_parts, ltb-true, leb-true}
use Rattle.cy_wire.specs.Wire.{field_u64}
use Rattle.cy_wire.specs.Field.{WireField, Varint, with_field, fields_of}
use Rattle.cy_wire.specs.Laws.{IsFieldNumber}
use Rattle.cy_wire.specs.Message.{number_in, last_number, u64_of}
use Rattle.cy_wire.proofs.FieldsBack.{fields_of-number}
use Rattle.cy_wire.proofs.Taken.{fields_of-end}
use Rattle.cy_section.specs.declared.types.Header.{Header}
use Rattle.cy_section.specs.declared.types.ChunkHeader.{ChunkHeader}
use Rattle.cy_section.specs.declared.types.ChunkHeaderCache.{ChunkHeaderCache}
use Rattle.cy_section.specs.declared.types.ChunkBodyCache.{ChunkBodyCache}
use Rattle.cy_section.specs.Rows.{Row, Fit, numbered, numbers_body}
use Rattle.cy_section.specs.Rows.{header_rows, header_from, chunk_header_rows, chunk_header_from, chunk_header_cache_rows, chunk_header_cache_from, chunk_body_cache_rows, chunk_body_cache_from}
use Rattle.cy_section.specs.Section.{header_body, chunk_header_body, chunk_header_cache_body, chunk_body_cache_body}
use Rattle.cy_section.specs.Reading.{made_of, numbers_in, header_at, chunk_header_at, chunk_header_cache_at, chunk_body_cache_at}
use Rattle.cy_read_back.specs.Sections.{HeaderFits, ChunkHeaderFits, ChunkHeaderCacheFits, ChunkBodyCacheFits}

-- rows of low field numbers, and of kinds that have 64 bits at most
abbrev are_rows : List Row → Bool
are_rows [] = true
are_rows (row ∷ rows) = nat_lt 0 row.number && nat_lt row.number 200 && nat_le row.bound (2 ^ 64) && are_rows rows

-- the fields that are read where they are written
abbrev fields_at : ℕ → List Row → List WireField
fields_at at [] = []
fields_at at (row ∷ rows) = record { number = row.number; at = at; value = Varint row.value } ∷ fields_at (at + length (field_u64 row.number row.value)) rows

fields_read : (at : ℕ) (rows : List Row) → IsTrue (are_rows rows) → Fit rows → fields_of at (numbers_body (numbered rows)) ≡ record { fields = fields_at at rows; fault = None }
fields_read at [] are fit = fields_of-end at [] refl
fields_read at (row ∷ rows) are fit =
    let all = and_parts (nat_lt 0 row.number && nat_lt row.number 200 && nat_le row.bound (2 ^ 64)) (are_rows rows) are in
    let both = and_parts (nat_lt 0 row.number && nat_lt row.number 200) (nat_le row.bound (2 ^ 64)) all.0 in
    let number = and_parts (nat_lt 0 row.number) (nat_lt row.number 200) both.0 in
    let low = ltb-true 0 row.number number.0 in
    let high = ltb-true row.number 200 number.1 in
    let most = leb-true row.bound (2 ^ 64) both.1 in
    let below = fit.0 in
    let is : IsFieldNumber row.number = record { low = omega arith; high = omega arith } in
    fields_of-number at row.number row.value (numbers_body (numbered rows)) is (omega arith)
    ∙ ap (with_field (record { number = row.number; at = at; value = Varint row.value })) (fields_read (at + length (field_u64 row.number row.value)) rows all.1 fit.1)

-- so a message is read that is made of its own numbers
spelled_is_read : {X : Type 0} (made : (ℕ → ℕ) → X) (at : ℕ) (rows : List Row) (x : X) → IsTrue (are_rows rows) → Fit rows → made (λ number. u64_of number (fields_at at rows)) ≡ x
    → made_of (numbers_in made) (fields_of at (numbers_body (numbered rows))) ≡ Ok x
spelled_is_read made at rows x are fit again = ap (made_of (numbers_in made)) (fields_read at rows are fit) ∙ ap Ok again

truth_again : (b : Bool) → not ((if b then 1 else 0) == 0) ≡ b
truth_again true = refl
truth_again false = refl

pub header_at-body : (at : ℕ) (h : Header) → HeaderFits h → header_at at (header_body h) ≡ Ok h
unfolding header_at header_body header_rows last_number number_in
header_at-body at h fits =
    spelled_is_read header_from at (header_rows h) h refl fits (rw (mod-eq_of_lt fits.0, mod-eq_of_lt fits.1.0, mod-eq_of_lt fits.1.1.0, truth_again h.is_complete) refl)

pub chunk_header_at-body : (at : ℕ) (c : ChunkHeader) → ChunkHeaderFits c → chunk_header_at at (chunk_header_body c) ≡ Ok c
unfolding chunk_header_at chunk_header_body chunk_header_rows last_number number_in
chunk_header_at-body at c fits = spelled_is_read chunk_header_from at (chunk_header_rows c) c refl fits refl

pub chunk_header_cache_at-body : (at : ℕ) (c : ChunkHeaderCache) → ChunkHeaderCacheFits c
    → chunk_header_cache_at (record { start = at; bytes = chunk_header_cache_body c }) ≡ Ok c
unfolding chunk_header_cache_at chunk_header_cache_body chunk_header_cache_rows last_number number_in
chunk_header_cache_at-body at c fits = spelled_is_read chunk_header_cache_from at (chunk_header_cache_rows c) c refl fits refl

pub chunk_body_cache_at-body : (at : ℕ) (c : ChunkBodyCache) → ChunkBodyCacheFits c → chunk_body_cache_at (record { start = at; bytes = chunk_body_cache_body c }) ≡ Ok c
unfolding chunk_body_cache_at chunk_body_cache_body chunk_body_cache_rows last_number number_in
chunk_body_cache_at-body at c fits = spelled_is_read chunk_body_cache_from at (chunk_body_cache_rows c) c refl fits refl
