-- The entries of an index that was written are read.
use Rattle.std.proofs.Common.{◌≡◌, ℕ, ◌+◌, ◌-◌, ◌^◌, ◌<◌, ◌≤◌, List, [], ◌∷◌, ◌++◌, length, refl, ap, ◌∙◌, arith, append_assoc, append-nil, lit≤, le_trans, mod-eq_of_lt, Option, Some, None, Ok}
use Rattle.std.specs.Prelude.{IfSome}
use Rattle.std.specs.List.{AllByRecursion}
use Rattle.std.proofs.lemmas.List.Concat.{flat_map-cons}
use Rattle.cy_wire.specs.Wire.{field_u64, field_bytes}
use Rattle.cy_wire.specs.Field.{WireField, Fields, Varint, Bytes, with_field, no_fields, fields_of}
use Rattle.cy_wire.specs.Message.{WireSpan, number_in, span_in, last_number, last_span}
use Rattle.cy_section.specs.declared.types.ChannelCache.{ChannelCache}
use Rattle.cy_section.specs.declared.types.ChunkHeaderCache.{ChunkHeaderCache}
use Rattle.cy_section.specs.declared.types.ChunkBodyCache.{ChunkBodyCache}
use Rattle.cy_section.specs.declared.types.IndexEntry.{IndexEntry}
use Rattle.cy_section.specs.Rows.{numbered, chunk_header_cache_rows, chunk_body_cache_rows}
use Rattle.cy_section.specs.Section.{optional_field, channel_cache_body, chunk_header_cache_body, chunk_body_cache_body, entry_field, index_body}
use Rattle.cy_section.specs.Reading.{made_of, channel_in, channel_cache_at, entry_in, entry_at, entries_of, index_at}
use Rattle.cy_read_back.specs.Sections.{ChannelCacheFits, ChunkHeaderCacheFits, ChunkBodyCacheFits, EntryFits, entry_bytes}
use Rattle.cy_section.proofs.Lengths.{length-numbers_body}
use Rattle.cy_section.proofs.Texts.{text_of-text}
use Rattle.cy_section.proofs.Indexes.{entries_of-entry}
use Rattle.cy_read_back.proofs.WrittenRead.{number_then, bytes_then, nothing_then, span_is}
use Rattle.cy_read_back.proofs.RowsRead.{chunk_header_cache_at-body, chunk_body_cache_at-body}

-- what an entry keeps of a channel
channel_cache_at-body : (at : ℕ) (c : ChannelCache) → ChannelCacheFits c → channel_cache_at (record { start = at; bytes = channel_cache_body c }) ≡ Ok c
unfolding channel_cache_at channel_in channel_cache_body last_number number_in last_span span_in
channel_cache_at-body at c fits =
    let a = field_u64 1 c.message_number in
    let b = field_bytes 2 c.name in
    let d = field_bytes 3 c.message_type in
    let e = field_bytes 4 c.proto_desc in
    let at2 = at + length a in
    let at3 = at2 + length b in
    let at4 = at3 + length d in
    let name : WireSpan = record { start = at2 + (length b - length c.name); bytes = c.name } in
    let type : WireSpan = record { start = at3 + (length d - length c.message_type); bytes = c.message_type } in
    let grouped : ((a ++ b) ++ d) ++ e ≡ a ++ (b ++ (d ++ (e ++ []))) = simp (append_assoc, append-nil) in
    let read = number_then at 1 c.message_number (b ++ (d ++ (e ++ []))) _ (lit≤ tt) (lit≤ tt) fits.message_number
    (bytes_then at2 2 c.name (d ++ (e ++ [])) _ (lit≤ tt) (lit≤ tt) fits.name
    (bytes_then at3 3 c.message_type (e ++ []) _ (lit≤ tt) (lit≤ tt) fits.message_type
    (bytes_then at4 4 c.proto_desc [] _ (lit≤ tt) (lit≤ tt) fits.proto_desc (nothing_then (at4 + length e))))) in
    rw (grouped, read) (rw (text_of-text name fits.name_is_text, text_of-text type fits.type_is_text) refl)

-- the span of a part that is written as a field at a place, and that field, where there is the part
abbrev span_there : {X : Type 0} → ℕ → ℕ → (X → List ℕ) → X → WireSpan
span_there at n body x = record { start = at + (length (field_bytes n (body x)) - length (body x)); bytes = body x }

abbrev field_there : {X : Type 0} → ℕ → ℕ → (X → List ℕ) → Option X → Fields → Fields
field_there at n body None rest = rest
field_there at n body (Some x) rest = with_field (record { number = n; at = at; value = Bytes (span_there at n body x).start (body x) }) rest

part_then : {X : Type 0} (at n : ℕ) (body : X → List ℕ) (o : Option X) (rest : List ℕ) (fields : Fields) → 1 ≤ n → n ≤ 200 → IfSome o (λ x. length (body x) < 2 ^ 64)
    → fields_of (at + length (optional_field n body o)) rest ≡ fields → fields_of at (optional_field n body o ++ rest) ≡ field_there at n body o fields
part_then at n body None rest fields low high fits e =
    let here : at + 0 ≡ at = omega arith in
    rw here at e
part_then at n body (Some x) rest fields low high fits e = bytes_then at n (body x) rest fields low high fits e

-- the bodies of the caches are short
pub short_header : (c : ChunkHeaderCache) → length (chunk_header_cache_body c) ≤ 2048
unfolding chunk_header_cache_body chunk_header_cache_rows
short_header c = le_trans (length-numbers_body (numbered (chunk_header_cache_rows c))) (lit≤ tt)

pub short_body : (c : ChunkBodyCache) → length (chunk_body_cache_body c) ≤ 2048
unfolding chunk_body_cache_body chunk_body_cache_rows
short_body c = le_trans (length-numbers_body (numbered (chunk_body_cache_rows c))) (lit≤ tt)

channel_fits : (o : Option ChannelCache) → IfSome o ChannelCacheFits → IfSome o (λ c. length (channel_cache_body c) < 2 ^ 64)
channel_fits None fits = tt
channel_fits (Some c) fits = fits.whole

header_fits : (o : Option ChunkHeaderCache) → IfSome o (λ c. length (chunk_header_cache_body c) < 2 ^ 64)
header_fits None = tt
header_fits (Some c) = omega (arith, short_header c)

body_fits : (o : Option ChunkBodyCache) → IfSome o (λ c. length (chunk_body_cache_body c) < 2 ^ 64)
body_fits None = tt
body_fits (Some c) = omega (arith, short_body c)

-- an entry's fields, whatever caches it has
caches_read : (at at2 at3 at4 at5 kind position : ℕ) (channel : Option ChannelCache) (header : Option ChunkHeaderCache) (body : Option ChunkBodyCache) → kind < 2 ^ 32
    → IfSome channel ChannelCacheFits → IfSome header ChunkHeaderCacheFits → IfSome body ChunkBodyCacheFits
    → made_of entry_in (with_field (record { number = 1; at = at; value = Varint kind }) (with_field (record { number = 2; at = at2; value = Varint position })
    (field_there at3 101 channel_cache_body channel (field_there at4 102 chunk_header_cache_body header (field_there at5 103 chunk_body_cache_body body no_fields)))))
    ≡ Ok (record { kind = kind; position = position; channel_cache = channel; chunk_header_cache = header; chunk_body_cache = body })
unfolding entry_in last_number number_in last_span span_in
caches_read at at2 at3 at4 at5 kind position None None None low c h b = rw (mod-eq_of_lt low) refl
caches_read at at2 at3 at4 at5 kind position None None (Some z) low c h b = rw (chunk_body_cache_at-body (span_there at5 103 chunk_body_cache_body z).start z b, mod-eq_of_lt low) refl
caches_read at at2 at3 at4 at5 kind position None (Some y) None low c h b = rw (chunk_header_cache_at-body (span_there at4 102 chunk_header_cache_body y).start y h, mod-eq_of_lt low) refl
caches_read at at2 at3 at4 at5 kind position None (Some y) (Some z) low c h b =
    rw (chunk_header_cache_at-body (span_there at4 102 chunk_header_cache_body y).start y h, chunk_body_cache_at-body (span_there at5 103 chunk_body_cache_body z).start z b, mod-eq_of_lt low) refl
caches_read at at2 at3 at4 at5 kind position (Some x) None None low c h b = rw (channel_cache_at-body (span_there at3 101 channel_cache_body x).start x c, mod-eq_of_lt low) refl
caches_read at at2 at3 at4 at5 kind position (Some x) None (Some z) low c h b =
    rw (channel_cache_at-body (span_there at3 101 channel_cache_body x).start x c, chunk_body_cache_at-body (span_there at5 103 chunk_body_cache_body z).start z b, mod-eq_of_lt low) refl
caches_read at at2 at3 at4 at5 kind position (Some x) (Some y) None low c h b =
    rw (channel_cache_at-body (span_there at3 101 channel_cache_body x).start x c, chunk_header_cache_at-body (span_there at4 102 chunk_header_cache_body y).start y h, mod-eq_of_lt low) refl
caches_read at at2 at3 at4 at5 kind position (Some x) (Some y) (Some z) low c h b =
    rw (
      channel_cache_at-body (span_there at3 101 channel_cache_body x).start x c,
      chunk_header_cache_at-body (span_there at4 102 chunk_header_cache_body y).start y h,
      chunk_body_cache_at-body (span_there at5 103 chunk_body_cache_body z).start z b,
      mod-eq_of_lt low,
    ) refl

entry_at-written : (at : ℕ) (e : IndexEntry) → EntryFits e → entry_at (record { start = at; bytes = entry_bytes e }) ≡ Ok e
unfolding entry_at
entry_at-written at e fits =
    let a = field_u64 1 e.kind in
    let b = field_u64 2 e.position in
    let c = optional_field 101 channel_cache_body e.channel_cache in
    let h = optional_field 102 chunk_header_cache_body e.chunk_header_cache in
    let d = optional_field 103 chunk_body_cache_body e.chunk_body_cache in
    let at2 = at + length a in
    let at3 = at2 + length b in
    let at4 = at3 + length c in
    let at5 = at4 + length h in
    let grouped : (((a ++ b) ++ c) ++ h) ++ d ≡ a ++ (b ++ (c ++ (h ++ (d ++ [])))) = simp (append_assoc, append-nil) in
    let read = number_then at 1 e.kind (b ++ (c ++ (h ++ (d ++ [])))) _ (lit≤ tt) (lit≤ tt) (omega (arith, fits.kind))
    (number_then at2 2 e.position (c ++ (h ++ (d ++ []))) _ (lit≤ tt) (lit≤ tt) fits.position
    (part_then at3 101 channel_cache_body e.channel_cache (h ++ (d ++ [])) _ (lit≤ tt) (lit≤ tt) (channel_fits e.channel_cache fits.channel_cache)
    (part_then at4 102 chunk_header_cache_body e.chunk_header_cache (d ++ []) _ (lit≤ tt) (lit≤ tt) (header_fits e.chunk_header_cache)
    (part_then at5 103 chunk_body_cache_body e.chunk_body_cache [] _ (lit≤ tt) (lit≤ tt) (body_fits e.chunk_body_cache) (nothing_then (at5 + length d)))))) in
    ap (λ (bytes : List ℕ). made_of entry_in (fields_of at bytes)) grouped ∙ ap (made_of entry_in) read
    ∙ caches_read at at2 at3 at4 at5 e.kind e.position e.channel_cache e.chunk_header_cache e.chunk_body_cache fits.kind fits.channel_cache fits.chunk_header_cache fits.chunk_body_cache

entry_field-is : (e : IndexEntry) → entry_field e ≡ field_bytes 1 (entry_bytes e)
unfolding entry_field
entry_field-is e = refl

no_entries : entries_of no_fields ≡ Ok []
unfolding entries_of
no_entries = refl

pub index_at-body : (at : ℕ) (entries : List IndexEntry) → AllByRecursion EntryFits entries → index_at at (index_body entries) ≡ Ok entries
index_at-body at [] fits = ap entries_of (nothing_then at) ∙ no_entries
index_at-body at (e ∷ entries) fits =
    let inner = entry_bytes e in
    let size = length (field_bytes 1 inner) in
    let rest = fields_of (at + size) (index_body entries) in
    let span : WireSpan = record { start = at + (size - length inner); bytes = inner } in
    let field : WireField = record { number = 1; at = at; value = Bytes (at + (size - length inner)) inner } in
    let split : index_body (e ∷ entries) ≡ field_bytes 1 inner ++ index_body entries = flat_map-cons entry_field e entries ∙ ap (λ (x : List ℕ). x ++ index_body entries) (entry_field-is e) in
    ap (λ (x : List ℕ). entries_of (fields_of at x)) split
    ∙ ap entries_of (bytes_then at 1 inner (index_body entries) rest (lit≤ tt) (lit≤ tt) fits.0.whole refl)
    ∙ entries_of-entry field rest span (span_is at span)
    ∙ rw (entry_at-written span.start e fits.0, index_at-body (at + size) entries fits.1) refl
