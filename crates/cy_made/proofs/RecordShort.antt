-- A record of few light messages on short channels without types is within the limit of files.
use Rattle.std.proofs.Common.{◌≡◌, ℕ, ◌+◌, ◌*◌, ◌≤◌, List, [], ◌∷◌, ◌++◌, Bool, true, false, ◌&&◌, length, map, refl, sym, ap, subst, arith, length-append, lit≤}
use Rattle.std.specs.Prelude.{IsTrue}
use Rattle.std.specs.List.{AllByRecursion}
use Rattle.std.proofs.lemmas.List.Concat.{flat_map-append}
use Rattle.cy_wire.specs.Wire.{field_u64, field_bytes}
use Rattle.cy_wire.proofs.Varints.{length-varint_bytes}
use Rattle.cy_section.specs.declared.types.BodyMessage.{BodyMessage}
use Rattle.cy_section.specs.declared.types.Channel.{Channel}
use Rattle.cy_section.specs.declared.types.ChannelCache.{ChannelCache}
use Rattle.cy_section.specs.declared.types.ChunkHeader.{ChunkHeader}
use Rattle.cy_section.specs.declared.types.ChunkHeaderCache.{ChunkHeaderCache}
use Rattle.cy_section.specs.declared.types.ChunkBodyCache.{ChunkBodyCache}
use Rattle.cy_section.specs.declared.types.SectionKind.TheVariants as kind
use Rattle.cy_section.specs.Rows.{numbered, chunk_header_rows, chunk_header_cache_rows, chunk_body_cache_rows}
use Rattle.cy_section.specs.Section.{channel_body, chunk_header_body, chunk_body, chunk_header_cache_body, chunk_body_cache_body, channel_cache_body, entry_field, index_body, message_field, header_section}
use Rattle.cy_section.specs.Chunks.{messages_in, are_chunks, all_taken, is_full, is_nonempty}
use Rattle.cy_section.specs.RecordText.{Part, bytes_of, parts_of, entries_from, channel_part, chunk_header_part, chunk_body_part, chunk_header_of, complete_header, header_end, index_section, record_bytes, IsRecordText, least_time, greatest_time, raw_size, count_on}
use Rattle.cy_read_back.proofs.TextFits.{cache_short, join_all, length-any_field, split_all}
use Rattle.cy_read_back.proofs.TextMet.{chunk_parts}
use Rattle.cy_read_back.proofs.TextParts.{part_count}
use Rattle.cy_section.proofs.Lengths.{length-section, length-header_section, length-message_field, length-numbers_body}

-- a message with a short name and a short content, and a channel with a short name alone
pub record IsLight (m : BodyMessage) : Type 0 where
  pub name : length m.channel_name ≤ 16
  pub content : length m.content ≤ 16

pub record IsPlain (c : Channel) : Type 0 where
  pub name : length c.name ≤ 16
  pub message_type : length c.message_type ≡ 0
  pub proto_desc : length c.proto_desc ≡ 0

body_light : (ms : List BodyMessage) → AllByRecursion IsLight ms → length (chunk_body ms) ≤ 96 * length ms
body_light [] all = lit≤ tt
body_light (m ∷ ms) all =
    let name = all.0.name in
    let content = all.0.content in
    omega (arith, length-message_field m, body_light ms all.1, length-append (message_field m) (chunk_body ms))

header_light : (h : ChunkHeader) → length (chunk_header_body h) ≤ 80
unfolding chunk_header_body chunk_header_rows
header_light h = length-numbers_body (numbered (chunk_header_rows h))

-- chunks with at least one message each
first_true : (a b : Bool) → IsTrue (a && b) → IsTrue a × IsTrue b
first_true true b e = (refl, e)
first_true false b e = absurd cc

some_in : (chunk : List BodyMessage) → IsTrue (is_nonempty chunk) → 1 ≤ length chunk
some_in [] e = absurd cc
some_in (m ∷ rest) e = omega arith

chunks_some : (chunks : List (List BodyMessage)) → IsTrue (are_chunks chunks) → length chunks ≤ length (messages_in chunks)
chunks_some [] are = lit≤ tt
chunks_some (chunk ∷ later) are =
    let all = first_true (is_nonempty chunk && all_taken [] chunk && is_full chunk later) (are_chunks later) are in
    let front = first_true (is_nonempty chunk && all_taken [] chunk) (is_full chunk later) all.0 in
    let some = first_true (is_nonempty chunk) (all_taken [] chunk) front.0 in
    omega (arith, some_in chunk some.0, chunks_some later all.1, length-append chunk (messages_in later))

chunks_light : (chunks : List (List BodyMessage)) → AllByRecursion IsLight (messages_in chunks) → length (bytes_of (chunk_parts chunks)) ≤ 112 * length chunks + 96 * length (messages_in chunks)
chunks_light [] all = lit≤ tt
chunks_light (chunk ∷ chunks) all =
    let h = chunk_header_part chunk in
    let b = chunk_body_part chunk in
    let rest = bytes_of (chunk_parts chunks) in
    let halves = split_all IsLight chunk (messages_in chunks) all in
    omega (
      arith,
      chunks_light chunks halves.1,
      body_light chunk halves.0,
      header_light (chunk_header_of chunk),
      length-append chunk (messages_in chunks),
      length-append h.bytes (b.bytes ++ rest),
      length-append b.bytes rest,
      length-section kind.ChunkHeader (chunk_header_body (chunk_header_of chunk)),
      length-section kind.ChunkBody (chunk_body chunk),
    )

channel_light : (c : Channel) → IsPlain c → length (channel_body c) ≤ 80
unfolding channel_body
channel_light c is =
    let name = is.name in
    let message_type = is.message_type in
    let proto_desc = is.proto_desc in
    simp length-append (omega (arith, length-varint_bytes 10, length-varint_bytes (length c.name), length-varint_bytes 18, length-varint_bytes (length c.message_type), length-varint_bytes 26, length-varint_bytes (length c.proto_desc)))

channels_light : (ms : List BodyMessage) (cs : List Channel) → AllByRecursion IsPlain cs → length (bytes_of (map (channel_part ms) cs)) ≤ 96 * length cs
channels_light ms [] all = lit≤ tt
channels_light ms (c ∷ cs) all =
    let rest = bytes_of (map (channel_part ms) cs) in
    omega (
      arith,
      channels_light ms cs all.1,
      channel_light c all.0,
      length-append (channel_part ms c).bytes rest,
      length-section kind.Channel (channel_body c),
    )

-- The index.

abbrev EntryLight : Part → Type 0
EntryLight p = (at : ℕ) → length (entry_field (p.entry at)) ≤ 400

entry_short : (kind at : ℕ) (a b c : List ℕ) → length a + length b + length c ≤ 340 → length (field_bytes 1 (field_u64 1 kind ++ field_u64 2 at ++ a ++ b ++ c)) ≤ 400
entry_short kind at a b c short =
    let inner = field_u64 1 kind ++ field_u64 2 at ++ a ++ b ++ c in
    let within : length inner ≤ 380 = simp length-append (omega (arith, length-varint_bytes 8, length-varint_bytes kind, length-varint_bytes 16, length-varint_bytes at)) in
    omega (arith, within, length-any_field 1 inner)

header_cached : (c : ChunkHeaderCache) → length (chunk_header_cache_body c) ≤ 80
unfolding chunk_header_cache_body chunk_header_cache_rows
header_cached c = length-numbers_body (numbered (chunk_header_cache_rows c))

header_entry : (chunk : List BodyMessage) → EntryLight (chunk_header_part chunk)
unfolding entry_field
header_entry chunk at =
    let body = chunk_header_cache_body (record { message_number = length chunk; begin_time = least_time chunk; end_time = greatest_time chunk; raw_size = raw_size chunk }) in
    entry_short 1 at [] (field_bytes 102 body) [] (omega (arith, length-any_field 102 body, header_cached (record { message_number = length chunk; begin_time = least_time chunk; end_time = greatest_time chunk; raw_size = raw_size chunk })))

body_cached : (c : ChunkBodyCache) → length (chunk_body_cache_body c) ≤ 20
unfolding chunk_body_cache_body chunk_body_cache_rows
body_cached c = length-numbers_body (numbered (chunk_body_cache_rows c))

body_entry : (chunk : List BodyMessage) → EntryLight (chunk_body_part chunk)
unfolding entry_field
body_entry chunk at =
    let body = chunk_body_cache_body (record { message_number = length chunk }) in
    entry_short 2 at [] [] (field_bytes 103 body) (omega (arith, length-any_field 103 body, body_cached (record { message_number = length chunk })))

channel_entry : (ms : List BodyMessage) (c : Channel) → IsPlain c → EntryLight (channel_part ms c)
unfolding entry_field
channel_entry ms c is at =
    let cache : ChannelCache = record { message_number = count_on c.name ms; name = c.name; message_type = c.message_type; proto_desc = c.proto_desc } in
    let body = channel_cache_body cache in
    entry_short 4 at (field_bytes 101 body) [] [] (omega (arith, length-any_field 101 body, cache_short cache, is.name, is.message_type, is.proto_desc))

entries_light : (parts : List Part) (at : ℕ) → AllByRecursion EntryLight parts → length (index_body (entries_from at parts)) ≤ 400 * length parts
entries_light [] at all = lit≤ tt
entries_light (p ∷ rest) at all =
    omega (arith, all.0 at, entries_light rest (at + length p.bytes) all.1, length-append (entry_field (p.entry at)) (index_body (entries_from (at + length p.bytes) rest)))

chunk_entries : (chunks : List (List BodyMessage)) → AllByRecursion EntryLight (chunk_parts chunks)
chunk_entries [] = tt
chunk_entries (chunk ∷ chunks) = (header_entry chunk, (body_entry chunk, chunk_entries chunks))

channel_entries : (ms : List BodyMessage) (cs : List Channel) → AllByRecursion IsPlain cs → AllByRecursion EntryLight (map (channel_part ms) cs)
channel_entries ms [] all = tt
channel_entries ms (c ∷ cs) all = (channel_entry ms c all.0, channel_entries ms cs all.1)

-- All of it.

record_light : (channels : List Channel) (chunks : List (List BodyMessage)) → AllByRecursion IsPlain channels → AllByRecursion IsLight (messages_in chunks)
    → length (record_bytes channels chunks) ≤ 2080 + 496 * length channels + 912 * length chunks + 96 * length (messages_in chunks)
unfolding record_bytes
record_light channels chunks plain light =
    let parts = parts_of channels chunks in
    let front = map (channel_part (messages_in chunks)) channels in
    let entries = index_body (entries_from header_end parts) in
    let each = join_all EntryLight front (chunk_parts chunks) (channel_entries (messages_in chunks) channels plain) (chunk_entries chunks) in
    omega (
      arith,
      length-append (header_section (complete_header channels chunks) ++ bytes_of parts) (index_section parts),
      length-append (header_section (complete_header channels chunks)) (bytes_of parts),
      length-header_section (complete_header channels chunks),
      length-section kind.Index entries,
      entries_light parts header_end each,
      part_count channels chunks,
      ap length (flat_map-append (λ (p : Part). p.bytes) front (chunk_parts chunks)),
      length-append (bytes_of front) (bytes_of (chunk_parts chunks)),
      channels_light (messages_in chunks) channels plain,
      chunks_light chunks light,
    )

pub record_short : (channels : List Channel) (messages : List BodyMessage) (file : List ℕ) (text : IsRecordText channels messages file) → length channels ≤ 2 → length messages ≤ 1048576
    → AllByRecursion IsPlain channels → AllByRecursion IsLight messages → length file ≤ 2147483648
record_short channels messages file text few_channels few plain light =
    let chunks = text.chunks in
    let all = subst (AllByRecursion IsLight) (sym text.cut.whole) light in
    omega (arith, record_light channels chunks plain all, chunks_some chunks text.cut.cut, ap length text.text, ap length text.cut.whole)
