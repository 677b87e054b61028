-- The parts of a record's text: each is a section, and its entry in the index fits.
use Rattle.std.proofs.Common.{◌≡◌, ℕ, ◌+◌, ◌*◌, ◌^◌, ◌<◌, ◌≤◌, List, [], ◌∷◌, ◌++◌, length, map, refl, sym, ap, arith, length-append, lit<, lit≤}
use Rattle.std.specs.List.{AllByRecursion}
use Rattle.std.proofs.lemmas.List.{length-map}
use Rattle.std.proofs.lemmas.List.Concat.{flat_map-append}
use Rattle.cy_wire.specs.Wire.{field_u64, field_bytes}
use Rattle.cy_section.specs.declared.types.BodyMessage.{BodyMessage}
use Rattle.cy_section.specs.declared.types.Channel.{Channel}
use Rattle.cy_section.specs.declared.types.ChannelCache.{ChannelCache}
use Rattle.cy_section.specs.declared.types.ChunkHeaderCache.{ChunkHeaderCache}
use Rattle.cy_section.specs.declared.types.ChunkBodyCache.{ChunkBodyCache}
use Rattle.cy_section.specs.declared.types.SectionKind.TheVariants as kind
use Rattle.cy_section.specs.Rows.{chunk_header_rows, chunk_header_cache_rows, chunk_body_cache_rows}
use Rattle.cy_section.specs.Section.{section, channel_body, chunk_header_body, chunk_body, channel_cache_body, chunk_header_cache_body, chunk_body_cache_body}
use Rattle.cy_section.specs.Chunks.{messages_in}
use Rattle.cy_section.specs.RecordText.{Part, bytes_of, parts_of, entries_from, channel_part, chunk_header_part, chunk_body_part, chunk_header_of, least_time, greatest_time, raw_size, count_on}
use Rattle.cy_read_back.specs.Sections.{ChannelFits, ChunkHeaderFits, EntryFits}
use Rattle.cy_wire.proofs.Varints.{length-varint_bytes}
use Rattle.cy_section.proofs.Lengths.{length-section}
use Rattle.cy_read_back.proofs.IndexRead.{short_header, short_body}
use Rattle.cy_cut.specs.Sections.{longest_section}
use Rattle.cy_reader.specs.Record.{size_of, with_section, largest_channels}
use Rattle.cy_read_back.proofs.TextSections.{IsSection, body_of, body_of-section}
use Rattle.cy_read_back.proofs.TextMet.{chunk_parts}
use Rattle.cy_read_back.proofs.TextFits.{join_all, many_bytes, header_short, channel_short, length-any_field, cache_short, count_within}

-- each part is a section
pub one_channel : (ms : List BodyMessage) (c : Channel) → length (channel_body c) ≤ longest_section → IsSection (channel_part ms c)
one_channel ms c short = record {
  bytes = λ at. ap (section kind.Channel) (sym (body_of-section kind.Channel (channel_body c)));
  plain = λ at. tt;
  number = λ at. refl;
  position = λ at. refl;
  short = ap_short;
}
  where
    ap_short : length (body_of (channel_part ms c)) ≤ longest_section
    ap_short = rw (body_of-section kind.Channel (channel_body c)) short

pub one_header : (chunk : List BodyMessage) → IsSection (chunk_header_part chunk)
one_header chunk = record {
  bytes = λ at. ap (section kind.ChunkHeader) (sym (body_of-section kind.ChunkHeader (chunk_header_body (chunk_header_of chunk))));
  plain = λ at. tt;
  number = λ at. refl;
  position = λ at. refl;
  short = ap_short;
}
  where
    ap_short : length (body_of (chunk_header_part chunk)) ≤ longest_section
    ap_short = rw (body_of-section kind.ChunkHeader (chunk_header_body (chunk_header_of chunk))) (header_short (chunk_header_of chunk))

pub one_body : (chunk : List BodyMessage) → length (chunk_body chunk) ≤ longest_section → IsSection (chunk_body_part chunk)
one_body chunk short = record {
  bytes = λ at. ap (section kind.ChunkBody) (sym (body_of-section kind.ChunkBody (chunk_body chunk)));
  plain = λ at. tt;
  number = λ at. refl;
  position = λ at. refl;
  short = ap_short;
}
  where
    ap_short : length (body_of (chunk_body_part chunk)) ≤ longest_section
    ap_short = rw (body_of-section kind.ChunkBody (chunk_body chunk)) short

channel_sections : (ms : List BodyMessage) (cs : List Channel) → AllByRecursion (λ c. size_of (with_section c) ≤ largest_channels) cs → AllByRecursion IsSection (map (channel_part ms) cs)
channel_sections ms [] small = tt
channel_sections ms (c ∷ cs) small = (one_channel ms c (channel_short c small.0), channel_sections ms cs small.1)

chunk_sections : (chunks : List (List BodyMessage)) → AllByRecursion (λ chunk. length (chunk_body chunk) ≤ longest_section) chunks → AllByRecursion IsSection (chunk_parts chunks)
chunk_sections [] short = tt
chunk_sections (chunk ∷ chunks) short = (one_header chunk, (one_body chunk short.0, chunk_sections chunks short.1))

pub all_sections : (channels : List Channel) (chunks : List (List BodyMessage)) → AllByRecursion (λ c. size_of (with_section c) ≤ largest_channels) channels
    → AllByRecursion (λ chunk. length (chunk_body chunk) ≤ longest_section) chunks → AllByRecursion IsSection (parts_of channels chunks)
all_sections channels chunks small short =
    join_all IsSection (map (channel_part (messages_in chunks)) channels) (chunk_parts chunks) (channel_sections (messages_in chunks) channels small) (chunk_sections chunks short)

-- how many there are, and how many bytes they have at least
chunk_count : (chunks : List (List BodyMessage)) → length (chunk_parts chunks) ≡ 2 * length chunks
chunk_count [] = refl
chunk_count (chunk ∷ chunks) = omega (arith, chunk_count chunks)

pub part_count : (channels : List Channel) (chunks : List (List BodyMessage)) → length (parts_of channels chunks) ≡ length channels + 2 * length chunks
part_count channels chunks =
    omega (arith, length-append (map (channel_part (messages_in chunks)) channels) (chunk_parts chunks), length-map channels (channel_part (messages_in chunks)), chunk_count chunks)

chunk_bytes : (chunks : List (List BodyMessage)) → length (messages_in chunks) ≤ length (bytes_of (chunk_parts chunks))
chunk_bytes [] = lit≤ tt
chunk_bytes (chunk ∷ chunks) =
    let h = chunk_header_part chunk in
    let b = chunk_body_part chunk in
    let rest = bytes_of (chunk_parts chunks) in
    omega (
      arith,
      chunk_bytes chunks,
      many_bytes chunk,
      length-append chunk (messages_in chunks),
      length-append h.bytes (b.bytes ++ rest),
      length-append b.bytes rest,
      length-section kind.ChunkBody (chunk_body chunk),
    )

pub message_count : (channels : List Channel) (chunks : List (List BodyMessage)) → length (messages_in chunks) ≤ length (bytes_of (parts_of channels chunks))
message_count channels chunks =
    let front = map (channel_part (messages_in chunks)) channels in
    omega (arith, chunk_bytes chunks, ap length (flat_map-append (λ (p : Part). p.bytes) front (chunk_parts chunks)), length-append (bytes_of front) (bytes_of (chunk_parts chunks)))

-- an entry of a part that stands at any place of 64 bits
abbrev pub PartFits : Part → Type 0
PartFits p = (at : ℕ) → at < 2 ^ 64 → EntryFits (p.entry at)

-- an entry is short where its caches are
entry_short : (number position : ℕ) (c h b : List ℕ) → length c + length h + length b ≤ 1073741824 → length (field_u64 1 number ++ field_u64 2 position ++ c ++ h ++ b) < 2 ^ 64
entry_short number position c h b short =
    simp length-append (omega (arith, length-varint_bytes 8, length-varint_bytes number, length-varint_bytes 16, length-varint_bytes position))

channel_entry : (ms : List BodyMessage) (c : Channel) → length ms < 2 ^ 64 → ChannelFits c → size_of (with_section c) ≤ largest_channels → PartFits (channel_part ms c)
channel_entry ms c few fits small at inside =
    let cache : ChannelCache = record { message_number = count_on c.name ms; name = c.name; message_type = c.message_type; proto_desc = c.proto_desc } in
    let short = cache_short cache in
    record {
      kind = lit< tt;
      position = inside;
      channel_cache = record {
        message_number = omega (arith, count_within c.name ms);
        name = fits.name;
        message_type = fits.message_type;
        proto_desc = fits.proto_desc;
        whole = omega arith;
        name_is_text = fits.name_is_text;
        type_is_text = fits.type_is_text;
      };
      chunk_header_cache = tt;
      chunk_body_cache = tt;
      whole = entry_short 4 at (field_bytes 101 (channel_cache_body cache)) [] [] (omega (arith, length-any_field 101 (channel_cache_body cache)));
    }

header_entry : (chunk : List BodyMessage) → ChunkHeaderFits (chunk_header_of chunk) → PartFits (chunk_header_part chunk)
unfolding chunk_header_rows chunk_header_cache_rows
header_entry chunk fits at inside =
    let cache : ChunkHeaderCache = record { message_number = length chunk; begin_time = least_time chunk; end_time = greatest_time chunk; raw_size = raw_size chunk } in
    record {
      kind = lit< tt;
      position = inside;
      channel_cache = tt;
      chunk_header_cache = (fits.1.1.0, (fits.0, (fits.1.0, (fits.1.1.1.0, tt))));
      chunk_body_cache = tt;
      whole = entry_short 1 at [] (field_bytes 102 (chunk_header_cache_body cache)) [] (omega (arith, length-any_field 102 (chunk_header_cache_body cache), short_header cache));
    }

body_entry : (chunk : List BodyMessage) → ChunkHeaderFits (chunk_header_of chunk) → PartFits (chunk_body_part chunk)
unfolding chunk_header_rows chunk_body_cache_rows
body_entry chunk fits at inside =
    let cache : ChunkBodyCache = record { message_number = length chunk } in
    record {
      kind = lit< tt;
      position = inside;
      channel_cache = tt;
      chunk_header_cache = tt;
      chunk_body_cache = (fits.1.1.0, tt);
      whole = entry_short 2 at [] [] (field_bytes 103 (chunk_body_cache_body cache)) (omega (arith, length-any_field 103 (chunk_body_cache_body cache), short_body cache));
    }

channel_entries : (ms : List BodyMessage) (cs : List Channel) → length ms < 2 ^ 64 → AllByRecursion ChannelFits cs → AllByRecursion (λ c. size_of (with_section c) ≤ largest_channels) cs
    → AllByRecursion PartFits (map (channel_part ms) cs)
channel_entries ms [] few fits small = tt
channel_entries ms (c ∷ cs) few fits small = (channel_entry ms c few fits.0 small.0, channel_entries ms cs few fits.1 small.1)

chunk_entries : (chunks : List (List BodyMessage)) → AllByRecursion (λ chunk. ChunkHeaderFits (chunk_header_of chunk)) chunks → AllByRecursion PartFits (chunk_parts chunks)
chunk_entries [] fits = tt
chunk_entries (chunk ∷ chunks) fits = (header_entry chunk fits.0, (body_entry chunk fits.0, chunk_entries chunks fits.1))

pub all_parts_fit : (channels : List Channel) (chunks : List (List BodyMessage)) → length (messages_in chunks) < 2 ^ 64 → AllByRecursion ChannelFits channels
    → AllByRecursion (λ c. size_of (with_section c) ≤ largest_channels) channels → AllByRecursion (λ chunk. ChunkHeaderFits (chunk_header_of chunk)) chunks
    → AllByRecursion PartFits (parts_of channels chunks)
all_parts_fit channels chunks few channel small chunk =
    join_all PartFits (map (channel_part (messages_in chunks)) channels) (chunk_parts chunks) (channel_entries (messages_in chunks) channels few channel small) (chunk_entries chunks chunk)

-- all entries fit, where the parts end within 64 bits
pub entries_fit : (parts : List Part) (at : ℕ) → AllByRecursion PartFits parts → at + length (bytes_of parts) < 2 ^ 64 → AllByRecursion EntryFits (entries_from at parts)
entries_fit [] at fits inside = tt
entries_fit (p ∷ rest) at fits inside =
    let longer = length-append p.bytes (bytes_of rest) in
    (fits.0 at (omega arith), entries_fit rest (at + length p.bytes) fits.1 (omega arith))
