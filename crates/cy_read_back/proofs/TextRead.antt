-- A record's text is read whole.
use Rattle.std.proofs.Common.{◌≡◌, ℕ, suc, ◌+◌, ◌-◌, ◌^◌, ◌<◌, ◌≤◌, List, [], ◌∷◌, ◌++◌, length, map, take, drop, replicate, refl, sym, ap, ◌∙◌, subst, arith, append_assoc, append-nil, length-append, true, Option, Some, None, Ok}
use Rattle.std.specs.Prelude.{IsTrue, sum_by}
use Rattle.std.specs.List.{AllByRecursion}
use Rattle.std.proofs.lemmas.Bool.{le-ltb}
use Rattle.std.proofs.lemmas.List.{drop-drop}
use Rattle.byteorder.specs.Endian.{little_number}
use Rattle.cy_section.specs.declared.types.BodyMessage.{BodyMessage}
use Rattle.cy_section.specs.declared.types.Channel.{Channel}
use Rattle.cy_section.specs.declared.types.Header.{Header}
use Rattle.cy_section.specs.declared.types.SectionKind.TheVariants as kind
use Rattle.cy_section.specs.Rows.{header_rows}
use Rattle.cy_section.specs.Section.{section, header_body, header_section, chunk_body, index_body}
use Rattle.cy_section.specs.Chunks.{messages_in, all_taken}
use Rattle.cy_section.specs.RecordText.{IsRecordText, parts_of, bytes_of, record_bytes, complete_header, chunk_header_of}
use Rattle.cy_read_back.specs.Sections.{HeaderFits, ChunkHeaderFits}
use Rattle.cy_section.proofs.Lengths.{length-section, length-header_section, length-header_body}
use Rattle.cy_read_back.proofs.HeadsRead.{number-of_head, size-of_head}
use Rattle.cy_read_back.proofs.RowsRead.{header_at-body}
use Rattle.cy_cut.specs.declared.heads.PlacedHead.{PlacedHead}
use Rattle.cy_cut.specs.Sections.{Sections, longest_section, sections_from, longest_file}
use Rattle.cy_cut.specs.Heads.{PlacedIndex, end_of, index_at, index_of, index_head, header_head, section_head, heads_of}
use Rattle.cy_reader.specs.Record.{nothing, size_of, with_section, file_header, add_sections, source_of, record_of, most_channels, largest_channels, parts_of as file_parts}
use Rattle.cy_read_back.specs.Records.{IsReadableChannel, IsReadableMessage, AreReadable, message_on, heads_from, text_entries, text_index, text_source, text_contents}
use Rattle.cy_read_back.proofs.TextNames.{AreNew, is_name, names_there, channels_once, name_readable}
use Rattle.cy_read_back.proofs.TextSections.{IsSection, StandsThere, placed, long_file, bytes_there, taken_there, sections-written, heads-written, end-written, few_parts}
use Rattle.cy_read_back.proofs.TextMet.{IsOn, IsChunkOn, met_with, text_meets}
use Rattle.cy_read_back.proofs.TextFits.{IsShort, HasTime, each_chunk, each_taken, each_small, chunk_short, chunk_header_fits, channels_fit, message_fits, least_fits, greatest_fits}
use Rattle.cy_read_back.proofs.TextParts.{PartFits, all_sections, all_parts_fit, part_count, message_count}

-- each message has a time of 64 bits
have_times : (ms : List BodyMessage) → AllByRecursion IsReadableMessage ms → AllByRecursion HasTime ms
have_times [] readable = tt
have_times (m ∷ ms) readable = (readable.0.time, have_times ms readable.1)

-- each message is on a channel, within the limits
on_channels : (channels : List Channel) (ms : List BodyMessage) → AllByRecursion IsReadableChannel channels → AllByRecursion (λ m. is_name m.channel_name channels ≡ true) ms
    → AllByRecursion IsReadableMessage ms → AllByRecursion (IsOn channels) ms
on_channels channels [] are named readable = tt
on_channels channels (m ∷ ms) are named readable =
    let name = name_readable m.channel_name channels named.0 are in
    let short : IsShort m = record { name = name.0; content = readable.0.small } in (
      record { known = named.0; short = name.0; small = readable.0.small; fits = message_fits m short name.1 readable.0.time },
      on_channels channels ms are named.1 readable.1,
    )

-- so is each chunk
record IsFine (channels : List Channel) (chunk : List BodyMessage) : Type 0 where
  on : IsChunkOn channels chunk
  short : length (chunk_body chunk) ≤ longest_section

shorts : (channels : List Channel) (ms : List BodyMessage) → AllByRecursion (IsOn channels) ms → AllByRecursion IsShort ms
shorts channels [] on = tt
shorts channels (m ∷ ms) on = (record { name = on.0.short; content = on.0.small }, shorts channels ms on.1)

fine_chunks : (channels : List Channel) (chunks : List (List BodyMessage)) → AllByRecursion (λ chunk. IsTrue (all_taken [] chunk)) chunks → AllByRecursion (AllByRecursion (IsOn channels)) chunks
    → AllByRecursion (AllByRecursion IsReadableMessage) chunks → AllByRecursion (IsFine channels) chunks
fine_chunks channels [] taken on readable = tt
fine_chunks channels (chunk ∷ chunks) taken on readable =
    let short = chunk_short chunk taken.0 (shorts channels chunk on.0) in (
      record { on = record { header = chunk_header_fits chunk (have_times chunk readable.0) short; messages = on.0 }; short = short },
      fine_chunks channels chunks taken.1 on.1 readable.1,
    )

weaken : {X : Type 0} (P Q : X → Type 0) → ((x : X) → P x → Q x) → (xs : List X) → AllByRecursion P xs → AllByRecursion Q xs
weaken P Q f [] all = tt
weaken P Q f (x ∷ xs) all = (f x all.0, weaken P Q f xs all.1)

-- a text's header, its index and its bytes
abbrev pub header_of : List Channel → List (List BodyMessage) → Header
header_of channels chunks = complete_header channels chunks

abbrev pub index_of_text : List Channel → List (List BodyMessage) → List ℕ
index_of_text channels chunks = index_body (text_entries channels chunks)

-- all that is known of a text within the limits
pub record IsText (channels : List Channel) (chunks : List (List BodyMessage)) (file : List ℕ) : Type 0 where
  pub whole : file ≡ header_section (header_of channels chunks) ++ (bytes_of (parts_of channels chunks) ++ section kind.Index (index_of_text channels chunks))
  pub short : length file ≤ longest_file
  pub few : length channels ≤ most_channels
  pub small : sum_by size_of (map with_section channels) ≤ largest_channels
  pub each_small : AllByRecursion (λ c. size_of (with_section c) ≤ largest_channels) channels
  pub each_channel : AllByRecursion IsReadableChannel channels
  pub new : AreNew [] (map (λ c. c.name) channels)
  pub each_message : AllByRecursion IsReadableMessage (messages_in chunks)
  pub on : AllByRecursion (IsChunkOn channels) chunks
  pub bodies : AllByRecursion (λ chunk. length (chunk_body chunk) ≤ longest_section) chunks

file_is : (channels : List Channel) (messages : List BodyMessage) (file : List ℕ) (text : IsRecordText channels messages file)
    → file ≡ header_section (header_of channels text.chunks) ++ (bytes_of (parts_of channels text.chunks) ++ section kind.Index (index_of_text channels text.chunks))
unfolding record_bytes
file_is channels messages file text =
    text.text ∙ append_assoc (header_section (header_of channels text.chunks)) (bytes_of (parts_of channels text.chunks)) (section kind.Index (index_of_text channels text.chunks))

pub is_text : (channels : List Channel) (messages : List BodyMessage) (file : List ℕ) (text : IsRecordText channels messages file) → AreReadable channels messages file → IsText channels text.chunks file
is_text channels messages file text are =
    let chunks = text.chunks in
    let whole = text.cut.whole in
    let readable : AllByRecursion IsReadableMessage (messages_in chunks) = subst (λ (ms : List BodyMessage). AllByRecursion IsReadableMessage ms) (sym whole) are.each_message in
    let named : AllByRecursion (λ (m : BodyMessage). is_name m.channel_name channels ≡ true) (messages_in chunks) =
    subst (λ (ms : List BodyMessage). AllByRecursion (λ (m : BodyMessage). is_name m.channel_name channels ≡ true) ms) (sym whole) (names_there channels messages text.named) in
    let on = on_channels channels (messages_in chunks) are.each_channel named readable in
    let fine = fine_chunks channels chunks (each_taken chunks text.cut.cut) (each_chunk (IsOn channels) chunks on) (each_chunk IsReadableMessage chunks readable) in
    record {
      whole = file_is channels messages file text;
      short = are.short;
      few = are.few;
      small = are.small;
      each_small = each_small channels largest_channels are.small;
      each_channel = are.each_channel;
      new = channels_once channels messages text.named;
      each_message = readable;
      on = weaken (IsFine channels) (IsChunkOn channels) (λ chunk f. f.on) chunks fine;
      bodies = weaken (IsFine channels) (λ (chunk : List BodyMessage). length (chunk_body chunk) ≤ longest_section) (λ chunk f. f.short) chunks fine;
    }

-- its parts are sections, its length is what its header says
pub sections_of : (channels : List Channel) (chunks : List (List BodyMessage)) (file : List ℕ) → IsText channels chunks file → AllByRecursion IsSection (parts_of channels chunks)
sections_of channels chunks file t = all_sections channels chunks t.each_small t.bodies

pub length_is : (channels : List Channel) (chunks : List (List BodyMessage)) (file : List ℕ) → IsText channels chunks file
    → length file ≡ 2064 + length (bytes_of (parts_of channels chunks)) + length (section kind.Index (index_of_text channels chunks))
length_is channels chunks file t =
    let h = header_section (header_of channels chunks) in
    let bytes = bytes_of (parts_of channels chunks) in
    let index = section kind.Index (index_of_text channels chunks) in
    omega (arith, ap length t.whole, length-append h (bytes ++ index), length-append bytes index, length-header_section (header_of channels chunks))

pub counts_fit : (channels : List Channel) (chunks : List (List BodyMessage)) (file : List ℕ) → IsText channels chunks file
    → (length chunks ≤ longest_file) × (length (messages_in chunks) ≤ longest_file) × (length (index_of_text channels chunks) ≤ longest_file)
counts_fit channels chunks file t =
    let short = t.short in
    let long = length_is channels chunks file t in
    let parts = few_parts (parts_of channels chunks) (sections_of channels chunks file t) in
    let count = part_count channels chunks in
    let messages = message_count channels chunks in
    let index = length-section kind.Index (index_of_text channels chunks) in
    (omega arith, omega arith, omega arith)

header_fits : (channels : List Channel) (chunks : List (List BodyMessage)) (file : List ℕ) → IsText channels chunks file → HeaderFits (header_of channels chunks)
unfolding header_rows
header_fits channels chunks file t =
    let short = t.short in
    let few = t.few in
    let long = length_is channels chunks file t in
    let counts = counts_fit channels chunks file t in
    let begin = least_fits (messages_in chunks) (have_times (messages_in chunks) t.each_message) in
    let end = greatest_fits (messages_in chunks) (have_times (messages_in chunks) t.each_message) in
    search (arith, begin, end, short, few, long, counts)

-- its header stands at its front
header_there : (h : Header) (rest file : List ℕ) → file ≡ header_section h ++ rest → StandsThere file [] kind.Header (header_body h) (replicate (2048 - length (header_body h)) 0 ++ rest) 0
unfolding header_section
header_there h rest file whole = record { whole = whole ∙ append_assoc (section kind.Header (header_body h)) (replicate (2048 - length (header_body h)) 0) rest; there = refl }

header_size : (h : Header) (rest file : List ℕ) → file ≡ header_section h ++ rest → little_number 8 (drop 8 file) ≡ length (header_body h)
header_size h rest file whole =
    let zeros = replicate (2048 - length (header_body h)) 0 ++ rest in
    ap (λ (bytes : List ℕ). little_number 8 (drop 8 bytes)) (bytes_there file [] (header_body h) zeros kind.Header 0 (header_there h rest file whole))
    ∙ size-of_head (length (header_body h)) kind.Header (header_body h ++ zeros) (omega (arith, length-header_body h))

pub header_read : (h : Header) (rest file : List ℕ) → file ≡ header_section h ++ rest → length file ≤ longest_file → 2064 ≤ length file → h.compress ≡ 0 → HeaderFits h → file_header file ≡ Ok h
unfolding file_header
header_read h rest file whole short long plain fits =
    let zeros = replicate (2048 - length (header_body h)) 0 ++ rest in
    let there = header_there h rest file whole in
    let number : little_number 4 file ≡ 0 = ap (little_number 4) (bytes_there file [] (header_body h) zeros kind.Header 0 there) ∙ number-of_head (length (header_body h)) kind.Header (header_body h ++ zeros) in
    let fields : take (length (header_body h)) (drop 16 file) ≡ header_body h = taken_there file [] (header_body h) zeros kind.Header 0 there in
    rw (
      le-ltb longest_file (length file) short,
      le-ltb (length file) 16 (omega arith),
      number,
      header_size h rest file whole,
      le-ltb 2048 (length (header_body h)) (omega (arith, length-header_body h)),
      le-ltb (length file) 2064 long,
      fields,
      header_at-body 16 h fits,
      plain,
    ) refl

text_header : (channels : List Channel) (chunks : List (List BodyMessage)) (file : List ℕ) → IsText channels chunks file → file_header file ≡ Ok (header_of channels chunks)
text_header channels chunks file t =
    header_read (header_of channels chunks) _ file t.whole t.short (omega (arith, length_is channels chunks file t)) refl (header_fits channels chunks file t)

-- its sections
text_sections : (channels : List Channel) (chunks : List (List BodyMessage)) (file : List ℕ) → IsText channels chunks file
    → sections_from file 2064 ≡ (let s : Sections = record { sections = placed 2064 (parts_of channels chunks); fault = None } in s)
text_sections channels chunks file t =
    let parts = parts_of channels chunks in
    let counts = counts_fit channels chunks file t in
    let long = length_is channels chunks file t in
    sections-written (suc (length file)) parts 2064 (header_section (header_of channels chunks)) (index_of_text channels chunks) file t.whole (sym (length-header_section (header_of channels chunks)))
    (omega arith) (sections_of channels chunks file t) (omega (arith, few_parts parts (sections_of channels chunks file t)))

-- its index
index_there : (channels : List Channel) (chunks : List (List BodyMessage)) (file : List ℕ) → IsText channels chunks file
    → StandsThere file (header_section (header_of channels chunks) ++ bytes_of (parts_of channels chunks)) kind.Index (index_of_text channels chunks) [] (2064 + length (bytes_of (parts_of channels chunks)))
index_there channels chunks file t =
    let h = header_section (header_of channels chunks) in
    let bytes = bytes_of (parts_of channels chunks) in
    let index = section kind.Index (index_of_text channels chunks) in
    record {
      whole = t.whole ∙ sym (append_assoc h bytes index) ∙ ap (λ (xs : List ℕ). (h ++ bytes) ++ xs) (sym (append-nil index));
      there = omega (arith, length-append h bytes, length-header_section (header_of channels chunks));
    }

index_read : (file front index : List ℕ) (at : ℕ) → StandsThere file front kind.Index index [] at → length index < 2 ^ 64
    → index_at file at ≡ Some (let i : PlacedIndex = record { at = at; size = length index; body = index } in i)
unfolding index_at
index_read file front index at there small =
    let long = long_file file front index [] kind.Index at there in
    let size : little_number 8 (drop (at + 8) file) ≡ length index =
    ap (little_number 8) (sym (drop-drop 8 at file)) ∙ ap (λ (bytes : List ℕ). little_number 8 (drop 8 bytes)) (bytes_there file front index [] kind.Index at there)
    ∙ size-of_head (length index) kind.Index (index ++ []) small in
    rw (le-ltb (length file) (at + 16) (omega arith), size, taken_there file front index [] kind.Index at there) refl

text_index_of : (channels : List Channel) (chunks : List (List BodyMessage)) (file : List ℕ) → IsText channels chunks file → index_of file 2064 ≡ Some (text_index channels chunks)
unfolding index_of
text_index_of channels chunks file t =
    let parts = parts_of channels chunks in
    let counts = counts_fit channels chunks file t in
    ap (λ (s : Sections). index_at file (end_of 2064 s.sections)) (text_sections channels chunks file t)
    ∙ ap (index_at file) (end-written parts 2064 (sections_of channels chunks file t))
    ∙ index_read file (header_section (header_of channels chunks) ++ bytes_of parts) (index_of_text channels chunks) (2064 + length (bytes_of parts)) (index_there channels chunks file t) (omega arith)

-- the heads of its sections
text_heads : (channels : List Channel) (chunks : List (List BodyMessage)) (file : List ℕ) → IsText channels chunks file
    → heads_of file 2064 ≡ (text_source [] channels chunks).heads
unfolding heads_of header_head
text_heads channels chunks file t =
    let parts = parts_of channels chunks in
    ap (λ (s : Sections). (header_head file ∷ map section_head s.sections) ++ index_head (index_of file 2064)) (text_sections channels chunks file t)
    ∙ ap (λ (o : Option PlacedIndex). (header_head file ∷ map section_head (placed 2064 parts)) ++ index_head o) (text_index_of channels chunks file t)
    ∙ ap (λ (heads : List PlacedHead). (header_head file ∷ heads) ++ index_head (Some (text_index channels chunks))) (heads-written parts 2064)
    ∙ ap (λ (n : ℕ). (let one : PlacedHead = record { at = 0; kind = kind.Header; size = n } in one) ∷ (heads_from 2064 parts ++ index_head (Some (text_index channels chunks)))) (header_size (header_of channels chunks) _ file t.whole)

text_source_of : (name file : List ℕ) (channels : List Channel) (chunks : List (List BodyMessage)) → IsText channels chunks file
    → source_of name file (header_of channels chunks) ≡ text_source name channels chunks
unfolding source_of
text_source_of name file channels chunks t =
    let size : length file ≡ (header_of channels chunks).size = length_is channels chunks file t in
    rw (text_heads channels chunks file t, text_index_of channels chunks file t, size) refl

-- its channels and messages
pub text_met : (channels : List Channel) (chunks : List (List BodyMessage)) (file : List ℕ) → IsText channels chunks file
    → add_sections (placed 2064 (parts_of channels chunks)) None nothing ≡ Ok (met_with channels (map (message_on channels) (messages_in chunks)))
text_met channels chunks file t =
    text_meets channels chunks 2064 t.new t.each_channel (channels_fit channels t.each_channel t.each_small) t.few t.small t.on

text_parts : (channels : List Channel) (chunks : List (List BodyMessage)) (file : List ℕ) → IsText channels chunks file
    → file_parts file ≡ Ok (header_of channels chunks, met_with channels (map (message_on channels) (messages_in chunks)))
unfolding file_parts
text_parts channels chunks file t =
    rw (text_header channels chunks file t, text_sections channels chunks file t, text_met channels chunks file t) refl

pub text_read : (name file : List ℕ) (channels : List Channel) (chunks : List (List BodyMessage)) → IsText channels chunks file → record_of name file ≡ Ok (text_contents name channels chunks)
unfolding record_of
text_read name file channels chunks t =
    rw (text_parts channels chunks file t, text_source_of name file channels chunks t) refl

-- its parts' entries fit
pub parts_fit : (channels : List Channel) (chunks : List (List BodyMessage)) (file : List ℕ) → IsText channels chunks file → AllByRecursion PartFits (parts_of channels chunks)
parts_fit channels chunks file t =
    let counts = counts_fit channels chunks file t in
    all_parts_fit channels chunks (omega arith) (channels_fit channels t.each_channel t.each_small) t.each_small
    (weaken (IsChunkOn channels) (λ (chunk : List BodyMessage). ChunkHeaderFits (chunk_header_of chunk)) (λ chunk on. on.header) chunks t.on)
