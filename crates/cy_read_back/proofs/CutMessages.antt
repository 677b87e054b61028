-- What the sections say that stand whole in a file which has only the front of a record's text.
use Rattle.std.proofs.Common.{◌≡◌, ℕ, suc, ◌+◌, ◌-◌, ◌^◌, ◌<◌, ◌≤◌, nat_lt, List, [], ◌∷◌, ◌++◌, length, map, take, drop, refl, sym, ap, ◌∙◌, subst, arith, append_assoc, append-nil, length-append, Option, Some, None, Result, Ok, Err, inl, inr}
use Rattle.std.specs.Prelude.{if◌then◌else◌}
use Rattle.std.specs.List.{AllByRecursion, flat_map}
use Rattle.std.specs.Str.{IsUtf8}
use Rattle.std.proofs.lemmas.Bool.{le-ltb, lt-ltb, cases_lt}
use Rattle.std.proofs.lemmas.List.Concat.{flat_map-append}
use Rattle.std.proofs.Math.Seq.{drop-append_seam}
use Rattle.cy_wire.specs.Field.{fields_of}
use Rattle.cy_wire.specs.Wire.{field_bytes}
use Rattle.cy_wire.proofs.Varints.{length-varint_bytes}
use Rattle.cy_section.specs.declared.error.SectionError.{SectionError}
use Rattle.cy_section.specs.declared.types.BodyMessage.{BodyMessage}
use Rattle.cy_section.specs.declared.types.Channel.{Channel}
use Rattle.cy_section.specs.declared.types.ChunkHeader.{ChunkHeader}
use Rattle.cy_section.specs.declared.types.SectionKind.{SectionKind}
use Rattle.cy_section.specs.declared.types.SectionKind.TheVariants as kind
use Rattle.cy_section.specs.Section.{section, header_section, channel_body, chunk_header_body, chunk_body, message_field, index_body}
use Rattle.cy_section.specs.Chunks.{messages_in}
use Rattle.cy_section.specs.Reading.{chunk_header_at, channel_at, messages_of}
use Rattle.cy_section.specs.RecordText.{Part, bytes_of, parts_of, record_bytes, complete_header, channel_part, chunk_header_part, chunk_body_part, chunk_header_of, entries_from, header_end}
use Rattle.cy_section.proofs.Lengths.{length-header_section, length-of-message_field, length-message_fields}
use Rattle.cy_reader.specs.declared.error.LoadError.{LoadError}
use Rattle.cy_cut.specs.Sections.{WholeSection, Sections, longest_section, sections_from}
use Rattle.cy_reader.specs.Record.{◌>>=◌, Met, file_header, add_sections, nothing}
use Rattle.cy_reader.specs.Named.{named_messages}
use Rattle.cy_reader.specs.Said.{section_messages, IsSaid}
use Rattle.cy_salvage.specs.Salvage.{Salvage, own_fault, until_fault, sound_sections, dropped_behind, if_usable, salvage_in, salvage_of}
use Rattle.cy_cut.specs.Cutting.{fault_by}
use Rattle.cy_reader.proofs.Told.{told_as_said}
use Rattle.cy_read_back.specs.Sections.{ChannelFits, ChunkHeaderFits, MessageFits, message_bytes}
use Rattle.cy_read_back.specs.Fronts.{IsSectionOfChannel, IsGivenMessage, IsSectionOfChunk, IsFrontOf, IsSalvagedWhole, chunks_within, chunks_at, whole_messages}
use Rattle.cy_read_back.proofs.RowsRead.{chunk_header_at-body}
use Rattle.cy_read_back.proofs.WrittenRead.{channel_at-body, chunk_body_read, message_field-is}
use Rattle.cy_read_back.proofs.TextFits.{HasTime, join_all, chunk_header_fits}
use Rattle.cy_read_back.proofs.TextParts.{one_channel, one_header, one_body}
use Rattle.cy_read_back.proofs.TextMet.{chunk_parts, section_of_part}
use Rattle.cy_read_back.proofs.TextSections.{IsSection, placed, body_of, body_of-section}
use Rattle.cy_read_back.proofs.CutSections.{parts_within, few_within, sections-cut}

-- Their fields have the bits that they need.

channel_fits : (c : Channel) → IsSectionOfChannel c → ChannelFits c
unfolding channel_body
channel_fits c is =
    let short = simp length-append at is.short in
    record {
      name = omega (arith, short);
      message_type = omega (arith, short);
      proto_desc = omega (arith, short);
      name_is_text = is.name_is_text;
      type_is_text = is.type_is_text;
    }

message_fits : (m : BodyMessage) → IsGivenMessage m → length (message_field m) ≤ longest_section → MessageFits m
message_fits m is short =
    let whole = ap length (message_field-is m) in
    let fields = length-message_fields m.channel_name m.time m.content in
    let longer : length (message_bytes m) ≤ length (field_bytes 1 (message_bytes m)) = simp length-append (omega arith) in
    record {
      name = omega (arith, whole, fields, longer, short);
      time = is.time;
      content = omega (arith, whole, fields, longer, short);
      whole = omega (arith, whole, longer, short);
      name_is_text = is.name_is_text;
    }

messages_fit : (ms : List BodyMessage) → AllByRecursion IsGivenMessage ms → length (chunk_body ms) ≤ longest_section → AllByRecursion MessageFits ms
messages_fit [] all short = tt
messages_fit (m ∷ ms) all short =
    let parts = length-append (message_field m) (chunk_body ms) in
    (message_fits m all.0 (omega (arith, parts, short)), messages_fit ms all.1 (omega (arith, parts, short)))

have_times : (ms : List BodyMessage) → AllByRecursion IsGivenMessage ms → AllByRecursion HasTime ms
have_times [] all = tt
have_times (m ∷ ms) all = (all.0.time, have_times ms all.1)

-- What each section says, and that it has no fault of its own.

record Says (p : Part) (at : ℕ) (ms : List BodyMessage) : Type 0 where
  sound : own_fault (section_of_part at p) ≡ None
  messages : section_messages (section_of_part at p) ≡ ms

channel_says : (others : List BodyMessage) (c : Channel) (at : ℕ) → IsSectionOfChannel c → Says (channel_part others c) at []
unfolding own_fault section_messages
channel_says others c at is = record {
  sound = ap (λ (bytes : List ℕ). fault_by (channel_at (at + 16) bytes)) (body_of-section kind.Channel (channel_body c))
      ∙ ap (λ (r : Result Channel SectionError). fault_by r) (channel_at-body (at + 16) c (channel_fits c is));
  messages = refl;
}

header_says : (chunk : List BodyMessage) (at : ℕ) → IsSectionOfChunk chunk → Says (chunk_header_part chunk) at []
unfolding own_fault section_messages
header_says chunk at is = record {
  sound = ap (λ (bytes : List ℕ). fault_by (chunk_header_at (at + 16) bytes)) (body_of-section kind.ChunkHeader (chunk_header_body (chunk_header_of chunk)))
      ∙ ap (λ (r : Result ChunkHeader SectionError). fault_by r) (chunk_header_at-body (at + 16) (chunk_header_of chunk) (chunk_header_fits chunk (have_times chunk is.messages) is.short));
  messages = refl;
}

body_says : (chunk : List BodyMessage) (at : ℕ) → IsSectionOfChunk chunk → Says (chunk_body_part chunk) at chunk
unfolding own_fault section_messages
body_says chunk at is =
    let read = chunk_body_read (at + 16) chunk (messages_fit chunk is.messages is.short) in
    record {
      sound = ap (λ (bytes : List ℕ). (messages_of (fields_of (at + 16) bytes)).fault) (body_of-section kind.ChunkBody (chunk_body chunk)) ∙ read.0;
      messages = ap (λ (bytes : List ℕ). map (λ m. m.message) (messages_of (fields_of (at + 16) bytes)).messages) (body_of-section kind.ChunkBody (chunk_body chunk)) ∙ read.1;
    }

-- These sections are sound, and have these messages.
record Say (ss : List WholeSection) (ms : List BodyMessage) : Type 0 where
  sound : (fault : Option SectionError) → until_fault ss fault ≡ (let s : Sections = record { sections = ss; fault = fault } in s)
  messages : flat_map section_messages ss ≡ ms

none_say : Say [] []
none_say = record { sound = λ fault. refl; messages = refl }

one_says : (p : Part) (at : ℕ) (ss : List WholeSection) (ms rest : List BodyMessage) → Says p at ms → Say ss rest → Say (section_of_part at p ∷ ss) (ms ++ rest)
one_says p at ss ms rest one more = record {
  sound = λ fault. rw (one.sound, more.sound fault) refl;
  messages = ap (λ (l : List BodyMessage). l ++ flat_map section_messages ss) one.messages ∙ ap (λ (l : List BodyMessage). ms ++ l) more.messages;
}

-- those of chunks, of which the first stands at a place
no_chunk : (chunks : List (List BodyMessage)) (size at : ℕ) → size < at → chunks_within size at chunks ≡ []
no_chunk [] size at before = refl
no_chunk (chunk ∷ chunks) size at before =
    rw (lt-ltb size (at + length (chunk_header_part chunk).bytes + length (chunk_body_part chunk).bytes) (omega (arith, before))) refl

chunks_say : (chunks : List (List BodyMessage)) (size at : ℕ) → AllByRecursion IsSectionOfChunk chunks → Say (placed at (parts_within size at (chunk_parts chunks))) (messages_in (chunks_within size at chunks))
chunks_say [] size at are = none_say
chunks_say (chunk ∷ chunks) size at are =
    let h = chunk_header_part chunk in
    let b = chunk_body_part chunk in
    let at2 = at + length h.bytes in
    let at3 = at2 + length b.bytes in
    elim (cases_lt size at2) [
      | inl cut ↦
          let none : size < at3 = omega (arith, cut) in
          rw (lt-ltb size at2 cut, lt-ltb size at3 none) none_say
      | inr whole ↦ elim (cases_lt size at3) [
        | inl cut ↦ rw (le-ltb size at2 whole, lt-ltb size at3 cut) (one_says h at [] [] [] (header_says chunk at are.0) none_say)
        | inr both ↦
            let more = chunks_say chunks size at3 are.1 in
            rw (le-ltb size at2 whole, le-ltb size at3 both)
            (one_says h at (section_of_part at2 b ∷ placed at3 (parts_within size at3 (chunk_parts chunks))) [] (chunk ++ messages_in (chunks_within size at3 chunks)) (header_says chunk at are.0)
            (one_says b at2 (placed at3 (parts_within size at3 (chunk_parts chunks))) chunk (messages_in (chunks_within size at3 chunks)) (body_says chunk at2 are.0) more))
      ]
    ]

-- those of channels in front of them
channels_say : (cs : List Channel) (others : List BodyMessage) (chunks : List (List BodyMessage)) (size at : ℕ) → AllByRecursion IsSectionOfChannel cs → AllByRecursion IsSectionOfChunk chunks
    → Say (placed at (parts_within size at (map (channel_part others) cs ++ chunk_parts chunks))) (messages_in (chunks_within size (at + length (bytes_of (map (channel_part []) cs))) chunks))
channels_say [] others chunks size at are chunks_are =
    let here : at ≡ at + 0 = omega arith in
    subst (λ (n : ℕ). Say (placed at (parts_within size at (chunk_parts chunks))) (messages_in (chunks_within size n chunks))) here (chunks_say chunks size at chunks_are)
channels_say (c ∷ cs) others chunks size at are chunks_are =
    let p = channel_part others c in
    let next = at + length p.bytes in
    let left = length (bytes_of (map (channel_part []) cs)) in
    let end : next + left ≡ at + length (bytes_of (map (channel_part []) (c ∷ cs))) = omega (arith, length-append p.bytes (bytes_of (map (channel_part []) cs))) in
    elim (cases_lt size next) [
      | inl cut ↦
          let none : size < at + length (bytes_of (map (channel_part []) (c ∷ cs))) = omega (arith, cut, end) in
          rw (lt-ltb size next cut, no_chunk chunks size (at + length (bytes_of (map (channel_part []) (c ∷ cs)))) none) none_say
      | inr whole ↦
          let more = subst (λ (n : ℕ). Say (placed next (parts_within size next (map (channel_part others) cs ++ chunk_parts chunks))) (messages_in (chunks_within size n chunks))) end
          (channels_say cs others chunks size next are.1 chunks_are) in
          rw (le-ltb size next whole)
          (one_says p at (placed next (parts_within size next (map (channel_part others) cs ++ chunk_parts chunks))) [] (messages_in (chunks_within size (at + length (bytes_of (map (channel_part []) (c ∷ cs)))) chunks))
          (channel_says others c at are.0) more)
    ]

-- All parts are sections.

channel_sections : (others : List BodyMessage) (cs : List Channel) → AllByRecursion IsSectionOfChannel cs → AllByRecursion IsSection (map (channel_part others) cs)
channel_sections others [] are = tt
channel_sections others (c ∷ cs) are = (one_channel others c are.0.short, channel_sections others cs are.1)

chunk_sections : (chunks : List (List BodyMessage)) → AllByRecursion IsSectionOfChunk chunks → AllByRecursion IsSection (chunk_parts chunks)
chunk_sections [] are = tt
chunk_sections (chunk ∷ chunks) are = (one_header chunk, (one_body chunk are.0.short, chunk_sections chunks are.1))

-- What is salvaged of the file.

behind_header : (channels : List Channel) (chunks : List (List BodyMessage))
    → drop header_end (record_bytes channels chunks) ≡ bytes_of (parts_of channels chunks) ++ section kind.Index (index_body (entries_from header_end (parts_of channels chunks)))
unfolding record_bytes
behind_header channels chunks =
    let parts = bytes_of (parts_of channels chunks) in
    let index = section kind.Index (index_body (entries_from header_end (parts_of channels chunks))) in
    let head = header_section (complete_header channels chunks) in
    let size : length head ≡ 2064 = length-header_section (complete_header channels chunks) in
    ap (drop 2064) (append_assoc head parts index) ∙ ap (λ (n : ℕ). drop n (head ++ (parts ++ index))) (sym size) ∙ drop-append_seam head (parts ++ index)

pub whole_sections : (channels : List Channel) (chunks : List (List BodyMessage)) (file : List ℕ) → AllByRecursion IsSectionOfChannel channels → AllByRecursion IsSectionOfChunk chunks → IsFrontOf channels chunks file
    → (sections_from file header_end).sections ≡ placed header_end (parts_within (length file) header_end (parts_of channels chunks))
whole_sections channels chunks file cs_are are front =
    let parts = parts_of channels chunks in
    let all = join_all IsSection (map (channel_part (messages_in chunks)) channels) (chunk_parts chunks) (channel_sections (messages_in chunks) channels cs_are) (chunk_sections chunks are) in
    let few = few_within (length file) header_end parts front.header all in
    sections-cut (suc (length file)) parts header_end (index_body (entries_from header_end parts)) file front.header
    (front.front ∙ ap (take (length file - header_end)) (behind_header channels chunks)) all (omega (arith, few))

-- all of these are sound
pub sound_front : (channels : List Channel) (chunks : List (List BodyMessage)) (file : List ℕ) → AllByRecursion IsSectionOfChannel channels → AllByRecursion IsSectionOfChunk chunks → IsFrontOf channels chunks file
    → (sound_sections file).sections ≡ placed header_end (parts_within (length file) header_end (parts_of channels chunks))
unfolding sound_sections
sound_front channels chunks file cs_are are front =
    let say = channels_say channels (messages_in chunks) chunks (length file) header_end cs_are are in
    let fault = (sections_from file header_end).fault in
    ap (λ (ss : List WholeSection). (until_fault ss fault).sections) (whole_sections channels chunks file cs_are are front) ∙ ap (λ (s : Sections). s.sections) (say.sound fault)

pub said : (channels : List Channel) (chunks : List (List BodyMessage)) (file : List ℕ) → AllByRecursion IsSectionOfChannel channels → AllByRecursion IsSectionOfChunk chunks → IsFrontOf channels chunks file
    → flat_map section_messages (sound_sections file).sections ≡ whole_messages channels chunks file
said channels chunks file cs_are are front =
    ap (flat_map section_messages) (sound_front channels chunks file cs_are are front) ∙ (channels_say channels (messages_in chunks) chunks (length file) header_end cs_are are).messages

-- the messages that are met are those of the sound sections
met_of_salvage : (size : ℕ) (sound : Sections) (s : Salvage) → salvage_in size sound ≡ Ok s → add_sections sound.sections None nothing ≡ Ok s.met
met_of_salvage size sound s is = by (add_sections sound.sections None nothing) refl
  where
    same : (x y : Salvage) → (let r : Result Salvage LoadError = Ok x in r ≡ Ok y) → x ≡ y
    same x y h = cc

    by : (r : Result Met LoadError) → add_sections sound.sections None nothing ≡ r → add_sections sound.sections None nothing ≡ Ok s.met
    by (Ok met) e =
        let whole : Salvage = record { met = met; dropped = dropped_behind size sound } in
        let there : (let r : Result Salvage LoadError = Ok whole in r ≡ Ok s) = sym (ap (λ (r : Result Met LoadError). r >>= λ m. Ok (record { met = m; dropped = dropped_behind size sound })) e) ∙ is in
        e ∙ ap (λ (x : Salvage). let r : Result Met LoadError = Ok x.met in r) (same whole s there)
    by (Err x) e = absurd (let no : (let r : Result Salvage LoadError = Err x in r ≡ Ok s) = sym (ap (λ (r : Result Met LoadError). r >>= λ m. Ok (record { met = m; dropped = dropped_behind size sound })) e) ∙ is in cc)

pub sections_met_of : (file : List ℕ) (s : Salvage) → salvage_of file ≡ Ok s → add_sections (sound_sections file).sections None nothing ≡ Ok s.met
unfolding salvage_of
sections_met_of file s is = by (if_usable (file_header file)) refl
  where
    by : (r : Result (Unit {0}) LoadError) → if_usable (file_header file) ≡ r → add_sections (sound_sections file).sections None nothing ≡ Ok s.met
    by (Ok u) e = met_of_salvage (length file) (sound_sections file) s (sym (ap (λ (r : Result (Unit {0}) LoadError). r >>= λ usable. salvage_in (length file) (sound_sections file)) e) ∙ is)
    by (Err x) e = absurd (let no : (let r : Result Salvage LoadError = Err x in r ≡ Ok s) = sym (ap (λ (r : Result (Unit {0}) LoadError). r >>= λ usable. salvage_in (length file) (sound_sections file)) e) ∙ is in cc)

-- those that stand whole are the first ones
pub first_chunks : (chunks : List (List BodyMessage)) (size at : ℕ) → (later : List BodyMessage) × (messages_in (chunks_within size at chunks) ++ later ≡ messages_in chunks)
first_chunks [] size at = ([], refl)
first_chunks (chunk ∷ chunks) size at =
    let end = at + length (chunk_header_part chunk).bytes + length (chunk_body_part chunk).bytes in
    elim (cases_lt size end) [
      | inl cut ↦ (messages_in (chunk ∷ chunks), rw (lt-ltb size end cut) refl)
      | inr whole ↦
          let more = first_chunks chunks size end in
          (more.0, rw (le-ltb size end whole) (append_assoc chunk (messages_in (chunks_within size end chunks)) more.0 ∙ ap (λ (l : List BodyMessage). chunk ++ l) more.1))
    ]

pub front_salvaged : (channels : List Channel) (chunks : List (List BodyMessage)) (file : List ℕ) (s : Salvage) → AllByRecursion IsSectionOfChannel channels → AllByRecursion IsSectionOfChunk chunks
    → IsFrontOf channels chunks file → salvage_of file ≡ Ok s → IsSalvagedWhole channels chunks file s
front_salvaged channels chunks file s cs_are are front is =
    let told = told_as_said (sound_sections file).sections s.met (sections_met_of file s is) in
    let whole = told.messages ∙ said channels chunks file cs_are are front in
    let more = first_chunks chunks (length file) (chunks_at channels) in
    record {
      whole = whole;
      later = more.0;
      front = ap (λ (l : List BodyMessage). l ++ more.0) whole ∙ more.1;
    }
