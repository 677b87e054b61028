-- The channels and messages of a record text's sections are met in their order.
use Rattle.std.proofs.Common.{◌≡◌, ℕ, suc, ◌+◌, ◌≤◌, List, [], ◌∷◌, ◌++◌, length, map, refl, sym, ap, ◌∙◌, subst, arith, append_assoc, append-nil, length-append, true, false, Option, None, Result, Ok}
use Rattle.std.specs.Prelude.{sum_by}
use Rattle.std.specs.List.{AllByRecursion, flat_map}
use Rattle.std.proofs.lemmas.Bool.{le-ltb}
use Rattle.std.proofs.lemmas.List.{map-append}
use Rattle.std.proofs.lemmas.List.Sums.{sum_by-append}
use Rattle.cy_wire.specs.Field.{fields_of}
use Rattle.cy_section.specs.declared.error.SectionError.{SectionError}
use Rattle.cy_section.specs.declared.types.BodyMessage.{BodyMessage}
use Rattle.cy_section.specs.declared.types.Channel.{Channel}
use Rattle.cy_section.specs.declared.types.ChunkHeader.{ChunkHeader}
use Rattle.cy_section.specs.declared.types.SectionKind.TheVariants as kind
use Rattle.cy_section.specs.Section.{channel_body, chunk_header_body, chunk_body}
use Rattle.cy_section.specs.Chunks.{messages_in}
use Rattle.cy_section.specs.RecordText.{Part, bytes_of, parts_of, channel_part, chunk_header_part, chunk_body_part, chunk_header_of}
use Rattle.cy_section.specs.Reading.{PlacedMessage, chunk_header_at, channel_at, messages_of}
use Rattle.cy_read_back.specs.Sections.{ChannelFits, ChunkHeaderFits, MessageFits}
use Rattle.cy_read_back.proofs.RowsRead.{chunk_header_at-body}
use Rattle.cy_read_back.proofs.WrittenRead.{channel_at-body, chunk_body_read}
use Rattle.cy_reader.specs.declared.error.LoadError.{LoadError}
use Rattle.cy_cut.specs.Sections.{WholeSection}
use Rattle.cy_reader.specs.Record.{◌>>=◌, Met, Message, nothing, of_section, size_of, within_limits, with_section, channel_given, channel_met, name_mentioned, add_message, messages_met, add_body, add_section, add_sections, longest_name, longest_content, most_channels, largest_channels}
use Rattle.cy_read_back.specs.Records.{IsReadableChannel, message_on}
use Rattle.cy_reader.proofs.Meeting.{channel_section}
use Rattle.cy_read_back.proofs.TextNames.{AreNew, is_name, number_of-new, number_of-name}
use Rattle.cy_read_back.proofs.TextSections.{kind_at, body_of, placed, body_of-section}

-- channels, and messages that were met with them
abbrev pub met_with : List Channel → List Message → Met
met_with channels messages = record { channels = map with_section channels; messages = messages }

-- channels within the limits of all
pub record AreFront (front back all : List Channel) : Type 0 where
  pub whole : front ++ back ≡ all
  pub few : length all ≤ most_channels
  pub small : sum_by size_of (map with_section all) ≤ largest_channels

front_small : (front back all : List Channel) → AreFront front back all → within_limits (map with_section front) ≡ Ok (map with_section front)
front_small front back all are =
    let parts : map with_section all ≡ map with_section front ++ map with_section back = ap (map with_section) (sym are.whole) ∙ map-append with_section front back in
    let few : length (map with_section front) ≤ most_channels = omega (arith, ap length are.whole, length-append front back, are.few, ap length parts, length-append (map with_section front) (map with_section back), length-map-known front, length-map-known back) in
    let small : sum_by size_of (map with_section front) ≤ largest_channels =
    omega (arith, ap (sum_by size_of) parts, sum_by-append size_of (map with_section front) (map with_section back), are.small) in
    rw (le-ltb most_channels (length (map with_section front)) few, le-ltb largest_channels (sum_by size_of (map with_section front)) small) refl
  where
    length-map-known : (cs : List Channel) → length (map with_section cs) ≡ length cs
    length-map-known [] = refl
    length-map-known (c ∷ cs) = ap suc (length-map-known cs)

-- a channel of a new name
channel_new : (front back all : List Channel) (c : Channel) → AreFront (front ++ c ∷ []) back all → length c.name ≤ longest_name → is_name c.name front ≡ false
    → channel_given c (map with_section front) ≡ Ok (map with_section (front ++ c ∷ []))
unfolding channel_given
channel_new front back all c are short new =
    rw (le-ltb longest_name (length c.name) short, number_of-new c.name front new, sym (map-append with_section front (c ∷ []))) (front_small (front ++ c ∷ []) back all are)

channel_more : (front back all : List Channel) (c : Channel) (messages : List Message) → AreFront (front ++ c ∷ []) back all → length c.name ≤ longest_name → is_name c.name front ≡ false
    → channel_met c (met_with front messages) ≡ Ok (met_with (front ++ c ∷ []) messages)
unfolding channel_met
channel_more front back all c messages are short new = rw (channel_new front back all c are short new) refl

-- the section of a part
abbrev pub section_of_part : ℕ → Part → WholeSection
section_of_part at p = record { kind = kind_at at p; body_at = at + 16; body = body_of p }

channel_step : (at : ℕ) (c : Channel) (ms : List BodyMessage) (now : Met) → ChannelFits c → add_section (section_of_part at (channel_part ms c)) now ≡ channel_met c now
channel_step at c ms now fits =
    channel_section (section_of_part at (channel_part ms c)) c now refl (ap (channel_at (at + 16)) (body_of-section kind.Channel (channel_body c)) ∙ channel_at-body (at + 16) c fits)

-- all channels, in front of other sections
pub channels_meet : (cs front all : List Channel) (ms : List BodyMessage) (at : ℕ) (rest : List Part) (messages : List Message) → AreNew (map (λ c. c.name) front) (map (λ c. c.name) cs)
    → AllByRecursion IsReadableChannel cs → AllByRecursion ChannelFits cs → AreFront front cs all
    → add_sections (placed at (map (channel_part ms) cs ++ rest)) None (met_with front messages)
    ≡ add_sections (placed (at + length (bytes_of (map (channel_part ms) cs))) rest) None (met_with all messages)
channels_meet [] front all ms at rest messages new are fits limits =
    let here : at ≡ at + 0 = omega arith in
    let same : front ≡ all = sym (append-nil front) ∙ limits.whole in
    ap (λ (n : ℕ). add_sections (placed n rest) None (met_with front messages)) here
    ∙ ap (λ (l : List Channel). add_sections (placed (at + 0) rest) None (met_with l messages)) same
channels_meet (c ∷ cs) front all ms at rest messages new are fits limits =
    let p = channel_part ms c in
    let more : AreFront (front ++ c ∷ []) cs all = record { whole = append_assoc front (c ∷ []) cs ∙ limits.whole; few = limits.few; small = limits.small } in
    let names : map (λ (c : Channel). c.name) front ++ c.name ∷ [] ≡ map (λ (c : Channel). c.name) (front ++ c ∷ []) = sym (map-append (λ (c : Channel). c.name) front (c ∷ [])) in
    let one = channel_step at c ms (met_with front messages) fits.0 ∙ channel_more front cs all c messages more are.0.short new.0 in
    let later = placed (at + length p.bytes) (map (channel_part ms) cs ++ rest) in
    let next : at + length p.bytes + length (bytes_of (map (channel_part ms) cs)) ≡ at + length (p.bytes ++ bytes_of (map (channel_part ms) cs)) =
    omega (arith, length-append p.bytes (bytes_of (map (channel_part ms) cs))) in
    ap (λ (r : Result Met LoadError). r >>= add_sections later None) one
    ∙ channels_meet cs (front ++ c ∷ []) all ms (at + length p.bytes) rest messages (subst (λ (names : List (List ℕ)). AreNew names (map (λ (c : Channel). c.name) cs)) names new.1) are.1 fits.1 more
    ∙ ap (λ (n : ℕ). add_sections (placed n rest) None (met_with all messages)) next

-- a message on one of the channels, within the limits
pub record IsOn (channels : List Channel) (m : BodyMessage) : Type 0 where
  pub known : is_name m.channel_name channels ≡ true
  pub short : length m.channel_name ≤ longest_name
  pub small : length m.content ≤ longest_content
  pub fits : MessageFits m

known_name : (name : List ℕ) (channels : List Channel) → is_name name channels ≡ true → length name ≤ longest_name
    → name_mentioned name (map with_section channels) ≡ Ok (map with_section channels)
unfolding name_mentioned
known_name name channels known short =
    let number = number_of-name name channels known in
    rw (le-ltb longest_name (length name) short, number.1) refl

message_more : (m : PlacedMessage) (channels : List Channel) (done : List Message) → IsOn channels m.message
    → add_message m (met_with channels done) ≡ Ok (met_with channels (done ++ message_on channels m.message ∷ []))
unfolding add_message
message_more m channels done on =
    rw (known_name m.message.channel_name channels on.known on.short, le-ltb longest_content (length m.message.content) on.small) refl

-- all messages of a body
messages_more : (pms : List PlacedMessage) (channels : List Channel) (done : List Message) → AllByRecursion (IsOn channels) (map (λ m. m.message) pms)
    → messages_met pms (met_with channels done) ≡ Ok (met_with channels (done ++ map (message_on channels) (map (λ m. m.message) pms)))
messages_more [] channels done on = ap (λ (l : List Message). Ok (met_with channels l)) (sym (append-nil done))
messages_more (m ∷ pms) channels done on =
    let one = message_on channels m.message in
    ap (λ (r : Result Met LoadError). r >>= messages_met pms) (message_more m channels done on.0)
    ∙ messages_more pms channels (done ++ one ∷ []) on.1
    ∙ ap (λ (l : List Message). Ok (met_with channels l)) (append_assoc done (one ∷ []) (map (message_on channels) (map (λ m. m.message) pms)))

all_fit : (channels : List Channel) (ms : List BodyMessage) → AllByRecursion (IsOn channels) ms → AllByRecursion MessageFits ms
all_fit channels [] on = tt
all_fit channels (m ∷ ms) on = (on.0.fits, all_fit channels ms on.1)

body_more : (at : ℕ) (chunk : List BodyMessage) (channels : List Channel) (done : List Message) → AllByRecursion (IsOn channels) chunk
    → add_section (section_of_part at (chunk_body_part chunk)) (met_with channels done) ≡ Ok (met_with channels (done ++ map (message_on channels) chunk))
unfolding add_section
body_more at chunk channels done on =
    let all = messages_of (fields_of (at + 16) (chunk_body chunk)) in
    let read = chunk_body_read (at + 16) chunk (all_fit channels chunk on) in
    let here : AllByRecursion (IsOn channels) (map (λ (m : PlacedMessage). m.message) all.messages) = subst (λ (ms : List BodyMessage). AllByRecursion (IsOn channels) ms) (sym read.1) on in
    ap (λ (bytes : List ℕ). let m = messages_of (fields_of (at + 16) bytes) in add_body m.fault m.messages (met_with channels done)) (body_of-section kind.ChunkBody (chunk_body chunk))
    ∙ ap (λ (o : Option SectionError). add_body o all.messages (met_with channels done)) read.0
    ∙ messages_more all.messages channels done here
    ∙ ap (λ (ms : List BodyMessage). Ok (met_with channels (done ++ map (message_on channels) ms))) read.1

-- a chunk's header says nothing
header_more : (at : ℕ) (chunk : List BodyMessage) (now : Met) → ChunkHeaderFits (chunk_header_of chunk) → add_section (section_of_part at (chunk_header_part chunk)) now ≡ Ok now
unfolding add_section
header_more at chunk now fits =
    let h = chunk_header_of chunk in
    ap (λ (bytes : List ℕ). of_section (chunk_header_at (at + 16) bytes) >>= λ _. Ok now) (body_of-section kind.ChunkHeader (chunk_header_body h))
    ∙ ap (λ (r : Result ChunkHeader SectionError). of_section r >>= λ _. Ok now) (chunk_header_at-body (at + 16) h fits)

-- all chunks
pub record IsChunkOn (channels : List Channel) (chunk : List BodyMessage) : Type 0 where
  pub header : ChunkHeaderFits (chunk_header_of chunk)
  pub messages : AllByRecursion (IsOn channels) chunk

abbrev pub chunk_parts : List (List BodyMessage) → List Part
chunk_parts chunks = flat_map (λ chunk. chunk_header_part chunk ∷ chunk_body_part chunk ∷ []) chunks

chunks_meet : (chunks : List (List BodyMessage)) (channels : List Channel) (at : ℕ) (done : List Message) → AllByRecursion (IsChunkOn channels) chunks
    → add_sections (placed at (chunk_parts chunks)) None (met_with channels done) ≡ Ok (met_with channels (done ++ map (message_on channels) (messages_in chunks)))
chunks_meet [] channels at done on = ap (λ (l : List Message). Ok (met_with channels l)) (sym (append-nil done))
chunks_meet (chunk ∷ chunks) channels at done on =
    let h = chunk_header_part chunk in
    let b = chunk_body_part chunk in
    let at2 = at + length h.bytes in
    let at3 = at2 + length b.bytes in
    let now = met_with channels done in
    let read = map (message_on channels) chunk in
    let later = placed at3 (chunk_parts chunks) in
    ap (λ (r : Result Met LoadError). r >>= add_sections (section_of_part at2 b ∷ later) None) (header_more at chunk now on.0.header)
    ∙ ap (λ (r : Result Met LoadError). r >>= add_sections later None) (body_more at2 chunk channels done on.0.messages)
    ∙ chunks_meet chunks channels at3 (done ++ read) on.1
    ∙ ap (λ (l : List Message). Ok (met_with channels l)) (append_assoc done read (map (message_on channels) (messages_in chunks))
    ∙ ap (λ (l : List Message). done ++ l) (sym (map-append (message_on channels) chunk (messages_in chunks))))

-- all sections
pub text_meets : (channels : List Channel) (chunks : List (List BodyMessage)) (at : ℕ) → AreNew [] (map (λ c. c.name) channels) → AllByRecursion IsReadableChannel channels
    → AllByRecursion ChannelFits channels → length channels ≤ most_channels → sum_by size_of (map with_section channels) ≤ largest_channels → AllByRecursion (IsChunkOn channels) chunks
    → add_sections (placed at (parts_of channels chunks)) None nothing ≡ Ok (met_with channels (map (message_on channels) (messages_in chunks)))
text_meets channels chunks at new are fits few small on =
    channels_meet channels [] channels (messages_in chunks) at (chunk_parts chunks) [] new are fits (record { whole = refl; few = few; small = small })
    ∙ chunks_meet chunks channels (at + length (bytes_of (map (channel_part (messages_in chunks)) channels))) [] on
