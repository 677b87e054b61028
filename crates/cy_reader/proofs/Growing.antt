-- No more messages are met than bytes are read.
use Rattle.std.proofs.Common.{◌≡◌, ◌≤◌, ◌+◌, ℕ, zero, suc, List, [], ◌∷◌, ◌++◌, length, drop, refl, ap, arith, length-append, Option, Some, None, Result, Ok, Err, Bool, true, false, if◌then◌else◌, nat_lt}
use Rattle.std.specs.List.{cons_option}
use Rattle.std.proofs.lemmas.List.{length-map}
use Rattle.cy_wire.specs.declared.error.WireError.{WireError}
use Rattle.cy_wire.specs.Field.{WireField, field_at, fields_in, fields_of, and_those_behind}
use Rattle.cy_wire.specs.Message.{WireSpan, span_in, spans_of}
use Rattle.cy_section.specs.declared.error.SectionError.{SectionError}
use Rattle.cy_section.specs.declared.types.Channel.{Channel}
use Rattle.cy_section.specs.declared.types.SectionKind.{SectionKind}
use Rattle.cy_section.specs.declared.types.SectionKind.TheVariants as kind
use Rattle.cy_section.specs.Reading as section
use Rattle.cy_section.specs.Reading.{PlacedMessage, message_at, messages_in, messages_of, channel_at, chunk_header_at}
use Rattle.cy_cut.specs.declared.cutting.Part.{Part}
use Rattle.cy_reader.specs.declared.decoding.Alone.{Alone}
use Rattle.cy_reader.specs.declared.error.LoadError.{LoadError}
use Rattle.cy_reader.specs.declared.error.LoadError.TheVariants.{ContentTooLarge}
use Rattle.cy_reader.specs.declared.known.Known.{Known}
use Rattle.cy_reader.specs.declared.loading.Loading.{Loading}
use Rattle.cy_reader.specs.Record as meaning
use Rattle.cy_reader.specs.Record.{◌>>=◌, Met, of_section, name_mentioned, channel_given, channel_met, content_fits, numbered, add_message, messages_met, add_body, section_of, add_section, longest_content, nothing}
use Rattle.cy_cut.specs.Sections.{WholeSection}
use Rattle.cy_reader.specs.private.Alone.{IsAlone}
use Rattle.cy_reader.specs.private.Loading.{message_of, met_of}

-- bytes have no more fields, nor a body more messages
fields_few : (more at : ℕ) (bytes : List ℕ) → length (fields_in more at bytes).fields ≤ more
unfolding fields_in
fields_few more at [] = omega arith
fields_few zero at (b ∷ bytes) = omega arith
fields_few (suc more) at (b ∷ bytes) = over (field_at at (b ∷ bytes)) (λ taken. fields_few more (at + taken) (drop taken (b ∷ bytes)))
  where
    over : (r : Result (WireField × ℕ) WireError) → ((taken : ℕ) → length (fields_in more (at + taken) (drop taken (b ∷ bytes))).fields ≤ more)
        → length (and_those_behind r (λ taken. fields_in more (at + taken) (drop taken (b ∷ bytes)))).fields ≤ suc more
    over (Ok field) rest = omega (arith, rest field.1)
    over (Err e) rest = omega arith

spans_few : (fields : List WireField) → length (spans_of 1 fields) ≤ length fields
spans_few [] = omega arith
spans_few (field ∷ fields) = over (span_in 1 field) (spans_few fields)
  where
    over : (o : Option WireSpan) → length (spans_of 1 fields) ≤ length fields → length (cons_option o (spans_of 1 fields)) ≤ length (field ∷ fields)
    over (Some span) rest = omega (arith, rest)
    over None rest = omega (arith, rest)

read_few : (fault : Option WireError) (spans : List WireSpan) → length (messages_in fault spans).messages ≤ length spans
read_few fault [] = omega arith
read_few fault (span ∷ spans) = over (message_at span) (read_few fault spans)
  where
    over : (r : Result PlacedMessage SectionError) → length (messages_in fault spans).messages ≤ length spans → length (section.and_those_behind r (messages_in fault spans)).messages ≤ length (span ∷ spans)
    over (Ok message) rest = omega (arith, rest)
    over (Err e) rest = omega arith

pub messages_few : (at : ℕ) (body : List ℕ) → length (messages_of (fields_of at body)).messages ≤ length body
unfolding messages_of fields_of
messages_few at body =
    let all = fields_in (length body) at body in
    omega (arith, read_few all.fault (spans_of 1 all.fields), spans_few all.fields, fields_few (length body) at body)

abbrev with_messages : List Known → List meaning.Message → Met
with_messages channels messages = record { channels = channels; messages = messages }

-- what was met has a message more for each
abbrev count : Result Met LoadError → ℕ
count (Ok met) = length met.messages
count (Err e) = 0

pub message_grown : (m : PlacedMessage) (c d : Met) → add_message m c ≡ Ok d → length d.messages ≡ length c.messages + 1
unfolding add_message
message_grown m c d = over (name_mentioned m.message.channel_name c.channels)
  where
    fits : (b : Bool) (channels : List Known) (e : LoadError) → (if b then Err e else Ok (with_messages channels (c.messages ++ numbered m channels ∷ []))) ≡ Ok d
        → length d.messages ≡ length c.messages + 1
    fits true channels e is = absurd cc
    fits false channels e is = omega (arith, ap count is, length-append c.messages (numbered m channels ∷ []))

    over : (r : Result (List Known) LoadError)
        → (r >>= λ channels. content_fits m.message.content (Ok (with_messages channels (c.messages ++ numbered m channels ∷ [])))) ≡ Ok d → length d.messages ≡ length c.messages + 1
    over (Ok channels) is = fits (nat_lt longest_content (length m.message.content)) channels (ContentTooLarge (length m.message.content)) is
    over (Err e) is = absurd cc

pub messages_grown : (ms : List PlacedMessage) (c d : Met) → messages_met ms c ≡ Ok d → length d.messages ≡ length c.messages + length ms
messages_grown [] c d is = omega (arith, ap count is)
messages_grown (m ∷ ms) c d is = over (add_message m c) refl is (λ mid rest. messages_grown ms mid d rest)
  where
    over : (r : Result Met LoadError) → add_message m c ≡ r → r >>= messages_met ms ≡ Ok d
        → ((mid : Met) → messages_met ms mid ≡ Ok d → length d.messages ≡ length mid.messages + length ms) → length d.messages ≡ length c.messages + length (m ∷ ms)
    over (Ok mid) one left rest = omega (arith, message_grown m c mid one, rest mid left)
    over (Err e) one left rest = absurd cc

body_grown : (fault : Option SectionError) (ms : List PlacedMessage) (c d : Met) → add_body fault ms c ≡ Ok d → length d.messages ≡ length c.messages + length ms
body_grown None ms c d is = messages_grown ms c d is
body_grown (Some fault) ms c d is = absurd cc

-- and a section no more than its body has bytes
pub section_grown : (s : WholeSection) (c d : Met) → add_section s c ≡ Ok d → length d.messages ≤ length c.messages + length s.body
unfolding add_section channel_met
section_grown s c d = by_kind s.kind
  where
    given : (channel : Channel) (r : Result (List Known) LoadError) → (r >>= λ channels. Ok (with_messages channels c.messages)) ≡ Ok d → length d.messages ≤ length c.messages + length s.body
    given channel (Ok channels) is = omega (arith, ap count is)
    given channel (Err e) is = absurd cc

    read : (r : Result Channel SectionError) → (of_section r >>= λ channel. channel_met channel c) ≡ Ok d → length d.messages ≤ length c.messages + length s.body
    read (Ok channel) is = given channel (channel_given channel c.channels) is
    read (Err e) is = absurd cc

    header : {A : Type 0} (r : Result A SectionError) → (of_section r >>= λ _. Ok c) ≡ Ok d → length d.messages ≤ length c.messages + length s.body
    header (Ok h) is = omega (arith, ap count is)
    header (Err e) is = absurd cc

    by_kind : (k : SectionKind) → section_of k s.body_at s.body c ≡ Ok d → length d.messages ≤ length c.messages + length s.body
    by_kind kind.ChunkHeader is = header (chunk_header_at s.body_at s.body) is
    by_kind kind.ChunkBody is =
        let all = messages_of (fields_of s.body_at s.body) in
        omega (arith, body_grown all.fault all.messages c d is, messages_few s.body_at s.body)
    by_kind kind.Channel is = read (channel_at s.body_at s.body) is
    by_kind kind.Header is = omega (arith, ap count is)
    by_kind kind.Index is = omega (arith, ap count is)

-- the same of what is kept
pub kept_grown : (s : WholeSection) (before after : List (List ℕ)) (old new : Loading) → add_section s (met_of before old) ≡ Ok (met_of after new) → length new.messages.items ≤ length old.messages.items + length s.body
kept_grown s before after old new is =
    omega (arith, section_grown s (met_of before old) (met_of after new) is, length-map old.messages.items (message_of before), length-map new.messages.items (message_of after))

-- .. of one that was met by itself
pub alone_few : (p : Part) (a : Alone) → IsAlone p a → length a.messages.items ≤ length p.body
alone_few p a is =
    let all = messages_of (fields_of p.body_at p.body) in
    omega (arith, body_grown all.fault all.messages nothing _ is.met, messages_few p.body_at p.body, length-map a.messages.items (message_of (p.body ∷ [])))

-- .. and of one more message behind some
pub kept_more : (front : List PlacedMessage) (bodies : List (List ℕ)) (old now : Loading) → messages_met front (met_of bodies old) ≡ Ok (met_of bodies now) → length now.messages.items ≡ length old.messages.items + length front
kept_more front bodies old now is =
    omega (arith, messages_grown front (met_of bodies old) (met_of bodies now) is, length-map old.messages.items (message_of bodies), length-map now.messages.items (message_of bodies))
