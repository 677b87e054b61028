-- The record that is written of a tape: its channels and its messages.
use Rattle.std.specs.Prelude.{ℕ, ℤ, ◌-◌, ◌/◌, ◌%◌, ◌≡◌, ◌<◌, ◌==◌, ◌&&◌, nat_lt, if◌then◌else◌}
use Rattle.std.specs.Prelude.{Bool, true, false, List, [], length, map, Option, Some, None}
use Rattle.std.specs.Prelude.{is_some, unwrap_or, option_map, slice_get}
use Rattle.std.specs.List.{find, list_any}
use Rattle.cy_msg.specs.declared.token.Token.{Token}
use Rattle.cy_msg.specs.Names.{channel_name}
use Rattle.cy_msg.specs.Tokens.{most_played}
use Rattle.cy_wire.specs.Wire.{whole_content}
use Rattle.cy_section.specs.declared.types.Channel.{Channel}
use Rattle.cy_section.specs.declared.types.BodyMessage.{BodyMessage}
use Rattle.cy_reader.specs.declared.known.Known.{Known}
use Rattle.cy_reader.specs.Record.{Contents}
use Rattle.cy_reader.specs.Named.{channel_made, as_read, known_as, message_at}
use Rattle.cy_comp.specs.declared.answers.Answer.{Answer}
use Rattle.cy_comp.specs.declared.kind.Kind.{Kind}
use Rattle.cy_comp.specs.declared.kind.Kind.TheVariants.{External}
use Rattle.cy_comp.specs.declared.plan.Plan.{Plan}
use Rattle.cy_recording.specs.declared.played.Played.{Played}
use Rattle.cy_writer.specs.Order.{numbers_after}
use Rattle.cy_writer.specs.RecordWrites.{chunks_given}

-- What the record of a tape is written from: the record that was read, the names of the channels
-- and the components over them, and the places of the played messages in the record that was read.
pub record Source : Type 0 where
  pub whole : Contents
  pub names : List (List ℕ)
  pub plans : List Plan
  pub places : List ℕ

abbrev pub source_of : Played → Source
source_of p = record {
  whole = p.whole.now;
  names = p.wiring.now.names;
  plans = p.wiring.now.plans;
  places = p.list.now.places;
}

-- Whether ticks stand on the channel of a number: a component with an interval reads it.
abbrev pub has_ticks : List Plan → ℕ → Bool
has_ticks plans number = list_any
    (λ plan. is_some plan.interval && list_any (λ reader. reader == number) plan.readers) plans

-- One that a component writes has the type of that component's messages and its description, one of
-- ticks has neither, and any other has what it has in the record that was read.
abbrev pub as_written : List ℕ → List Known → Bool → Option Plan → Channel
as_written name channels ticks (Some plan) =
    channel_made name plan.options.out_type plan.options.description
as_written name channels true None = channel_made name [] []
as_written name channels false None = as_read name (known_as name channels)

-- The channel of a number, as it is written.
abbrev pub channel_of : Source → ℕ → Channel
channel_of s number = as_written (channel_name s.names number) s.whole.channels
    (has_ticks s.plans number) (find (λ plan. plan.out == number) s.plans)

-- The numbers of the channels that have a message on a tape, in the order of their first messages.
abbrev pub numbers_on : List Token → List ℕ
numbers_on tape = numbers_after [] (map (λ (t : Token). t.channel) tape)

-- The channels of the record of a tape: those that have a message on it.
abbrev pub channels_of_tape : Source → List Token → List Channel
channels_of_tape s tape = map (channel_of s) (numbers_on tape)

-- The contents of the played messages, in the order in which they are played.
abbrev pub played_contents : Source → List (List ℕ)
played_contents s = map (λ place. (message_at s.whole place).content) s.places

-- The content of the answer at a place among those that a class has from a file; empty where there
-- is none.
abbrev pub content_in : Kind → ℕ → List ℕ
content_in (External answers) place =
    unwrap_or (option_map (λ (a : Answer). a.content) (slice_get answers place)) []
content_in _ place = []

-- The content of the answer that an origin is of. The answers of component c, counted from 0, have
-- the origins from (c + 1) * most_played on, in their order.
abbrev pub answer_content : List Plan → ℕ → List ℕ
answer_content plans origin =
    unwrap_or (option_map (λ (p : Plan). content_in p.kind (origin % most_played))
    (slice_get plans (origin / most_played - 1))) []

-- The content of the played message or the answer that an origin is of.
abbrev pub content_from : List (List ℕ) → List Plan → ℕ → List ℕ
content_from contents plans origin =
    if nat_lt origin most_played then unwrap_or (slice_get contents origin) []
    else answer_content plans origin

-- The content of a message: that of the played message or the answer which it comes from, or the
-- written form of its value.
abbrev pub content_by : List (List ℕ) → List Plan → Option ℕ → Option ℤ → List ℕ
content_by contents plans (Some origin) whole = content_from contents plans origin
content_by contents plans None (Some value) = whole_content value
content_by contents plans None None = []

abbrev pub content_of : Source → Token → List ℕ
content_of s t = content_by (played_contents s) s.plans t.origin t.whole

-- A message of a tape, as it is written.
abbrev pub message_of : Source → Token → BodyMessage
message_of s t = record {
  channel_name = channel_name s.names t.channel;
  time = t.time;
  content = content_of s t;
}

abbrev pub messages_of_tape : Source → List Token → List BodyMessage
messages_of_tape s tape = map (message_of s) tape

-- The chunks in which they are written, in the file of a name.
abbrev pub chunks_of_tape : List ℕ → Source → List Token → List (List BodyMessage)
chunks_of_tape name s tape =
    chunks_given name (channels_of_tape s tape) (messages_of_tape s tape)

-- What a tape needs so that its record can be written: each message stands on a channel that has a
-- name; each origin below `most_played` is one of a played message; and each place is one of the
-- record that was read. Origins from `most_played` on are those of answers, and need nothing: where
-- there is no such answer, the content is empty.
pub record IsWritable (s : Source) (tape : List Token) : Type 0 where
  pub channels : (n : ℕ) (t : Token) → slice_get tape n ≡ Some t → t.channel < length s.names
  pub origins : (n o : ℕ) (t : Token) → slice_get tape n ≡ Some t → t.origin ≡ Some o
      → o < most_played → o < length s.places
  pub places : (n place : ℕ) → slice_get s.places n ≡ Some place → place < length s.whole.messages
