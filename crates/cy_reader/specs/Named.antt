-- The channels of a record by their names.
use Rattle.std.specs.Prelude.{ℕ, List, [], map, slice_index_or, Option, Some, None}
use Rattle.std.specs.List.{find}
use Rattle.std.specs.Str.{bytes_eq}
use Rattle.cy_section.specs.declared.types.BodyMessage.{BodyMessage}
use Rattle.cy_section.specs.declared.types.Channel.{Channel}
use Rattle.cy_reader.specs.declared.known.Known.{Known}
use Rattle.cy_reader.specs.Record.{Met, Message, Contents, named_only}

-- A channel of a name, type and description.
abbrev pub channel_made : (name message_type proto_desc : List ℕ) → Channel
channel_made name message_type proto_desc =
    record { name = name; message_type = message_type; proto_desc = proto_desc }

-- A channel has the type and description that the record which was read has for its name. Where
-- that has no such channel, they are empty.
abbrev pub as_read : List ℕ → Option Known → Channel
as_read name (Some known) = channel_made name known.channel.message_type known.channel.proto_desc
as_read name None = channel_made name [] []

abbrev pub known_as : List ℕ → List Known → Option Known
known_as name channels = find (λ known. bytes_eq known.channel.name name) channels

-- The name of the channel of a number, and a message with the name of its channel.
abbrev pub name_in : List Known → ℕ → List ℕ
name_in channels number = (slice_index_or channels number (named_only [])).channel.name

abbrev pub with_name : List Known → Message → BodyMessage
with_name channels m =
    record { channel_name = name_in channels m.channel; time = m.time; content = m.content }

-- The messages that were met, in file order, each with the name of its channel.
abbrev pub named_messages : Met → List BodyMessage
named_messages met = map (with_name met.channels) met.messages

-- The message at a place among those of a record.
abbrev pub message_at : Contents → ℕ → Message
message_at whole place = slice_index_or whole.messages place
    (record { channel = 0; time = 0; content = [] })
