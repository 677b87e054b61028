-- Which messages of a record are kept, and what is written of them.
use Rattle.std.specs.Prelude.{ℕ, Bool, ◌&&◌, List, [], map, filter, slice_index_or}
use Rattle.cy_store.specs.Write.{Write}
use Rattle.cy_msg.specs.declared.filter.Filter.{Filter}
use Rattle.cy_msg.specs.Filter.{lets_channel, lets_time}
use Rattle.cy_section.specs.declared.types.Channel.{Channel}
use Rattle.cy_section.specs.declared.types.BodyMessage.{BodyMessage}
use Rattle.cy_section.specs.RecordText.{IsRecordText, record_bytes}
use Rattle.cy_reader.specs.declared.known.Known.{Known}
use Rattle.cy_reader.specs.Record.{Met, Message, named_only}
use Rattle.cy_reader.specs.Named.{name_in, with_name}
use Rattle.cy_writer.specs.Order.{numbers_after}
use Rattle.cy_writer.specs.RecordWrites.{file_writes, record_puts, chunks_given}

-- A filter lets a message through: its channel, by the name, and its time.
abbrev pub lets : Filter → List Known → Message → Bool
lets f channels m = lets_channel f (name_in channels m.channel) && lets_time f m.time

-- The messages that it lets through, in file order.
abbrev pub passing : Filter → Met → List Message
passing f met = filter (lets f met.channels) met.messages

-- The channel of a number.
abbrev pub channel_at : List Known → ℕ → Channel
channel_at channels number = (slice_index_or channels number (named_only [])).channel

-- The numbers of the channels of messages, each once, in the order of the first messages.
abbrev pub numbers_of : List Message → List ℕ
numbers_of kept = numbers_after [] (map (λ (m : Message). m.channel) kept)

-- What is written of messages that are kept: the channels that have one of them, in the order of
-- their first messages; and the messages, each with the name of its channel.
abbrev pub channels_with : Met → List Message → List Channel
channels_with met kept = map (channel_at met.channels) (numbers_of kept)

abbrev pub messages_with : Met → List Message → List BodyMessage
messages_with met kept = map (with_name met.channels) kept

-- The chunks in which they are written, in the file of a name, and the writes of their record.
abbrev pub chunks_with : List ℕ → Met → List Message → List (List BodyMessage)
chunks_with name met kept =
    chunks_given name (channels_with met kept) (messages_with met kept)

abbrev pub kept_writes : List ℕ → Met → List Message → List Write
kept_writes name met kept =
    file_writes name (record_puts (channels_with met kept) (chunks_with name met kept))

-- What is written then is the record text of these messages.
abbrev pub IsKeptText : List ℕ → Met → List Message → Type 0
IsKeptText name met kept = IsRecordText (channels_with met kept) (messages_with met kept)
    (record_bytes (channels_with met kept) (chunks_with name met kept))
