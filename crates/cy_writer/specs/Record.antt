-- A whole record, written by one call.
use Rattle.std.specs.Prelude.{ℕ, ◌≡◌, ◌<◌, List, [], length, map, Some, slice_get, Result}
use Rattle.std.specs.Prelude.{IsErrOf, unwrap_or}
use Rattle.cy_store.specs.Store.{StoreView, HasWriteCauses}
use Rattle.cy_section.specs.declared.types.BodyMessage.{BodyMessage}
use Rattle.cy_section.specs.declared.types.Channel.{Channel}
use Rattle.cy_writer.specs.Writes.{Makes}
use Rattle.cy_writer.specs.Given.{message_on}
use Rattle.cy_writer.specs.Messages.{Message}
use Rattle.cy_writer.specs.RecordWrites.{file_writes, record_puts, chunks_given}
use Rattle.cy_writer.specs.declared.error.WriteError.{WriteError}
use Rattle.cy_writer.specs.declared.error.WriteError.TheVariants as write_error
use Rattle.cy_writer.specs.declared.record.ChannelRef.{ChannelRef}

-- Channels by their parts.
abbrev pub channel_shown : ChannelRef → Channel
channel_shown c =
    record { name = c.name.now; message_type = c.message_type.now; proto_desc = c.proto_desc.now }

abbrev pub channels_shown : List ChannelRef → List Channel
channels_shown channels = map channel_shown channels

-- The channel of a number.
abbrev pub numbered : List Channel → ℕ → Channel
numbered channels number = unwrap_or (slice_get channels number)
    record { name = []; message_type = []; proto_desc = [] }

-- Messages, as they stand on these channels.
abbrev pub messages_on : List Channel → List Message → List BodyMessage
messages_on channels messages =
    map (λ (m : Message). message_on (numbered channels m.channel) m.time m.content) messages

-- Each message has the number of a channel.
abbrev pub HaveChannels : List Channel → List Message → Type 0
HaveChannels channels messages = (n : ℕ) (m : Message) → slice_get messages n ≡ Some m
    → m.channel < length channels

-- What writing a record comes to: after Ok all its writes are done, and after an error those before
-- the one that failed, or before which memory ran out.
pub record WritesRecord {T : Type 0} (name : List ℕ) (channels : List Channel)
    (messages : List Message) (old new : StoreView) (result : Result T WriteError) : Type 0 where
  pub makes : Makes (file_writes name (record_puts channels (chunks_given name channels
      (messages_on channels messages)))) old new result
  pub unbroken : IsErrOf result write_error.Broken → ⊥
  pub causes : HasWriteCauses (IsErrOf result write_error.Failed) old new
