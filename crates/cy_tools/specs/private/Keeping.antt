-- Which messages are kept, message by message.
use Rattle.std.specs.Prelude.{ℕ, ◌≡◌, ◌+◌, ◌<◌, ◌^◌, Bool, true, ◌&&◌, List, [], ◌∷◌, length, map}
use Rattle.std.specs.Prelude.{drop, filter, Option, Some, None, slice_get, IfSome}
use Rattle.std.specs.Option.{option_map}
use Rattle.cy_msg.specs.declared.filter.Filter.{Filter}
use Rattle.cy_msg.specs.Filter.{lets_channel, lets_time}
use Rattle.cy_reader.specs.declared.known.Known.{Known}
use Rattle.cy_reader.specs.Record.{Message}
use Rattle.cy_reader.specs.Named.{name_in}
use Rattle.cy_reader.specs.Said.{StandOnChannels}
use Rattle.cy_tools.specs.declared.kept.Lets.{Lets}
use Rattle.cy_tools.specs.declared.kept.Kept.{Kept}
use Rattle.cy_tools.specs.declared.kept.Found.{Found}

-- The table of a filter says of each channel whether it is let through.
abbrev pub IsTable : List Known → Lets → Type 0
IsTable channels l =
    l.channels.items ≡ map (λ (k : Known). lets_channel l.filter.now k.channel.name) channels

-- The filter, if there is one.
abbrev pub choice_of : Kept → Option Filter
choice_of k = option_map (λ (l : Lets). l.filter.now) k.lets

-- Whether a message of this channel and time is kept: without a filter all are.
abbrev pub keeps : Option Filter → List Known → ℕ → ℕ → Bool
keeps None channels channel time = true
keeps (Some f) channels channel time =
    lets_channel f (name_in channels channel) && lets_time f time

-- Those of some messages that are kept.
abbrev pub kept_by : Option Filter → List Known → List Message → List Message
kept_by choice channels messages =
    filter (λ (m : Message). keeps choice channels m.channel m.time) messages

abbrev pub kept_of : Kept → List Message → List Message
kept_of k messages = kept_by (choice_of k) k.loaded.channels messages

abbrev pub all_kept : Kept → List Message
all_kept k = kept_of k k.loaded.messages

-- Those from a place on.
abbrev pub kept_from : Kept → ℕ → List Message
kept_from k place = kept_of k (drop place k.loaded.messages)

-- The table is that of the record, and each message stands on a channel.
pub record IsReady (k : Kept) : Type 0 where
  pub table : IfSome k.lets (IsTable k.loaded.channels)
  pub stand : StandOnChannels k.loaded.channels k.loaded.messages

-- This is the first message from a place on that is kept.
pub record IsFound (k : Kept) (place : ℕ) (f : Found) : Type 0 where
  pub message : Message
  pub there : slice_get k.loaded.messages f.place ≡ Some message
  pub channel : f.channel ≡ message.channel
  pub time : f.time ≡ message.time
  pub below : f.channel < length k.loaded.channels
  pub countable : f.place + 1 < 2 ^ 32
  pub first : kept_from k place ≡ message ∷ kept_from k (f.place + 1)

-- What is found at a place alone, and from a place on.
abbrev pub IsFoundAt : Kept → ℕ → Option Found → Type 0
IsFoundAt k place None = kept_from k place ≡ kept_from k (place + 1)
IsFoundAt k place (Some f) = (f.place ≡ place) × IsFound k place f

abbrev pub IsNextFrom : Kept → ℕ → Option Found → Type 0
IsNextFrom k place None = kept_from k place ≡ []
IsNextFrom k place (Some f) = IsFound k place f
