-- What records come to that are joined to one: all their messages, on channels that are united by
-- their names.
use Rattle.std.specs.Prelude.{ℕ, List, [], ◌∷◌, ◌++◌, map, set, slice_index_or, Option, Some}
use Rattle.std.specs.Prelude.{None, unwrap_or, Result, Ok}
use Rattle.std.specs.List.Sorted.{IsPermutation, IsSortedByKey, IsStableByKey}
use Rattle.std.specs.Ordering.{nat_cmp}
use Rattle.cy_reader.specs.declared.error.LoadError.{LoadError}
use Rattle.cy_reader.specs.declared.known.Known.{Known}
use Rattle.cy_reader.specs.Named.{name_in}
use Rattle.cy_reader.specs.Record.{◌>>=◌, Message, Met, named_only, number_of, within_limits}

-- The channel of a number.
abbrev pub known_in : List Known → ℕ → Known
known_in channels number = slice_index_or channels number (named_only [])

-- The first of two types or descriptions that is not empty.
abbrev pub first_of : (kept later : List ℕ) → List ℕ
first_of [] later = later
first_of (byte ∷ rest) later = byte ∷ rest

-- A channel that stands in a later record too keeps its type and its description, or takes those
-- that it lacks.
abbrev pub united : (known later : Known) → Known
united known later = record {
  channel = record {
    name = known.channel.name;
    message_type = first_of known.channel.message_type later.channel.message_type;
    proto_desc = first_of known.channel.proto_desc later.channel.proto_desc;
  };
  has_section = known.has_section;
}

-- The channels once one of a later record is joined: it is united with the one of its name, or
-- stands behind all others.
abbrev pub joined_at : Known → List Known → Option ℕ → Result (List Known) LoadError
joined_at later channels None = within_limits (channels ++ later ∷ [])
joined_at later channels (Some number) =
    within_limits (set channels number (united (known_in channels number) later))

unfoldable pub channel_joined : Known → List Known → Result (List Known) LoadError
channel_joined later channels = joined_at later channels (number_of later.channel.name channels)

abbrev pub channels_joined : (later channels : List Known) → Result (List Known) LoadError
channels_joined [] channels = Ok channels
channels_joined (k ∷ rest) channels = channel_joined k channels >>= channels_joined rest

-- A message of a record with these channels, on the united channel of the same name.
abbrev pub on_united : (from to : List Known) → Message → Message
on_united from to m = record {
  channel = unwrap_or (number_of (name_in from m.channel) to) 0;
  time = m.time;
  content = m.content;
}

-- What a later record has is joined: its channels, and then its messages, behind all others.
abbrev pub met_joined : (later met : Met) → Result Met LoadError
met_joined later met = do
  channels ← channels_joined later.channels met.channels
  Ok (record {
    channels = channels;
    messages = met.messages ++ map (on_united later.channels channels) later.messages;
  })

-- Messages in the order of their times; those of one time stand as they stood.
pub record IsInTime (messages sorted : List Message) : Type 0 where
  pub same : IsPermutation messages sorted
  pub by_time : IsSortedByKey (λ (m : Message). m.time) nat_cmp sorted
  pub stable : IsStableByKey (λ (m : Message). m.time) nat_cmp messages sorted
