-- What is met in a chunk's body by itself, and how it stands behind what was met before.
use Rattle.std.specs.Prelude.{◌≡◌, ℕ, ◌<◌, All, List, [], ◌∷◌, ◌++◌, length, map, slice_index}
use Rattle.std.specs.Prelude.{slice_index_or, unwrap_or, Option, Some, Result, Ok, IfSome}
use Rattle.std.specs.List.{AllZip}
use Rattle.cy_wire.specs.Field.{fields_of}
use Rattle.cy_section.specs.Reading.{messages_of}
use Rattle.cy_reader.specs.declared.error.LoadError.{LoadError}
use Rattle.cy_reader.specs.declared.known.Known.{Known}
use Rattle.cy_cut.specs.declared.cutting.Part.{Part}
use Rattle.cy_reader.specs.declared.decoding.Alone.{Alone}
use Rattle.cy_reader.specs.declared.loading.Message.{Message}
use Rattle.cy_reader.specs.Record as meaning
use Rattle.cy_reader.specs.Record.{◌>>=◌, Met, add_body, name_mentioned, named_only, nothing}
use Rattle.cy_reader.specs.Record.{number_of}
use Rattle.cy_reader.specs.private.Loading.{message_of}

-- The channels and messages that are kept of a body.
abbrev pub met_alone : List ℕ → Alone → Met
met_alone body a = record {
  channels = a.channels.items;
  messages = map (message_of (body ∷ [])) a.messages.items;
}

-- Each message is on a channel that is kept, and its content in the one body.
pub record IsClosed (a : Alone) : Type 0 where
  pub numbered : All (λ m. m.channel < length a.channels.items) a.messages.items
  pub placed : All (λ m. m.body < 1) a.messages.items

-- This is what a chunk's body comes to where nothing was met before it.
pub record IsAlone (p : Part) (a : Alone) : Type 0 where
  pub met : (let all = messages_of (fields_of p.body_at p.body) in
      add_body all.fault all.messages nothing ≡ Ok (met_alone p.body a))
  pub closed : IsClosed a

-- It is known of some sections what they come to so.
abbrev pub AreDecoded : List Part → List (Option Alone) → Type 0
AreDecoded parts decoded = AllZip (λ p a. IfSome a (IsAlone p)) parts decoded

-- The channels once these were mentioned, one after another.
abbrev pub all_mentioned : List Known → List Known → Result (List Known) LoadError
all_mentioned [] channels = Ok channels
all_mentioned (k ∷ rest) channels =
    name_mentioned k.channel.name channels >>= all_mentioned rest

-- The name of a channel by its number.
abbrev pub name_in : List Known → ℕ → List ℕ
name_in channels n = (slice_index_or channels n (named_only [])).channel.name

-- A message whose channel has another number among other channels.
abbrev pub renumbered : List Known → List Known → meaning.Message → meaning.Message
renumbered from to m = record {
  channel = unwrap_or (number_of (name_in from m.channel) to) 0;
  time = m.time;
  content = m.content;
}

-- What was met by itself, behind what was met before.
abbrev pub behind : Met → Met → Result Met LoadError
behind alone before = do
  channels ← all_mentioned alone.channels before.channels
  Ok (record {
    channels = channels;
    messages = before.messages ++ map (renumbered alone.channels channels) alone.messages;
  })

-- These are the numbers that channels have among others, by their names.
pub record AreNumbers (from to : List Known) (numbers : List ℕ) : Type 0 where
  pub many : length numbers ≡ length from
  pub each : (n : ℕ) → n < length numbers
      → number_of (name_in from n) to ≡ Some (slice_index numbers n)
  pub below : All (λ n. n < length to) numbers

-- A message that is kept with the body of a number, on the channel of another number.
abbrev pub moved : ℕ → List ℕ → Message → Message
moved body numbers m = record {
  channel = slice_index numbers m.channel;
  body = body;
  time = m.time;
  start = m.start;
  length = m.length;
}
