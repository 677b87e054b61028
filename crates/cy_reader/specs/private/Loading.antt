-- What the program keeps of a file while it reads it.
use Rattle.std.specs.Prelude.{◌≡◌, ◌⊎◌, ℕ, ◌+◌, ◌-◌, ◌≤◌, ◌<◌, ◌^◌, All, List, [], ◌∷◌, ◌++◌}
use Rattle.std.specs.Prelude.{length, take, drop, map, slice_index_or, sum_by, if◌then◌else◌}
use Rattle.std.specs.Prelude.{String, Option, Some, None, Result, Ok, Err}
use Rattle.std.specs.HashMap.{HashMap, get_by_text}
use Rattle.std.specs.Str.{bytes_eq}
use Rattle.cy_section.specs.declared.error.SectionError.{SectionError}
use Rattle.cy_section.specs.declared.body.MessageView.{MessageView}
use Rattle.cy_reader.specs.declared.error.LoadError.{LoadError}
use Rattle.cy_reader.specs.declared.error.LoadError.TheVariants as load_error
use Rattle.cy_reader.specs.declared.known.Known.{Known}
use Rattle.cy_reader.specs.declared.channels.Channels.{Channels}
use Rattle.cy_reader.specs.declared.loading.Body.{Body}
use Rattle.cy_reader.specs.declared.loading.Message.{Message}
use Rattle.cy_reader.specs.declared.loading.Loading.{Loading}
use Rattle.cy_cut.specs.declared.sections.SectionView.{SectionView}
use Rattle.cy_cut.specs.Stands.{Stands}
use Rattle.cy_reader.specs.Record as meaning
use Rattle.cy_reader.specs.Record.{Met, size_of, number_of, most_channels}
use Rattle.cy_reader.specs.Record.{largest_channels}

-- Channels within their limits.
pub record AreSmall (channels : List Known) : Type 0 where
  pub few : length channels ≤ most_channels
  pub small : sum_by size_of channels ≤ largest_channels

-- The number that is kept for a name is the channel's, and none is for any other name.
abbrev pub IsTied : Channels → Type 0
IsTied channels = (name : List ℕ) → get_by_text channels.numbers name
    ≡ number_of name channels.list.items

-- The number of a name is kept beside those of others.
abbrev pub KeepsNumber : {Y S : Type 0} → List ℕ → ℕ → HashMap (String Y) ℕ S
    → HashMap (String Y) ℕ S → Type 0
KeepsNumber name number old new = (other : List ℕ) → get_by_text new other
    ≡ (if bytes_eq name other then Some number else get_by_text old other)

-- The channels once one more was met: within their limits, with a number for each name, and none is
-- lost.
pub record Grows (old new : Channels) : Type 0 where
  pub small : AreSmall new.list.items
  pub tied : IsTied new
  pub grown : length old.list.items ≤ length new.list.items

-- The same where a message named one, whose number is answered.
pub record Mentions (name : List ℕ) (old new : Channels) (n : ℕ) : Type 0 where
  pub grows : Grows old new
  pub number : number_of name new.list.items ≡ Some n
  pub below : n < length new.list.items

-- Nothing was met yet.
pub record IsNothing (l : Loading) : Type 0 where
  pub channels : l.channels.list.items ≡ []
  pub messages : l.messages.items ≡ []
  pub tied : IsTied l.channels

-- What is kept of a file at any moment, beside so many bodies: fewer messages than 32 bits count,
-- each on a channel that is kept, and its content in one of the bodies.
pub record IsSound (bodies : ℕ) (l : Loading) : Type 0 where
  pub small : AreSmall l.channels.list.items
  pub tied : IsTied l.channels
  pub few : length l.messages.items < 2 ^ 32
  pub numbered : All (λ m. m.channel < length l.channels.list.items) l.messages.items
  pub placed : All (λ m. m.body < bodies) l.messages.items

-- Numbers of 32 bits count the bodies and the messages that are kept, also once sections of so many
-- bytes are: a section has no more messages than bytes.
abbrev pub HasRoom : (bodies : ℕ) → Loading → (bytes : ℕ) → Type 0
HasRoom bodies l bytes = (bodies + bytes < 2 ^ 32) × (length l.messages.items + bytes < 2 ^ 32)

-- As many bodies and messages were kept as sections of so many bytes may have.
abbrev pub GrowsBy : (bytes : ℕ) → (before after : ℕ) → (old new : Loading) → Type 0
GrowsBy bytes before after old new = (after ≤ before + bytes)
    × (length new.messages.items ≤ length old.messages.items + bytes)

-- The bodies that are kept once this one is, the last of them.
abbrev pub with_body : Body → List (List ℕ)
with_body b = b.before.now ++ b.bytes.now ∷ []

-- Numbers of 32 bits count the bodies before a body and its bytes, and 64 bits their places.
pub record IsShort (b : Body) : Type 0 where
  pub few : length b.before.now < 2 ^ 32
  pub short : length b.bytes.now < 2 ^ 32
  pub inside : b.at + length b.bytes.now < 2 ^ 64

-- These bytes stand at a place of the file, of which these are kept, from another place on.
pub record IsWithin (from : ℕ) (kept : List ℕ) (at : ℕ) (bytes : List ℕ) : Type 0 where
  pub behind : from ≤ at
  pub stands : Stands kept (at - from) bytes

-- A section whose places and whose bytes numbers of these sizes count.
pub record IsShortSection (s : SectionView) : Type 0 where
  pub inside : s.body_at + length s.body.now < 2 ^ 64
  pub short : length s.body.now < 2 ^ 32

-- What is kept of a message on a channel of this number, whose content stands in a body.
abbrev pub noted : Body → ℕ → MessageView → Message
noted b channel m = record {
  channel = channel;
  body = length b.before.now;
  time = m.time;
  start = m.content_at - b.at;
  length = length m.content.now;
}

-- A message, with the content that stands in one of these bodies.
abbrev pub message_of : List (List ℕ) → Message → meaning.Message
message_of bodies m = record {
  channel = m.channel;
  time = m.time;
  content = take m.length (drop m.start (slice_index_or bodies m.body []));
}

-- What was met: the channels that are kept, and these messages; and those that are kept.
abbrev pub met_with : Channels → List meaning.Message → Met
met_with channels messages = record { channels = channels.list.items; messages = messages }

abbrev pub met_of : List (List ℕ) → Loading → Met
met_of bodies l = record {
  channels = l.channels.list.items;
  messages = map (message_of bodies) l.messages.items;
}

-- What stands then is what is read; or the answer is what is read in its place, or that there is no
-- memory.
abbrev pub Leads : {A B : Type 0} → Result A LoadError → B → Result B LoadError → Type 0
Leads (Ok x) now read = read ≡ Ok now
Leads (Err e) now read = (e ≡ load_error.Memory) ⊎ (read ≡ Err e)

-- What reading messages out comes to: the fault that ends them, if there is one.
abbrev pub unless_ended : Option SectionError → Result (Unit {0}) LoadError
unless_ended None = Ok tt
unless_ended (Some fault) = Err (meaning.fault_of fault)
