-- What a writer stands for.
use Rattle.std.specs.Prelude.{ℕ, ◌≡◌, ◌≤◌, ◌<◌, ◌+◌, List, [], length, map, Option, None, Some}
use Rattle.std.specs.Prelude.{unwrap_or, IfSome, IsSomeAnd, slice_get}
use Rattle.std.specs.Option.{option_map}
use Rattle.cy_store.specs.Files.{Files, Holds}
use Rattle.cy_section.specs.declared.types.Channel.{Channel}
use Rattle.cy_section.specs.RecordText.{header_end, bytes_of, channel_part, chunk_header_of}
use Rattle.cy_writer.specs.Given.{Given, messages_of, front_of}
use Rattle.cy_writer.specs.Kept.{kept_channels, kept_chunks, IsChunkOf}
use Rattle.cy_writer.specs.declared.writing.Writing.{Writing}
use Rattle.cy_writer.specs.declared.writer.RecordWriter.{RecordWriter}

-- No two channels have one name.
abbrev pub HaveOwnNames : List Channel → Type 0
HaveOwnNames channels = (i j : ℕ) (c d : Channel) → slice_get channels i ≡ Some c
    → slice_get channels j ≡ Some d → c.name ≡ d.name → i ≡ j

-- A name that none of the channels has.
abbrev pub IsNewName : List ℕ → List Channel → Type 0
IsNewName name channels = (i : ℕ) (c : Channel) → slice_get channels i ≡ Some c → c.name ≡ name → ⊥

-- The place behind the channels' sections.
abbrev pub channels_end : List Channel → ℕ
channels_end channels = header_end + length (bytes_of (map (channel_part []) channels))

-- What is kept of a writer that is not broken stands for what it was given.
pub record StandsFor (o : Writing) (g : Given) : Type 0 where
  pub name : o.name ≡ g.name
  pub own_names : HaveOwnNames g.channels
  pub channels : o.channels.items ≡ kept_channels header_end (messages_of g) g.channels
  pub chunks : o.chunks.items ≡ kept_chunks (channels_end g.channels) g.closed
  pub place : o.place ≡ length (front_of g)
  pub chunk : IsChunkOf o.chunk g.gathered
  pub counted : o.counted ≡ chunk_header_of (messages_of g)

-- A writer stands for what it was given: its kept chunk and what it keeps of the sections that it
-- has put.
abbrev pub Stands : RecordWriter → Given → Type 0
Stands w g = IsSomeAnd w.writing (λ o. StandsFor o g)

-- A call of this writer answered Failed.
abbrev pub IsBroken : RecordWriter → Type 0
IsBroken w = w.writing ≡ None

-- The channel of this number was given, unless the writer is broken.
abbrev pub HasChannel : RecordWriter → ℕ → Type 0
HasChannel w channel = IfSome w.writing (λ (o : Writing). channel < length o.channels.items)

-- How many channels were given, 0 where the writer is broken.
abbrev pub channel_count : RecordWriter → ℕ
channel_count w = unwrap_or (option_map (λ (o : Writing). length o.channels.items) w.writing) 0

-- A store that tells its files holds all that the writer has put, unless it is broken.
abbrev pub IsHeld : Writing → Option Files → Type 0
IsHeld o files = Holds files o.name (λ bytes. o.place ≤ length bytes)

abbrev pub IsThere : RecordWriter → Option Files → Type 0
IsThere w files = IfSome w.writing (λ o. IsHeld o files)
