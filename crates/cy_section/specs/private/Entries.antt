-- An entry of the index by the parts that its fields have, taken one field after another.
use Rattle.std.specs.Prelude.{◌≡◌, ◌⊎◌, ◌%◌, ◌^◌, List, [], ◌∷◌, ◌++◌, Option, Result, Ok, Err}
use Rattle.std.specs.Prelude.{unwrap_or}
use Rattle.std.specs.Option.{option_map, option_or}
use Rattle.cy_wire.specs.Field.{WireField}
use Rattle.cy_wire.specs.Message.{WireSpan, seen_span, number_in, span_in}
use Rattle.cy_section.specs.declared.entries.Parts.{Parts}
use Rattle.cy_section.specs.declared.error.SectionError.{SectionError}
use Rattle.cy_section.specs.declared.error.SectionError.TheVariants.{Memory}
use Rattle.cy_section.specs.declared.types.ChunkHeaderCache.{ChunkHeaderCache}
use Rattle.cy_section.specs.declared.types.ChunkBodyCache.{ChunkBodyCache}
use Rattle.cy_section.specs.declared.types.IndexEntry.{IndexEntry}
use Rattle.cy_section.specs.Reading.{◌>>=◌, if_given, channel_cache_at, chunk_header_cache_at}
use Rattle.cy_section.specs.Reading.{chunk_body_cache_at, entry_at}

-- Each part is that of the field, where it has one, and else what it was.
pub record TakesPart (field : WireField) (old new : Parts) : Type 0 where
  pub kind : new.kind ≡ unwrap_or (number_in 1 field) old.kind
  pub position : new.position ≡ unwrap_or (number_in 2 field) old.position
  pub channel : option_map seen_span new.channel
      ≡ option_or (span_in 101 field) (option_map seen_span old.channel)
  pub header : option_map seen_span new.header
      ≡ option_or (span_in 102 field) (option_map seen_span old.header)
  pub body : option_map seen_span new.body
      ≡ option_or (span_in 103 field) (option_map seen_span old.body)

-- What is kept of a chunk's header and of its body: the first fault stands.
abbrev pub chunk_caches : Option WireSpan → Option WireSpan
    → Result (Option ChunkHeaderCache × Option ChunkBodyCache) SectionError
chunk_caches header body = do
  header ← if_given chunk_header_cache_at header
  body ← if_given chunk_body_cache_at body
  Ok (header, body)

-- The entry of these parts.
abbrev pub entry_of : Parts → Result IndexEntry SectionError
entry_of parts = do
  channel ← if_given channel_cache_at (option_map seen_span parts.channel)
  header ← if_given chunk_header_cache_at (option_map seen_span parts.header)
  body ← if_given chunk_body_cache_at (option_map seen_span parts.body)
  Ok (record {
    kind = parts.kind % 2 ^ 32;
    position = parts.position;
    channel_cache = channel;
    chunk_header_cache = header;
    chunk_body_cache = body;
  })

-- An entry is read, and stands behind others; or its fault is answered, or that there is no memory.
abbrev pub KeepsEntry : WireSpan → List IndexEntry → List IndexEntry
    → Result (Unit {0}) SectionError → Type 0
KeepsEntry span old new (Ok done) =
    (entry : IndexEntry) × (entry_at span ≡ Ok entry) × (new ≡ old ++ entry ∷ [])
KeepsEntry span old new (Err fault) = (fault ≡ Memory) ⊎ (entry_at span ≡ Err fault)
