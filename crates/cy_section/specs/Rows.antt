-- The messages that hold numbers alone, each by its rows: a row says of a field which number it has
-- in the wire form, of which kind it is and what a message has in it. What is written of such a
-- message and which values fit are said once, for any rows. Beside the rows stands the message that
-- is made of the numbers of its fields: of one for 32 bits the low ones count, any but 0 is true.
use Rattle.std.specs.Prelude.{ℕ, ◌<◌, ◌%◌, ◌^◌, ◌==◌, Bool, not, if◌then◌else◌, List, [], ◌∷◌, map}
use Rattle.std.specs.List.{flat_map, AllByRecursion}
use Rattle.cy_wire.specs.Wire.{field_u64}
use Rattle.cy_section.specs.declared.types.Header.{Header}
use Rattle.cy_section.specs.declared.types.ChunkHeader.{ChunkHeader}
use Rattle.cy_section.specs.declared.types.ChunkHeaderCache.{ChunkHeaderCache}
use Rattle.cy_section.specs.declared.types.ChunkBodyCache.{ChunkBodyCache}

-- A field's number, the number that it holds, and the bound below which those of its kind are.
pub record Row : Type 0 where
  pub number : ℕ
  pub value : ℕ
  pub bound : ℕ

-- A number of 32 bits, one of 64, and a truth value, which is written as 0 or 1.
abbrev pub u32_field : ℕ → ℕ → Row
u32_field number value = record { number = number; value = value; bound = 2 ^ 32 }

abbrev pub u64_field : ℕ → ℕ → Row
u64_field number value = record { number = number; value = value; bound = 2 ^ 64 }

abbrev pub truth_field : ℕ → Bool → Row
truth_field number value = record { number = number; value = if value then 1 else 0; bound = 2 }

-- Each holds a number of its kind.
abbrev pub Fit : List Row → Type 0
Fit rows = AllByRecursion (λ row. row.value < row.bound) rows

-- The numbers of fields, each with the number in it, and the bytes of such fields.
abbrev pub numbered : List Row → List (ℕ × ℕ)
numbered rows = map (λ row. (row.number, row.value)) rows

abbrev pub numbers_body : List (ℕ × ℕ) → List ℕ
numbers_body fields = flat_map (λ f. field_u64 f.0 f.1) fields

unfoldable pub header_rows : Header → List Row
header_rows h =
    u32_field 1 h.major_version
    ∷ u32_field 2 h.minor_version
    ∷ u32_field 3 h.compress
    ∷ u64_field 4 h.chunk_interval
    ∷ u64_field 5 h.segment_interval
    ∷ u64_field 6 h.index_position
    ∷ u64_field 7 h.chunk_number
    ∷ u64_field 8 h.channel_number
    ∷ u64_field 9 h.begin_time
    ∷ u64_field 10 h.end_time
    ∷ u64_field 11 h.message_number
    ∷ u64_field 12 h.size
    ∷ truth_field 13 h.is_complete
    ∷ u64_field 14 h.chunk_raw_size
    ∷ u64_field 15 h.segment_raw_size
    ∷ []

abbrev pub header_from : (ℕ → ℕ) → Header
header_from number = record {
  major_version = number 1 % 2 ^ 32;
  minor_version = number 2 % 2 ^ 32;
  compress = number 3 % 2 ^ 32;
  chunk_interval = number 4;
  segment_interval = number 5;
  index_position = number 6;
  chunk_number = number 7;
  channel_number = number 8;
  begin_time = number 9;
  end_time = number 10;
  message_number = number 11;
  size = number 12;
  is_complete = not (number 13 == 0);
  chunk_raw_size = number 14;
  segment_raw_size = number 15;
}

-- The header in which every number is 0.
abbrev pub no_header : Header
no_header = header_from (λ number. 0)

unfoldable pub chunk_header_rows : ChunkHeader → List Row
chunk_header_rows c =
    u64_field 1 c.begin_time
    ∷ u64_field 2 c.end_time
    ∷ u64_field 3 c.message_number
    ∷ u64_field 4 c.raw_size
    ∷ []

abbrev pub chunk_header_from : (ℕ → ℕ) → ChunkHeader
chunk_header_from number = record {
  begin_time = number 1;
  end_time = number 2;
  message_number = number 3;
  raw_size = number 4;
}

unfoldable pub chunk_header_cache_rows : ChunkHeaderCache → List Row
chunk_header_cache_rows c =
    u64_field 1 c.message_number
    ∷ u64_field 2 c.begin_time
    ∷ u64_field 3 c.end_time
    ∷ u64_field 4 c.raw_size
    ∷ []

abbrev pub chunk_header_cache_from : (ℕ → ℕ) → ChunkHeaderCache
chunk_header_cache_from number = record {
  message_number = number 1;
  begin_time = number 2;
  end_time = number 3;
  raw_size = number 4;
}

unfoldable pub chunk_body_cache_rows : ChunkBodyCache → List Row
chunk_body_cache_rows c = u64_field 1 c.message_number ∷ []

abbrev pub chunk_body_cache_from : (ℕ → ℕ) → ChunkBodyCache
chunk_body_cache_from number = record { message_number = number 1 }
