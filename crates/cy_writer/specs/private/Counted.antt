-- The numbers of a chunk's header.
use Rattle.std.specs.Prelude.{ℕ, ◌+◌, ◌==◌, if◌then◌else◌, min, max}
use Rattle.cy_section.specs.declared.types.ChunkHeader.{ChunkHeader}

-- The header of messages with one more, at a time and with a content of so many bytes.
abbrev pub counted_with : ChunkHeader → (time size : ℕ) → ChunkHeader
counted_with h time size = record {
  begin_time = if h.message_number == 0 then time else min h.begin_time time;
  end_time = max h.end_time time;
  message_number = h.message_number + 1;
  raw_size = h.raw_size + size;
}
