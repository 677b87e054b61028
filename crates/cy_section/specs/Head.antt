-- Reading the head of a section.
use Rattle.std.specs.Prelude.{ℕ, ◌^◌, nat_lt, nat_le, ◌==◌, if◌then◌else◌, List, drop, Result, Ok}
use Rattle.std.specs.Prelude.{Err}
use Rattle.std.specs.Int.{w64, cast_signed}
use Rattle.byteorder.specs.Endian.{little_number}
use Rattle.cy_section.specs.declared.error.SectionError.{SectionError}
use Rattle.cy_section.specs.declared.error.SectionError.TheVariants.{Kind, Size}
use Rattle.cy_section.specs.declared.types.SectionKind.{SectionKind}
use Rattle.cy_section.specs.declared.types.SectionKind.TheVariants as kind
use Rattle.cy_section.specs.declared.types.Head.{Head}

-- The section of a type's number, which is at most 4.
abbrev pub kind_of : ℕ → SectionKind
kind_of number =
    if number == 0 then kind.Header
    else (if number == 1 then kind.ChunkHeader
    else (if number == 2 then kind.ChunkBody
    else (if number == 3 then kind.Index else kind.Channel)))

-- The head at the front of bytes that stand at a place: the type in the first four bytes, the size
-- in the last eight of the 16, which is a signed number and not negative. The four bytes between
-- them are not looked at.
unfoldable pub head_at : ℕ → List ℕ → Result Head SectionError
head_at at bytes =
    let number = little_number 4 bytes in
    let size = little_number 8 (drop 8 bytes) in
    if nat_lt 4 number then Err (Kind at number)
    else (if nat_le (2 ^ 63) size then Err (Size at (cast_signed w64 size)) else Ok
    (record { kind = kind_of number; size = size }))
