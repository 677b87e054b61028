use Rattle.std.proofs.Common.{◌≡◌, List, length, None}
use Rattle.std.specs.List.{filter_map, last_or}
use Rattle.cy_wire.specs.Field.{WireField, fields_of}
use Rattle.cy_wire.proofs.Lasts.{AreLeft}
use Rattle.cy_value.specs.Value.{bits_under}
use Rattle.cy_value.proofs.field.last_bits.Given as goal

abbrev pub invariant-loop-field : goal.invariant-loop-field
invariant-loop-field l = (front : List WireField) × AreLeft front l.reader (fields_of 0 l.content)
    × (l.last ≡ last_or None (filter_map (bits_under l.number l.kind) front))

abbrev pub decreases-loop-field : goal.decreases-loop-field
decreases-loop-field l = length l.reader.fields
