use Rattle.std.proofs.Common.{◌≡◌, List, length}
use Rattle.cy_wire.specs.Field.{WireField, fields_of}
use Rattle.cy_wire.specs.Message.{last_number}
use Rattle.cy_wire.proofs.Lasts.{AreLeft}
use Rattle.cy_wire.proofs.whole.last_number.Given as goal

abbrev pub invariant-loop-field : goal.invariant-loop-field
invariant-loop-field l =
    (front : List WireField) × AreLeft front l.reader (fields_of 0 l.message) × (l.number ≡ last_number 1 front)

abbrev pub decreases-loop-field : goal.decreases-loop-field
decreases-loop-field l = length l.reader.fields
