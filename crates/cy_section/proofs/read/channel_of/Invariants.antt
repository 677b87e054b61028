use Rattle.std.proofs.Common.{◌≡◌, ◌+◌, List, length}
use Rattle.cy_wire.specs.Field.{WireField, fields_of}
use Rattle.cy_wire.specs.Message.{span_of, seen_span}
use Rattle.cy_wire.proofs.Lasts.{AreLeft}
use Rattle.cy_section.proofs.read.channel_of.Given as goal

abbrev pub invariant-loop-field : goal.invariant-loop-field
invariant-loop-field l =
    (front : List WireField) × AreLeft front l.fields (fields_of l.message.start l.message.bytes.now)
    × (seen_span l.parts.name ≡ span_of l.first front) × (seen_span l.parts.message_type ≡ span_of (l.first + 1) front)
    × (seen_span l.parts.proto_desc ≡ span_of (l.first + 2) front)

abbrev pub decreases-loop-field : goal.decreases-loop-field
decreases-loop-field l = length l.fields.fields
