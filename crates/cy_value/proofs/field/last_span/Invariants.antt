use Rattle.std.proofs.Common.{◌≡◌, List, length, None}
use Rattle.std.specs.List.{filter_map, last_or}
use Rattle.std.specs.Option.{option_map}
use Rattle.cy_wire.specs.Field.{WireField, fields_of}
use Rattle.cy_wire.specs.Message.{seen_span, span_in}
use Rattle.cy_wire.proofs.Lasts.{AreLeft}
use Rattle.cy_value.proofs.field.last_span.Given as goal

abbrev pub invariant-loop-field : goal.invariant-loop-field
invariant-loop-field l = (front : List WireField) × AreLeft front l.reader (fields_of 0 l.content)
    × (option_map seen_span l.last ≡ last_or None (filter_map (span_in l.number) front))

abbrev pub decreases-loop-field : goal.decreases-loop-field
decreases-loop-field l = length l.reader.fields
