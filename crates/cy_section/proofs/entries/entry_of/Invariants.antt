use Rattle.std.proofs.Common.{◌≡◌, List, length}
use Rattle.std.specs.Option.{option_map}
use Rattle.cy_wire.specs.Field.{WireField, fields_of}
use Rattle.cy_wire.specs.Message.{u64_of, last_span, seen_span}
use Rattle.cy_wire.proofs.Lasts.{AreLeft}
use Rattle.cy_section.proofs.entries.entry_of.Given as goal

abbrev pub invariant-loop-field : goal.invariant-loop-field
invariant-loop-field l =
    (front : List WireField) × AreLeft front l.fields (fields_of l.entry.start l.entry.bytes.now)
    × (l.parts.kind ≡ u64_of 1 front) × (l.parts.position ≡ u64_of 2 front)
    × (option_map seen_span l.parts.channel ≡ last_span 101 front) × (option_map seen_span l.parts.header ≡ last_span 102 front)
    × (option_map seen_span l.parts.body ≡ last_span 103 front)

abbrev pub decreases-loop-field : goal.decreases-loop-field
decreases-loop-field l = length l.fields.fields
