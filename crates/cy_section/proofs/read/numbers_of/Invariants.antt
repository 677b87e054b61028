use Rattle.std.proofs.Common.{◌≡◌, ◌<◌, ℕ, List, length, get_or}
use Rattle.cy_wire.specs.Field.{WireField, fields_of}
use Rattle.cy_wire.specs.Message.{u64_of}
use Rattle.cy_wire.proofs.Lasts.{AreLeft}
use Rattle.cy_section.proofs.read.numbers_of.Given as goal

abbrev pub invariant-loop-field : goal.invariant-loop-field
invariant-loop-field l =
    (front : List WireField) × AreLeft front l.reader (fields_of l.at l.body) × (length l.numbers ≡ 32) × ((k : ℕ) → k < 32 → get_or l.numbers k 0 ≡ u64_of k front)

abbrev pub decreases-loop-field : goal.decreases-loop-field
decreases-loop-field l = length l.reader.fields
