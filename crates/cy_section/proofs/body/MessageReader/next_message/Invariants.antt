use Rattle.std.proofs.Common.{◌≡◌, length}
use Rattle.cy_section.specs.Reading.{messages_of}
use Rattle.cy_section.proofs.body.MessageReader.next_message.Given as goal

abbrev pub invariant-loop-field : goal.invariant-loop-field
invariant-loop-field l = messages_of l.self-inside.fields ≡ l.fn.self

abbrev pub decreases-loop-field : goal.decreases-loop-field
decreases-loop-field l = length l.self-inside.fields.fields
