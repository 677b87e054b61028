use Rattle.std.proofs.Common.{◌≡◌, ◌++◌, List, length, map}
use Rattle.cy_wire.specs.Field.{fields_of}
use Rattle.cy_section.specs.Reading.{PlacedMessage, messages_of}
use Rattle.cy_section.proofs.body.messages_of.Given as goal

abbrev pub invariant-loop-messages : goal.invariant-loop-messages
invariant-loop-messages l =
    (front : List PlacedMessage) × (front ++ l.reader.messages ≡ (messages_of (fields_of l.at l.body)).messages)
    × (l.reader.fault ≡ (messages_of (fields_of l.at l.body)).fault) × (l.messages.items ≡ map (λ m. m.message) front)

abbrev pub decreases-loop-messages : goal.decreases-loop-messages
decreases-loop-messages l = length l.reader.messages
