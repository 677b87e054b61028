use Rattle.std.proofs.Common.{◌≡◌, ◌++◌, List, length, Ok}
use Rattle.cy_wire.specs.Field.{fields_of}
use Rattle.cy_section.specs.Reading.{PlacedMessage, messages_of}
use Rattle.cy_reader.specs.Record.{messages_met}
use Rattle.cy_reader.specs.private.Loading.{IsSound, with_body, met_of}
use Rattle.cy_reader.proofs.Slices.{MessagesStand}
use Rattle.cy_reader.proofs.loading.add_body.Given as goal

abbrev pub invariant-loop-message : goal.invariant-loop-message
invariant-loop-message l =
    (front : List PlacedMessage) × (front ++ l.reader.messages ≡ (messages_of (fields_of l.section.body_at l.section.body.now)).messages)
    × (l.reader.fault ≡ (messages_of (fields_of l.section.body_at l.section.body.now)).fault)
    × (messages_met front (met_of (with_body l.body) l.fn.loading) ≡ Ok (met_of (with_body l.body) l.loading))
    × IsSound (length (with_body l.body)) l.loading × MessagesStand l.body.at l.body.bytes.now l.reader.messages

abbrev pub decreases-loop-message : goal.decreases-loop-message
decreases-loop-message l = length l.reader.messages
