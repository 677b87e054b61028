use Rattle.cy_recording.specs.Recording.{source_of}
use Rattle.cy_recording.proofs.TapeRecord.{first_placed, first_origin, rest_placed, rest_writable}
use Rattle.cy_recording.proofs.recording.tape_messages.TapeMessagesMessages.next.Goals as goal

pub take_content-requires-clause-origin : goal.take_content-requires-clause-origin
take_content-requires-clause-origin c =
    first_origin (source_of c.args.self.now.played.now) c.args.self.now.rest.now c.in-Some.rest.now c.in-Some.token.now c.in-Some.ensures.cases.0 c.requires.writable

pub place-requires : goal.place-requires
place-requires c =
    first_placed c.args.self.now.order.now.numbers c.args.self.now.rest.now c.in-Some.rest.now c.in-Some.token.now c.in-Some.ensures.cases.0 c.requires.placed

pub returns-clause-goes_on : goal.returns-clause-goes_on
returns-clause-goes_on c = record {
  placed = rest_placed c.args.self.now.order.now.numbers c.args.self.now.rest.now c.in-Some.rest.now c.in-Some.token.now c.in-Some.ensures.cases.0 c.requires.placed;
  writable = rest_writable (source_of c.args.self.now.played.now) c.args.self.now.rest.now c.in-Some.rest.now c.in-Some.token.now c.in-Some.ensures.cases.0 c.requires.writable;
}
