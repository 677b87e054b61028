use Rattle.std.proofs.Common.{◌++◌, List, [], ◌∷◌, length, length-append, arith, refl, sym, ap, subst, ◌∙◌}
use Rattle.cy_wire.specs.Field.{fields_of}
use Rattle.cy_section.specs.Reading.{Messages, PlacedMessage, messages_of}
use Rattle.cy_section.specs.Messages.{seen}
use Rattle.cy_section.proofs.Bodies.{message_read}
use Rattle.cy_reader.specs.private.Loading.{with_body, met_of}
use Rattle.cy_reader.proofs.Slices.{MessagesStand, messages_stand}
use Rattle.cy_reader.proofs.Meeting.{met_more, limit_met, unless_faulty}
use Rattle.cy_reader.proofs.Growing.{kept_more, messages_few}
use Rattle.cy_reader.proofs.loading.add_body.Goals as goal

pub loop-message-init : goal.loop-message-init
loop-message-init c =
    let stand = messages_stand c.args.body.now.at c.args.body.now.bytes.now c.args.section.now.body_at c.args.section.now.body.now c.requires.stands in (
      [],
      ap (λ (m : Messages). m.messages) c.new-reader.ensures,
      ap (λ (m : Messages). m.fault) c.new-reader.ensures,
      refl,
      c.requires.sound,
      subst (λ (m : Messages). MessagesStand c.args.body.now.at c.args.body.now.bytes.now m.messages) (sym c.new-reader.ensures) stand,
    )

pub add_message-requires-clause-few : goal.add_message-requires-clause-few
add_message-requires-clause-few c =
    let front = c.loop-message.invariant.0 in
    let body = c.args.section.now.body.now in
    let left = rw c.in-Some.is at c.in_ok-message.ensures in
    omega (
      arith,
      kept_more front (with_body c.args.body.now) c.args.loading.now c.loop-message.loading c.loop-message.invariant.3,
      ap (λ (ms : List PlacedMessage). length ms) c.loop-message.invariant.1,
      length-append front c.loop-message.reader.messages,
      ap (λ (l : Messages). length l.messages) left,
      messages_few c.args.section.now.body_at body,
      c.requires.few,
    )

pub returns-in-Err-clause-met : goal.returns-in-Err-clause-met
returns-in-Err-clause-met c =
    let all = messages_of (fields_of c.args.section.now.body_at c.args.section.now.body.now) in
    let file = with_body c.args.body.now in
    let left = rw c.in-Some.is at c.in_ok-message.ensures in
    unless_faulty c.next_message.new.self.fault all c.in-Err.limit (met_of file c.args.loading.now) (met_of file c.add_message.new.loading)
    (sym (ap (λ (l : Messages). l.fault) left) ∙ c.loop-message.invariant.2) (sym c.read_out.ensures ∙ c.in_ok-read_out.was)
    (limit_met c.loop-message.invariant.0 (seen c.in-Some.message) c.loop-message.reader c.next_message.new.self all (met_of file c.args.loading.now) (met_of file c.loop-message.loading) (met_of file c.add_message.new.loading) c.in-Err.limit
    c.loop-message.invariant.3 c.loop-message.invariant.1 left c.in-Err.ensures.met)

pub loop-message-preserved : goal.loop-message-preserved
loop-message-preserved c =
    let front = c.loop-message.invariant.0 in
    let message = seen c.in-Some.message in
    let left = rw c.in-Some.is at c.in_ok-message.ensures in
    let file = with_body c.args.body.now in (
      front ++ message ∷ [],
      message_read front c.loop-message.reader c.next_message.new.self (messages_of (fields_of c.args.section.now.body_at c.args.section.now.body.now)) message c.loop-message.invariant.1 left,
      sym (ap (λ (l : Messages). l.fault) left) ∙ c.loop-message.invariant.2,
      met_more front message (met_of file c.args.loading.now) (met_of file c.loop-message.loading) (met_of file c.add_message.new.loading) c.loop-message.invariant.3 c.in_default-add_message.ensures.met,
      c.in_default-add_message.ensures.still_sound,
      (subst (λ (m : Messages). MessagesStand c.args.body.now.at c.args.body.now.bytes.now m.messages) left c.loop-message.invariant.5).1,
    )
