use Rattle.std.proofs.Common.{◌++◌, [], ◌∷◌, sym, ap, ◌∙◌}
use Rattle.std.proofs.lemmas.List.{map_push}
use Rattle.cy_wire.specs.Field.{fields_of}
use Rattle.cy_section.specs.Reading.{Messages, messages_of}
use Rattle.cy_section.specs.Messages.{seen}
use Rattle.cy_section.proofs.Bodies.{message_read}
use Rattle.cy_section.proofs.body.messages_of.Goals as goal

pub loop-messages-preserved : goal.loop-messages-preserved
loop-messages-preserved c =
    let front = c.loop-messages.invariant.0 in
    let message = seen c.in-Some.message in
    let left = rw c.in-Some.is at c.in_ok-message.ensures in (
      front ++ message ∷ [],
      message_read front c.loop-messages.reader c.next_message.new.self (messages_of (fields_of c.args.at c.args.body.now)) message c.loop-messages.invariant.1 left,
      sym (ap (λ (l : Messages). l.fault) left) ∙ c.loop-messages.invariant.2,
      rw (c.in_ok-keep.ensures.kept, c.loop-messages.invariant.3) (sym (map_push (λ m. m.message) front message)),
    )
