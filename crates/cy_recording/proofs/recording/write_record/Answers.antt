use Rattle.std.proofs.Common.{◌∙◌, List, map, ap, sym, subst}
use Rattle.cy_section.specs.declared.types.Channel.{Channel}
use Rattle.cy_writer.specs.Messages.{Message}
use Rattle.cy_writer.specs.Record.{channels_shown, HaveChannels}
use Rattle.cy_writer.specs.Stands.{HaveOwnNames}
use Rattle.cy_recording.specs.Recording.{source_of, channel_of}
use Rattle.cy_recording.specs.private.RecordSteps.{all_given}
use Rattle.cy_recording.proofs.TapeRecord.{own_names, have_channels, recorded, order_is}
use Rattle.cy_recording.proofs.recording.write_record.Goals as goal

pub written_channels-requires : goal.written_channels-requires
written_channels-requires g c =
    (order_is (source_of c.args.played.now) c.numbers.result.now c.args.tape.now (c.numbers.ensures ∙ c.in_ok-order.ensures.numbers) c.requires).low

pub new-messages-requires-clause-placed : goal.new-messages-requires-clause-placed
new-messages-requires-clause-placed g c =
    (order_is (source_of c.args.played.now) c.in_ok-order.order.numbers c.args.tape.now c.in_ok-order.ensures.numbers c.requires).placed

pub write_record-requires-clause-own_names : goal.write_record-requires-clause-own_names
write_record-requires-clause-own_names g c =
    let s = source_of c.args.played.now in
    let order = c.in_ok-order.order.numbers in
    let is = ap channels_shown c.deref.ensures.value ∙ c.in_ok-written.ensures.channels ∙ ap (map (channel_of s)) c.numbers.ensures in
    let ordered = order_is s order c.args.tape.now c.in_ok-order.ensures.numbers c.requires in
    subst (λ (l : List Channel). HaveOwnNames l) (sym is) (own_names s order c.count.ensures.once ordered.once ordered.low)

pub write_record-requires-clause-on_channels : goal.write_record-requires-clause-on_channels
write_record-requires-clause-on_channels g c =
    let s = source_of c.args.played.now in
    let order = c.in_ok-order.order.numbers in
    let is = ap channels_shown c.deref.ensures.value ∙ c.in_ok-written.ensures.channels ∙ ap (map (channel_of s)) c.numbers.ensures in
    let ordered = order_is s order c.args.tape.now c.in_ok-order.ensures.numbers c.requires in
    subst (λ (l : List Message). HaveChannels (channels_shown c.deref.result.now) l) (sym c.new-messages.ensures.rest)
    (subst (λ (l : List Channel). HaveChannels l (all_given s order c.args.tape.now)) (sym is) (have_channels s order c.args.tape.now ordered.placed))

pub returns-clause-makes : goal.returns-clause-makes
returns-clause-makes g c =
    let s = source_of c.args.played.now in
    let order = c.in_ok-order.order.numbers in
    let is = ap channels_shown c.deref.ensures.value ∙ c.in_ok-written.ensures.channels ∙ ap (map (channel_of s)) c.numbers.ensures in
    let ordered = order_is s order c.args.tape.now c.in_ok-order.ensures.numbers c.requires in
    recorded c.write_record.result c.args.name.now s order c.args.tape.now (channels_shown c.deref.result.now) _ _ _ c.in_ok-order.ensures.numbers is
    c.new-messages.ensures.rest ordered.placed c.write_record.ensures
