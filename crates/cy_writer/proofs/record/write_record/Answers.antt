use Rattle.std.proofs.Common.{rules, Some}
use Rattle.std.proofs.lemmas.Result.{err_from_is_err_and}
use Rattle.cy_writer.specs.Messages.{Gives}
use Rattle.cy_writer.specs.Record.{channels_shown}
use Rattle.cy_writer.proofs.Giving.{taking, has_next, wrote, ends_begun, ends_next, ends_message, ends_closed}
use Rattle.cy_writer.proofs.record.write_record.Goals as goal

pub returns-in_err-writer : goal.returns-in_err-writer
returns-in_err-writer g c =
    let p = err_from_is_err_and c.from_residual.result c.from_residual.ensures.1 in
    rw (p.1, p.2) (ends_begun _ c.args.name.now (channels_shown c.args.channels.now) (g.M.Messages.shows c.args.messages).rest _ _ c.in_err-writer.ensures)

pub returns-in_err-stamp : goal.returns-in_err-stamp
returns-in_err-stamp g c =
    let p = err_from_is_err_and c.from_residual-in_err-stamp.result c.from_residual-in_err-stamp.ensures.1 in
    rw (p.1, p.2) (ends_next _ c.args.name.now (channels_shown c.args.channels.now) (g.M.Messages.shows c.args.messages).rest (g.M.Messages.shows c.loop-writer.messages)
    (g.M.Messages.shows c.next.new.self) c.loop-writer.writer _ _ c.loop-writer.invariant.half c.in_err-stamp.ensures.next)

pub message-requires-clause-channel : goal.message-requires-clause-channel
message-requires-clause-channel g c =
    let now = g.M.Messages.shows c.next.new.self in
    let before = g.M.Messages.shows c.loop-writer.messages in
    let all = (g.M.Messages.shows c.args.messages).rest in
    let channels = channels_shown c.args.channels.now in
    let gives : Gives before now (Some c.in-Some.stamp) = rw c.in-Some.is at c.in_ok-stamp.ensures.next.gives in
    has_next c.args.name.now channels all c.in-Some.stamp now c.loop-writer.writer _ _
    (taking c.args.name.now channels all c.in-Some.stamp before now c.loop-writer.writer _ _ c.requires.on_channels c.loop-writer.invariant.half gives)

pub loop-writer-preserved : goal.loop-writer-preserved
loop-writer-preserved g c =
    let now = g.M.Messages.shows c.next.new.self in
    let before = g.M.Messages.shows c.loop-writer.messages in
    let all = (g.M.Messages.shows c.args.messages).rest in
    let channels = channels_shown c.args.channels.now in
    let gives : Gives before now (Some c.in-Some.stamp) = rw c.in-Some.is at c.in_ok-stamp.ensures.next.gives in
    let next = taking c.args.name.now channels all c.in-Some.stamp before now c.loop-writer.writer _ _ c.requires.on_channels c.loop-writer.invariant.half gives in
    record {
      half = wrote _ c.args.name.now channels all c.in-Some.stamp now c.loop-writer.writer c.message.new.self _ _ _ next
          (rw c.content-content.ensures at c.in_ok-message.ensures.takes) c.message.ensures.goes_on.there;
      can_next = c.next.ensures.goes_on;
    }

pub returns-in_err-message : goal.returns-in_err-message
returns-in_err-message g c =
    let now = g.M.Messages.shows c.next.new.self in
    let before = g.M.Messages.shows c.loop-writer.messages in
    let all = (g.M.Messages.shows c.args.messages).rest in
    let channels = channels_shown c.args.channels.now in
    let gives : Gives before now (Some c.in-Some.stamp) = rw c.in-Some.is at c.in_ok-stamp.ensures.next.gives in
    let next = taking c.args.name.now channels all c.in-Some.stamp before now c.loop-writer.writer _ _ c.requires.on_channels c.loop-writer.invariant.half gives in
    let p = err_from_is_err_and c.from_residual-in_err-message.result c.from_residual-in_err-message.ensures.1 in
    rw (p.1, p.2) (ends_message _ c.args.name.now channels all c.in-Some.stamp now c.loop-writer.writer c.message.new.self _ _ _ next
    (rw c.content-content.ensures at c.in_err-message.ensures.takes) c.in_err-message.ensures.goes_on.refused)

pub returns : goal.returns
returns g c =
    let now = g.M.Messages.shows c.next.new.self in
    let before = g.M.Messages.shows c.loop-writer.messages in
    let all = (g.M.Messages.shows c.args.messages).rest in
    ends_closed c.close.result c.args.name.now (channels_shown c.args.channels.now) all before now c.loop-writer.writer _ _ _ c.loop-writer.invariant.half
    c.in_ok-stamp.ensures.next.gives (search rules) c.close.ensures.closes c.close.ensures.refused
