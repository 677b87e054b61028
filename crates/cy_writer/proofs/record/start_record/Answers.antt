use Rattle.std.proofs.lemmas.Option.{slice_get-get_or}
use Rattle.std.proofs.lemmas.Result.{err_from_is_err_and}
use Rattle.cy_writer.specs.Record.{channels_shown}
use Rattle.cy_writer.proofs.Starting.{starts_unbegun, starts_stopped, starts_further}
use Rattle.cy_writer.proofs.record.start_record.Goals as goal

pub returns-in_err-writer : goal.returns-in_err-writer
returns-in_err-writer g c =
    let p = err_from_is_err_and c.from_residual.result c.from_residual.ensures.1 in
    rw (p.1, p.2) (starts_unbegun _ c.args.name.now (channels_shown c.args.channels.now) _ _ c.in_err-writer.ensures.begins)

pub returns-in_err-channel : goal.returns-in_err-channel
returns-in_err-channel g c =
    let channels = c.args.channels.now in
    let n = c.loop-channel.channel-index in
    let p = err_from_is_err_and c.from_residual-in_err-channel.result c.from_residual-in_err-channel.ensures.1 in
    rw (p.1, p.2) (starts_stopped _ c.args.name.now channels n _ c.loop-channel.writer c.channel.new.self _ _ _ (slice_get-get_or channels n _ c.loop-channel-test.true) c.loop-channel.invariant
    c.in_err-channel.ensures.puts c.in_err-channel.ensures.goes_on.refused)

pub loop-channel-preserved : goal.loop-channel-preserved
loop-channel-preserved g c =
    let channels = c.args.channels.now in
    let n = c.loop-channel.channel-index in
    starts_further _ c.args.name.now channels n _ c.loop-channel.writer c.channel.new.self _ _ _ c.requires (slice_get-get_or channels n _ c.loop-channel-test.true) c.loop-channel.invariant
    c.in_ok-channel.ensures.puts c.channel.ensures.goes_on.there
