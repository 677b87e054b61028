use Rattle.std.proofs.Common.{ℕ, List, subst}
use Rattle.cy_store.specs.Store.{SinkView}
use Rattle.cyber_cli.specs.Told.{GetsFront}
use Rattle.cyber_cli.proofs.FrontWritten.{front_written}
use Rattle.cyber_cli.proofs.telling.try_to_tell.Goals as goal

pub returns : goal.returns
returns g c =
    let before : SinkView = g.E.Sink.shows c.args.err.now in
    let after : SinkView = g.E.Sink.shows c.write-told.new.self in
    let P : List ℕ → Type 0 = λ line. GetsFront before after line in
    subst P c.as_bytes.ensures.value
    (front_written c.write-told.result before after c.as_bytes.result.now c.write-told.ensures.written c.write-told.ensures.prefix c.write-told.ensures.memory)
