use Rattle.cyber_cli.proofs.telling.tell.Goals as goal

pub returns-in_default : goal.returns-in_default
returns-in_default g c = c.tell_failure.ensures (g.O.Sink.shows c.args.out.now)
