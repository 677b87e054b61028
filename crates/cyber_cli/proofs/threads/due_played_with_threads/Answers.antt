use Rattle.cyber_cli.proofs.threads.due_played_with_threads.Goals as goal

pub returns : goal.returns
returns g c = c.due_played.ensures
