use Rattle.cy_commands.proofs.play.due_played_alone.Goals as goal

pub returns : goal.returns
returns g c = c.due_played.ensures
