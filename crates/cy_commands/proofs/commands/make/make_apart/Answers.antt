use Rattle.std.proofs.Common.{◌∙◌, ap}
use Rattle.cy_commands.specs.private.MakeEnds.{play_named}
use Rattle.cy_commands.proofs.commands.make.make_apart.Goals as goal

pub make_and_play-due-requires-clause-play : goal.make_and_play-due-requires-clause-play
make_and_play-due-requires-clause-play g c κs within = c.play.ensures ∙ ap play_named c.in-Ok.ensures
