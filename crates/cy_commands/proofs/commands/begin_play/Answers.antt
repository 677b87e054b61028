use Rattle.cy_args.specs.PlayViews.{play_words_of}
use Rattle.cy_commands.proofs.PlayExits.{unset}
use Rattle.cy_commands.proofs.commands.begin_play.Goals as goal

pub returns-in-Err-clause-begun : goal.returns-in-Err-clause-begun
returns-in-Err-clause-begun g c = unset (play_words_of c.args.play.now) _ _ c.in-Err.error _ _ c.in-Err.ensures.comes c.due_after_failed_setup.ensures
