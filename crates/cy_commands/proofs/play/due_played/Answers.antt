use Rattle.wake_core.specs.WorldOf.{plain_of}
use Rattle.cy_args.specs.PlayViews.{play_words_of}
use Rattle.cy_commands.proofs.PlayExits.{done, stopped}
use Rattle.cy_commands.proofs.play.due_played.Goals as goal

pub returns-in-Ok-written : goal.returns-in-Ok-written
returns-in-Ok-written g c = λ before came.
    done (play_words_of c.args.play.now) c.args.replay (plain_of c.in-Ok.world) before _ _ c.in-Ok-written.line came c.requires.set_up (rw c.in-Ok.is at c.requires.run) c.in-Ok-written.ensures.writes c.in-Ok-written.ensures.line

pub returns-in-Err : goal.returns-in-Err
returns-in-Err g c = λ before came.
    stopped (play_words_of c.args.play.now) c.args.replay (plain_of c.in-Ok.world) before _ _ c.in-Err.failure _ _ came c.requires.set_up (rw c.in-Ok.is at c.requires.run)
    c.in-Err.ensures.writes c.in-Err.ensures.causes c.due_after.ensures
