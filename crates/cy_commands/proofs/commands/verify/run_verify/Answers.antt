use Rattle.cy_args.specs.PlayViews.{play_words_of}
use Rattle.cy_commands.proofs.VerifyExits.{unfound}
use Rattle.cy_commands.proofs.commands.verify.run_verify.Goals as goal

pub returns-in-Err : goal.returns-in-Err
returns-in-Err g c = unfound (play_words_of c.args.play.now) (g.S.Store.shows c.args.store.now) (g.S.Store.shows c.verified.new.store) c.in-Err.error c.due_after_failed_setup.result.status _ c.in-Err.ensures c.due_after_failed_setup.ensures
