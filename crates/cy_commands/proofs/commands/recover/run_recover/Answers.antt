use Rattle.cy_args.specs.Views.{recover_words_of}
use Rattle.cy_commands.proofs.KeptExits.{unrecoverable}
use Rattle.cy_commands.proofs.commands.recover.run_recover.Goals as goal

pub returns-in-Err : goal.returns-in-Err
returns-in-Err g c = unrecoverable (recover_words_of c.args.recover.now) _ _ c.in-Err.error _ _ c.in-Err.ensures.same c.in-Err.ensures.tested c.due_after_failed_setup.ensures
