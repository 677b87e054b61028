use Rattle.cy_args.specs.Views.{split_words_of}
use Rattle.cy_commands.proofs.KeptExits.{unpartable}
use Rattle.cy_commands.proofs.commands.split.run_split.Goals as goal

pub returns-in-Err : goal.returns-in-Err
returns-in-Err g c = unpartable (split_words_of c.args.split.now) _ _ c.in-Err.error _ _ c.in-Err.ensures.same c.in-Err.ensures.tested c.due_after_failed_setup.ensures
