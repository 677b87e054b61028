use Rattle.cy_args.specs.Views.{check_words_of}
use Rattle.cy_args.specs.Command.{Check}
use Rattle.cy_commands.proofs.Refusing.{starved}
use Rattle.cy_commands.proofs.CheckExits.{unset, done}
use Rattle.cy_commands.proofs.commands.check.run_check.Goals as goal

pub returns-in-Err : goal.returns-in-Err
returns-in-Err g c = unset (check_words_of c.args.check.now) _ _ c.in-Err.error _ _ c.in-Err.ensures.comes c.due_after_failed_setup.ensures

pub returns-in-Ok-text : goal.returns-in-Ok-text
returns-in-Ok-text g c = done (check_words_of c.args.check.now) c.in-Ok.configuration _ _ c.in-Ok-text.text c.in-Ok.ensures.comes c.in-Ok-text.ensures.text

pub returns-in-Err-text : goal.returns-in-Err-text
returns-in-Err-text g c =
    starved (Check (check_words_of c.args.check.now)) _ _ _ _ c.in-Ok.ensures.comes.same record { status = c.out_of_memory.ensures.status; told = c.out_of_memory.ensures.line }
