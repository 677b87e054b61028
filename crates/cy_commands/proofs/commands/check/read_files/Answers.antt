use Rattle.std.proofs.lemmas.Result.{err_from_is_err_and}
use Rattle.cy_args.specs.Views.{check_words_of}
use Rattle.cy_commands.proofs.CheckExits.{files_stop, not_wired, all_read}
use Rattle.cy_commands.proofs.commands.check.read_files.Goals as goal

pub returns-in_err-configuration-clause-comes : goal.returns-in_err-configuration-clause-comes
returns-in_err-configuration-clause-comes g c =
    let p = err_from_is_err_and c.from_residual.result c.from_residual.ensures.1 in
    rw (p.1, p.2) (files_stop (check_words_of c.args.check.now) _ _ _ c.in_err-configuration.ensures.comes)

pub returns-in-Err-clause-comes : goal.returns-in-Err-clause-comes
returns-in-Err-clause-comes g c =
    not_wired (check_words_of c.args.check.now) c.in_ok-configuration.configuration _ _ _ c.in_ok-configuration.ensures.comes c.in-Err.ensures

pub returns-in-Ok-clause-comes : goal.returns-in-Ok-clause-comes
returns-in-Ok-clause-comes g c = all_read (check_words_of c.args.check.now) c.in_ok-configuration.configuration _ _ _ c.in_ok-configuration.ensures.comes c.in-Ok.ensures
