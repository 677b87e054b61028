use Rattle.std.proofs.Common.{None, refl}
use Rattle.std.proofs.lemmas.Result.{err_from_is_err_and}
use Rattle.cy_tools.proofs.Working.{salvage_works, salvage_fails}
use Rattle.cy_tools.proofs.recovering.write_salvaged.Goals as goal

pub returns-in_err-messages : goal.returns-in_err-messages
returns-in_err-messages g c =
    let p = err_from_is_err_and c.from_residual.result c.from_residual.ensures.1 in
    rw (p.1, p.2) (salvage_fails c.args.to.now c.args.salvaged.now (record { loaded = c.loaded-loaded.result; lets = None }) _ _ _ c.loaded-loaded.ensures refl c.in_err-messages.ensures)

pub returns : goal.returns
returns g c =
    salvage_works c.args.to.now c.args.salvaged.now (record { loaded = c.loaded-loaded.result; lets = None }) _ _ c.in_ok-messages.messages c.dropped.result c.loaded-loaded.ensures refl c.dropped.ensures
    c.in_ok-messages.ensures
