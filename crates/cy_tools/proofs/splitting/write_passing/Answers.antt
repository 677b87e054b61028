use Rattle.std.proofs.Common.{Some, refl}
use Rattle.std.proofs.lemmas.Result.{err_from_is_err_and}
use Rattle.cy_tools.proofs.Working.{passing_starved, passing_works, passing_fails}
use Rattle.cy_tools.proofs.splitting.write_passing.Goals as goal

pub returns-in_err-lets : goal.returns-in_err-lets
returns-in_err-lets g c =
    let p = err_from_is_err_and c.from_residual.result c.from_residual.ensures.1 in
    rw (p.1, p.2) (passing_starved c.args.filter.now c.args.to.now c.args.whole.now (g.S.Store.shows c.args.store.now) _ _ c.in_err-lets.ensures.only_memory refl)

pub returns-in_err-messages : goal.returns-in_err-messages
returns-in_err-messages g c =
    let p = err_from_is_err_and c.from_residual-in_err-messages.result c.from_residual-in_err-messages.ensures.1 in
    rw (p.1, p.2) (passing_fails c.args.filter.now c.args.to.now c.args.whole.now (record { loaded = c.loaded-loaded.result; lets = Some c.in_ok-lets.lets }) c.in_ok-lets.lets _ _ _
    c.loaded-loaded.ensures refl c.in_ok-lets.ensures.filter c.in_err-messages.ensures)

pub returns : goal.returns
returns g c =
    passing_works c.args.filter.now c.args.to.now c.args.whole.now (record { loaded = c.loaded-loaded.result; lets = Some c.in_ok-lets.lets }) c.in_ok-lets.lets _ _ c.in_ok-messages.messages c.messages.result
    c.loaded-loaded.ensures refl c.in_ok-lets.ensures.filter c.messages.ensures c.in_ok-messages.ensures
