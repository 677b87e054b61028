use Rattle.std.proofs.lemmas.Result.{err_from_is_err_and}
use Rattle.cy_tools.proofs.Working.{unloaded, parted, unparted}
use Rattle.cy_tools.proofs.splitting.split.Goals as goal

pub returns-in_err-whole : goal.returns-in_err-whole
returns-in_err-whole g c =
    let p = err_from_is_err_and c.from_residual.result c.from_residual.ensures.1 in
    rw (p.1, p.2) (unloaded c.args.filter.now c.args.from.now c.args.to.now (g.S.Store.shows c.args.store.now) (g.S.Store.shows c.load.new.store) _ c.in_err-whole.ensures)

pub write_passing-parted-requires : goal.write_passing-parted-requires
write_passing-parted-requires g c = c.in_ok-whole.ensures.stand

pub returns-in_err-parted : goal.returns-in_err-parted
returns-in_err-parted g c =
    let p = err_from_is_err_and c.from_residual-in_err-parted.result c.from_residual-in_err-parted.ensures.1 in
    rw (p.1, p.2) (unparted c.args.filter.now c.args.from.now c.args.to.now (g.S.Store.shows c.args.store.now) (g.S.Store.shows c.load.new.store) (g.S.Store.shows c.write_passing-parted.new.store)
    c.in_ok-whole.whole c.in_ok-whole.ensures _ c.in_err-parted.ensures)

pub returns : goal.returns
returns g c =
    parted c.args.filter.now c.args.from.now c.args.to.now (g.S.Store.shows c.args.store.now) (g.S.Store.shows c.load.new.store) (g.S.Store.shows c.write_passing-parted.new.store) c.in_ok-whole.whole
    c.in_ok-whole.ensures c.in_ok-parted.field-0 c.in_ok-parted.ensures
