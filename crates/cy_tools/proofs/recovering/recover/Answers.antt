use Rattle.std.proofs.lemmas.Result.{err_from_is_err_and}
use Rattle.cy_tools.proofs.Working.{unsalvaged, recovered, unrecovered}
use Rattle.cy_tools.proofs.recovering.recover.Goals as goal

pub returns-in_err-salvaged : goal.returns-in_err-salvaged
returns-in_err-salvaged g c =
    let p = err_from_is_err_and c.from_residual.result c.from_residual.ensures.1 in
    rw (p.1, p.2) (unsalvaged c.args.from.now c.args.to.now (g.S.Store.shows c.args.store.now) (g.S.Store.shows c.salvage_record.new.store) _ c.in_err-salvaged.ensures)

pub write_salvaged-recovered-requires : goal.write_salvaged-recovered-requires
write_salvaged-recovered-requires g c = c.in_ok-salvaged.ensures.stand

pub returns-in_err-recovered : goal.returns-in_err-recovered
returns-in_err-recovered g c =
    let p = err_from_is_err_and c.from_residual-in_err-recovered.result c.from_residual-in_err-recovered.ensures.1 in
    rw (p.1, p.2) (unrecovered c.args.from.now c.args.to.now (g.S.Store.shows c.args.store.now) (g.S.Store.shows c.salvage_record.new.store) (g.S.Store.shows c.write_salvaged-recovered.new.store)
    c.in_ok-salvaged.salvaged c.in_ok-salvaged.ensures _ c.in_err-recovered.ensures)

pub returns : goal.returns
returns g c =
    recovered c.args.from.now c.args.to.now (g.S.Store.shows c.args.store.now) (g.S.Store.shows c.salvage_record.new.store) (g.S.Store.shows c.write_salvaged-recovered.new.store) c.in_ok-salvaged.salvaged
    c.in_ok-salvaged.ensures c.in_ok-recovered.field-0 c.in_ok-recovered.ensures
