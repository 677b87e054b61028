use Rattle.std.proofs.Common.{refl}
use Rattle.std.proofs.lemmas.Result.{err_from_is_err_and}
use Rattle.cy_tools.proofs.Working.{unnumbered, unwritten, wrote}
use Rattle.cy_tools.proofs.writing.write_kept.Goals as goal

pub returns-in_err-numbering : goal.returns-in_err-numbering
returns-in_err-numbering g c =
    let p = err_from_is_err_and c.from_residual.result c.from_residual.ensures.1 in
    rw (p.1, p.2) (unnumbered c.args.name.now c.args.kept.now (g.S.Store.shows c.args.store.now) _ _ c.in_err-numbering.ensures.only_memory refl)

pub returns-in_err-write_numbered : goal.returns-in_err-write_numbered
returns-in_err-write_numbered g c =
    let p = err_from_is_err_and c.from_residual-in_err-write_numbered.result c.from_residual-in_err-write_numbered.ensures.1 in
    rw (p.1, p.2) (unwritten c.args.name.now c.args.kept.now (g.S.Store.shows c.args.store.now) _ _ c.in_err-write_numbered.ensures.makes c.in_err-write_numbered.ensures.unbroken c.in_err-write_numbered.ensures.causes)

pub returns : goal.returns
returns g c =
    wrote c.args.name.now c.args.kept.now (g.S.Store.shows c.args.store.now) _ _ c.in_ok-numbering.numbering.count c.in_ok-numbering.ensures.numbering.count c.in_ok-write_numbered.ensures.makes
    c.in_ok-write_numbered.ensures.causes
