use Rattle.std.proofs.lemmas.Result.{err_from_is_err_and}
use Rattle.cy_args.specs.PlayViews.{play_words_of}
use Rattle.cy_commands.proofs.VerifyExits.{line_by, record_lost}
use Rattle.cy_commands.proofs.commands.verify.compared.Goals as goal

pub returns-in_err-compare : goal.returns-in_err-compare
returns-in_err-compare g c =
    let p = err_from_is_err_and c.from_residual.result c.from_residual.ensures.1 in
    rw (p.1, p.2) (record_lost (play_words_of c.args.play.now) c.args.replay.now c.args.told.now (g.S.Store.shows c.args.store.now) (g.S.Store.shows c.compare.new.store) c.requires.told _ c.in_err-compare.ensures)

pub returns : goal.returns
returns g c =
    line_by (play_words_of c.args.play.now) c.args.replay.now c.args.told.now (g.S.Store.shows c.args.store.now) (g.S.Store.shows c.compare.new.store) c.requires.told c.in_ok-compare.field-0 c.tell.result
    c.in_ok-compare.ensures c.tell.ensures.line c.tell.ensures.only_memory
