use Rattle.std.proofs.lemmas.Result.{err_from_is_err_and}
use Rattle.cy_args.specs.PlayViews.{play_words_of}
use Rattle.cy_commands.proofs.VerifyExits.{both_found, both_lost, still_told}
use Rattle.cy_commands.proofs.commands.verify.judged.Goals as goal

pub returns-in_err-told : goal.returns-in_err-told
returns-in_err-told g c =
    let p = err_from_is_err_and c.from_residual.result c.from_residual.ensures.1 in
    rw (p.1, p.2) (both_lost (play_words_of c.args.play.now) c.args.replay.now _ _ _ c.in_err-told.ensures)

pub compared-line-requires-clause-told : goal.compared-line-requires-clause-told
compared-line-requires-clause-told g c =
    still_told (play_words_of c.args.play.now) c.args.replay.now (g.S.Store.shows c.args.store.now) (g.S.Store.shows c.judged_run.new.store) c.in_ok-told.told c.in_ok-told.ensures.same c.in_ok-told.ensures.found.1

pub returns : goal.returns
returns g c =
    both_found (play_words_of c.args.play.now) c.args.replay.now (g.S.Store.shows c.args.store.now) (g.S.Store.shows c.judged_run.new.store) (g.S.Store.shows c.compared-line.new.store) c.compared-line.result
    c.in_ok-told.ensures.same c.in_ok-told.ensures.found.0 c.compared-line.ensures
