use Rattle.std.proofs.lemmas.Result.{err_from_is_err_and}
use Rattle.cy_args.specs.PlayViews.{play_words_of}
use Rattle.cy_commands.proofs.VerifyExits.{all_found, all_lost}
use Rattle.cy_commands.proofs.commands.verify.verified.Goals as goal

pub returns-in_err-replay : goal.returns-in_err-replay
returns-in_err-replay g c =
    let p = err_from_is_err_and c.from_residual.result c.from_residual.ensures.1 in
    rw (p.1, p.2) (all_lost (play_words_of c.args.play.now) _ _ _ c.in_err-replay.ensures.comes)

pub returns : goal.returns
returns g c =
    all_found (play_words_of c.args.play.now) c.in_ok-replay.replay (g.S.Store.shows c.args.store.now) (g.S.Store.shows c.read_files.new.store) (g.S.Store.shows c.judged-line.new.store) c.judged-line.result
    c.in_ok-replay.ensures.comes c.is_set_out.ensures c.judged-line.ensures
