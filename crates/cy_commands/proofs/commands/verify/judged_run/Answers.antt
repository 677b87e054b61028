use Rattle.std.proofs.lemmas.Result.{err_from_is_err_and}
use Rattle.cy_setup.specs.Setup.{replayed}
use Rattle.cy_args.specs.PlayViews.{play_words_of}
use Rattle.cy_commands.proofs.VerifyExits.{trace_lost, run_judged}
use Rattle.cy_commands.proofs.commands.verify.judged_run.Goals as goal

pub returns-in_err-trace : goal.returns-in_err-trace
returns-in_err-trace g c =
    let p = err_from_is_err_and c.from_residual.result c.from_residual.ensures.1 in
    let x = c.args.replay.now in
    rw (p.1, p.2) (trace_lost (play_words_of c.args.play.now) x _ _ _ (c.in_err-trace.ensures (replayed x) x.list))

pub returns : goal.returns
returns g c =
    let x = c.args.replay.now in
    run_judged c.runs_are_traces.ensures c.texts_tell_traces.ensures (play_words_of c.args.play.now) x (g.S.Store.shows c.args.store.now) (g.S.Store.shows c.trace_of.new.store) c.in_ok-trace.trace c.run_of-told.result
    c.requires.set_up c.requires.set_out (c.in_ok-trace.ensures (replayed x) x.list) c.run_of-told.ensures.told c.run_of-told.ensures.error
