use Rattle.std.proofs.Common.{rules, ap}
use Rattle.cy_comp.specs.declared.wiring.Wiring.{Wiring}
use Rattle.wake_core.specs.WorldOf.{plain_of}
use Rattle.wake_core.specs.Rest.{run_shown}
use Rattle.cy_trace_text.specs.TraceText.{trace_text}
use Rattle.cy_commands.specs.declared.failure.File.TheVariants as file
use Rattle.cy_args.specs.PlayViews.{play_words_of}
use Rattle.cy_commands.proofs.PlayWriting.{blames, unrecorded, untold, untraced, written}
use Rattle.cy_commands.proofs.play.write_both.Goals as goal

pub returns-in-Err-clause-writes : goal.returns-in-Err-clause-writes
returns-in-Err-clause-writes g c =
    unrecorded (play_words_of c.args.play.now) c.args.replay (plain_of c.args.world.now) c.tape_list.result.now (g.S.Store.shows c.args.store.now) (g.S.Store.shows c.write_record.new.store) c.in-Err.error c.unwritten.result
    c.tape_list.ensures.tape (blames file.Output c.in-Err.error c.unwritten.result c.unwritten.ensures) c.in-Err.ensures.unbroken c.in-Err.ensures.makes

pub returns-in_err-line-clause-writes : goal.returns-in_err-line-clause-writes
returns-in_err-line-clause-writes g c =
    untold (play_words_of c.args.play.now) c.args.replay (plain_of c.args.world.now) c.tape_list.result.now (g.S.Store.shows c.args.store.now) (g.S.Store.shows c.write_record.new.store) c.from_residual.result
    c.tape_list.ensures.tape c.in_default.ensures.makes.done (search rules) (λ f e. search rules)

pub returns-in-Err-write_trace-clause-writes : goal.returns-in-Err-write_trace-clause-writes
returns-in-Err-write_trace-clause-writes g c =
    let x = c.args.replay in
    let run = run_shown (plain_of c.args.world.now) in
    let text = trace_text c.wiring_of-wiring.result.names c.wiring_of-wiring.result.plans x.list.shadowed run in
    untraced (play_words_of c.args.play.now) x (plain_of c.args.world.now) c.tape_list.result.now text (g.S.Store.shows c.args.store.now) (g.S.Store.shows c.write_record.new.store) (g.S.Store.shows c.write_trace.new.store) c.in-Err-write_trace.error c.unwritten-in-Err-write_trace.result
    c.tape_list.ensures.tape (ap (λ (w : Wiring). trace_text w.names w.plans x.list.shadowed run) c.wiring_of-wiring.ensures) c.in_default.ensures.makes.done
    (blames file.Trace c.in-Err-write_trace.error c.unwritten-in-Err-write_trace.result c.unwritten-in-Err-write_trace.ensures) c.in-Err-write_trace.ensures

pub returns-clause-writes : goal.returns-clause-writes
returns-clause-writes g c =
    let x = c.args.replay in
    let run = run_shown (plain_of c.args.world.now) in
    let text = trace_text c.wiring_of-wiring.result.names c.wiring_of-wiring.result.plans x.list.shadowed run in
    written (play_words_of c.args.play.now) x (plain_of c.args.world.now) c.tape_list.result.now text (g.S.Store.shows c.args.store.now) (g.S.Store.shows c.write_record.new.store) (g.S.Store.shows c.write_trace.new.store) c.in_ok-line.line
    c.tape_list.ensures.tape (ap (λ (w : Wiring). trace_text w.names w.plans x.list.shadowed run) c.wiring_of-wiring.ensures) c.in_default.ensures.makes.done
    (c.in_default.ensures.causes.quiet (λ e. search rules)) c.in_default-write_trace.ensures
