use Rattle.std.proofs.Common.{◌≡◌, ◌∙◌, List, ℕ, Result, Err, rules, subst}
use Rattle.std.proofs.lemmas.Result.{err_from_is_err_and}
use Rattle.cy_trace.specs.TraceForm.{ReadsTrace}
use Rattle.cy_trace.specs.declared.error.TraceError.{TraceError}
use Rattle.cy_trace.specs.declared.error.TraceError.TheVariants as trace_error
use Rattle.cy_trace.specs.declared.trace.Trace.{Trace}
use Rattle.cy_args.specs.PlayViews.{play_words_of}
use Rattle.cy_commands.proofs.VerifyExits.{text_read, trace_bad, trace_unread}
use Rattle.cy_commands.proofs.commands.verify.trace_of.Goals as goal

pub returns-in_err-text : goal.returns-in_err-text
returns-in_err-text g c = λ read list.
    let p = err_from_is_err_and c.from_residual.result c.from_residual.ensures.1 in
    rw (p.1, p.2) (trace_unread (play_words_of c.args.play.now) read list _ _ _ c.in_err-text.ensures.comes)

pub returns-in-Err-Bad : goal.returns-in-Err-Bad
returns-in-Err-Bad g c = λ read list.
    let w = play_words_of c.args.play.now in
    let is : c.read_trace-trace.result ≡ Err (trace_error.Bad c.in-Err-Bad.line) = search rules in
    let first = subst (λ (r : Result Trace TraceError). ReadsTrace c.as_slice.result.now r) is c.read_trace-trace.ensures in
    let reads = subst (λ (t : List ℕ). let r : Result Trace TraceError = Err (trace_error.Bad c.in-Err-Bad.line) in ReadsTrace t r) (c.as_slice.ensures.value ∙ c.take_room.ensures) first in
    trace_bad w read list c.in_ok-text.text.items c.in-Err-Bad.line c.refused.result (g.S.Store.shows c.args.store.now) (g.S.Store.shows c.read_trace_file.new.store)
    (text_read w c.in_ok-text.text (g.S.Store.shows c.args.store.now) (g.S.Store.shows c.read_trace_file.new.store) c.in_ok-text.ensures.comes) reads c.refused.ensures
