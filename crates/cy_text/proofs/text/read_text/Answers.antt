use Rattle.std.proofs.Common.{◌≡◌, arith, length}
use Rattle.std.proofs.lemmas.Result.{err_from_is_err_and}
use Rattle.cy_text.specs.Views.{view_reading}
use Rattle.cy_text.proofs.TokenSteps as steps
use Rattle.cy_text.proofs.text.read_text.Goals as goal

pub loop-place-init : goal.loop-place-init
loop-place-init c = record {
  reads = steps.read_starts _ c.gap_len-place.result c.args.text.now c.new-reading.ensures c.gap_len-place.ensures.same;
  within = c.gap_len-place.ensures.within;
  token = c.gap_len-place.ensures.token;
}

pub returns-in_err-lexeme : goal.returns-in_err-lexeme
returns-in_err-lexeme c =
    let p = err_from_is_err_and c.from_residual.result c.from_residual.ensures.1 in
    rw (p.1, p.2) (steps.token_fails (view_reading c.loop-place.reading) c.loop-place.place c.args.text.now _ c.loop-place.invariant.reads c.in_err-lexeme.field-0.0
    c.loop-place-test.true (c.loop-place.invariant.token c.loop-place-test.true) (rw c.rest_from.ensures.rest at c.in_err-lexeme.ensures.value))

pub returns-in_err-reading : goal.returns-in_err-reading
returns-in_err-reading c =
    let p = err_from_is_err_and c.from_residual-in_err-reading.result c.from_residual-in_err-reading.ensures.1 in
    rw (p.1, p.2) (steps.step_fails (view_reading c.loop-place.reading) c.loop-place.place c.args.text.now _ c.loop-place.invariant.reads c.in_ok-lexeme.lexeme
    c.loop-place-test.true (c.loop-place.invariant.token c.loop-place-test.true) (rw c.rest_from.ensures.rest at c.in_ok-lexeme.ensures.value)
    (rw c.rest_from.ensures.rest at c.in_ok-lexeme.ensures.there) c.in_err-reading.field-0.0 c.in_err-reading.ensures)

pub loop-place-preserved : goal.loop-place-preserved
loop-place-preserved c =
    let end = c.in_ok-lexeme.lexeme.span.end in
    let text = c.args.text.now in
    let read = steps.stepped (view_reading c.loop-place.reading) c.loop-place.place text _ c.loop-place.invariant.reads c.in_ok-lexeme.lexeme
    c.loop-place-test.true (c.loop-place.invariant.token c.loop-place-test.true) (rw c.rest_from.ensures.rest at c.in_ok-lexeme.ensures.value)
    (rw c.rest_from.ensures.rest at c.in_ok-lexeme.ensures.there) (view_reading c.in_ok-reading.reading) c.in_ok-reading.ensures in
    record {
      reads = steps.gap_passed (view_reading c.in_ok-reading.reading) end c.gap_len.result text _ read (rw c.rest_from-in-loop-place.ensures.rest at c.gap_len.ensures.same);
      within = omega (arith, c.gap_len.ensures.within, c.rest_from-in-loop-place.ensures.count);
      token = steps.gap_token end c.gap_len.result text (rw c.rest_from-in-loop-place.ensures.rest at c.gap_len.ensures.token);
    }

pub returns : goal.returns
returns c =
    let ends : c.loop-place.place ≡ length c.args.text.now = omega (arith, c.loop-place.invariant.within, c.loop-place-test.false) in
    rw (steps.at_end (view_reading c.loop-place.reading) c.loop-place.place c.args.text.now _ c.loop-place.invariant.reads ends) c.finish.ensures
