use Rattle.std.proofs.Common.{rules, sym, subst, ◌∙◌, ◌≡◌, Some, None, ℕ, Option}
use Rattle.std.proofs.lemmas.Result.{err_from_is_err_and}
use Rattle.cy_answers.specs.Answers.{time_refusal}
use Rattle.cy_answers.specs.declared.error.AnswersError.{AnswersError}
use Rattle.cy_answers.proofs.Answering.{AreJudged, all_judged, none_judged, one_judged, other_judged, refused_there, time_read}
use Rattle.cy_answers.proofs.reading.count_answers.Goals as goal
use Rattle.cy_answers.proofs.reading.count_answers.Goals.{then-is_on+in_ok-test_time, else-is_on}

pub loop-place-init : goal.loop-place-init
loop-place-init c = none_judged c.args.recorded.now c.args.name.now

pub returns-in_err-test_time-clause-refused : goal.returns-in_err-test_time-clause-refused
returns-in_err-test_time-clause-refused c =
    let whole = c.args.recorded.now in
    let time = time_read whole c.loop-place.place _ _ (search rules) c.message-time.ensures.message in
    let p = err_from_is_err_and c.from_residual.result c.from_residual.ensures.1 in
    rw (p.1, p.2) (refused_there whole c.args.name.now c.loop-place.place c.loop-place.before c.loop-place.count (search rules) c.loop-place.invariant (sym c.is_on.ensures ∙ c.if-is_on.true) _
    (subst (λ t. time_refusal c.loop-place.before t ≡ Some c.in_err-test_time.field-0.0) time c.in_err-test_time.ensures.refused))

pub loop-place-preserved : goal.loop-place-preserved
loop-place-preserved c =
    let whole = c.args.recorded.now in
    elim c.if-is_on.branch [
      | then-is_on+in_ok-test_time w ↦
          (let time = time_read whole c.loop-place.place _ _ (search rules) w.message-time.ensures.message in
          rw (w.before-is, w.count-is, time)
          (one_judged whole c.args.name.now c.loop-place.place c.loop-place.before c.loop-place.count (search rules) c.loop-place.invariant (sym c.is_on.ensures ∙ w.if-is_on.true)
          (subst (λ t. time_refusal c.loop-place.before t ≡ None) time w.in_ok-test_time.ensures.accepted)))
      | else-is_on w ↦ rw (w.before-is, w.count-is)
          (other_judged whole c.args.name.now c.loop-place.place c.loop-place.before c.loop-place.count (search rules) c.loop-place.invariant (sym c.is_on.ensures ∙ w.if-is_on.false))
    ]
