use Rattle.std.proofs.Common.{Bor}
use Rattle.std.proofs.lemmas.Result.{err_from_is_err_and}
use Rattle.cy_text.specs.Fields.{Fields}
use Rattle.cy_config.proofs.Loops.{mapped_more}
use Rattle.cy_dag.specs.Values.{channel_value, each_refusal, value_refusal}
use Rattle.cy_dag.proofs.LoopSteps.{accepted_more, refused_here}
use Rattle.cy_dag.proofs.values.each_value.Goals as goal

pub returns-in_err-value_in-clause-refused : goal.returns-in_err-value_in-clause-refused
unfolding each_refusal
returns-in_err-value_in-clause-refused c =
    let p = err_from_is_err_and c.from_residual.result c.from_residual.ensures.1 in
    rw (p.1, p.2) (refused_here (λ (m : Bor Fields). m.now) (value_refusal c.args.component) c.args.given.now c.loop-place.place c.index-given-place.result c.loop-place-test.true c.index-given-place.is c.in_err-value_in.field-0.0
    c.loop-place.invariant.accepted c.in_err-value_in.ensures.refused)

pub loop-place-preserved : goal.loop-place-preserved
loop-place-preserved c = record {
  made = mapped_more channel_value c.args.given.now c.loop-place.place c.index-given-place.result c.loop-place.values.items _ c.in_ok-value_in.field-0
      c.loop-place-test.true c.index-given-place.is c.loop-place.invariant.made c.in_ok-value_in.ensures.value c.in_ok-push.ensures.items;
  accepted = accepted_more (λ (m : Bor Fields). m.now) (value_refusal c.args.component) c.args.given.now c.loop-place.place c.index-given-place.result c.loop-place-test.true c.index-given-place.is
      c.loop-place.invariant.accepted c.in_ok-value_in.ensures.accepted;
}
