use Rattle.std.proofs.Common.{List, ℕ, map}
use Rattle.std.proofs.lemmas.Result.{err_from_is_err_and}
use Rattle.cy_wiring.specs.Given.{differs, differs_refusal}
use Rattle.cy_wiring.specs.private.Pairs.{first_kept, pair_of}
use Rattle.cy_wiring.proofs.GivenSteps.{differs_accepted, differs_due, kept_more}
use Rattle.cy_dag.proofs.LoopSteps.{accepted_more, refused_here}
use Rattle.cy_wiring.proofs.given.test_same.Goals as goal

pub returns-in_err-test_next-clause-refused : goal.returns-in_err-test_next-clause-refused
unfolding differs_refusal
returns-in_err-test_next-clause-refused c =
    let p = err_from_is_err_and c.from_residual.result c.from_residual.ensures.1 in
    let given = c.args.given.now in
    let k = c.loop-value.value-index in
    let g = c.value-item.result in
    let e = c.in_err-test_next.field-0.0 in
    let due = differs_due given k g c.loop-value-test.true c.value-item.is (first_kept c.loop-value.firsts g.value.now.channel) (c.loop-value.invariant.kept g.value.now.channel) e c.in_err-test_next.ensures.refused in
    rw (p.1, p.2) (refused_here pair_of (λ place. differs (map pair_of given)) given k g c.loop-value-test.true c.value-item.is e c.loop-value.invariant.accepted due)

pub loop-value-preserved : goal.loop-value-preserved
loop-value-preserved c =
    let given = c.args.given.now in
    let k = c.loop-value.value-index in
    let g = c.value-item.result in
    let ok = differs_accepted given k g c.loop-value-test.true c.value-item.is (first_kept c.loop-value.firsts g.value.now.channel) (c.loop-value.invariant.kept g.value.now.channel) c.in_ok-test_next.ensures.accepted in
    record {
      kept = λ (q : List ℕ). kept_more given k g q (first_kept c.loop-value.firsts q) _ c.loop-value-test.true c.value-item.is (c.loop-value.invariant.kept q) (c.in_ok-test_next.ensures.kept q);
      accepted = accepted_more pair_of (λ place. differs (map pair_of given)) given k g c.loop-value-test.true c.value-item.is c.loop-value.invariant.accepted ok;
    }
