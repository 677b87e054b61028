use Rattle.std.proofs.Common.{List, Bor, ◌+◌, ap, arith, length, refl}
use Rattle.std.proofs.lemmas.List.{length-map}
use Rattle.std.proofs.lemmas.Result.{err_from_is_err_and}
use Rattle.cy_text.specs.Fields.{Fields}
use Rattle.cy_dag.specs.DagFile.{component_of}
use Rattle.cy_dag.specs.declared.dag.DagComponent.{DagComponent}
use Rattle.cy_dag.proofs.DagSteps.{all_accepted, all_described, components_due, count_due, few_described, so_many, timers_due}
use Rattle.cy_dag.proofs.TimersTested.{said}
use Rattle.cy_dag.proofs.read.tested.Goals as goal

pub tested_components-requires : goal.tested_components-requires
tested_components-requires c = omega (arith, c.in_ok-test_count.ensures.few.1)

pub push_timers-requires : goal.push_timers-requires
push_timers-requires c =
    let made = ap (λ (cs : List DagComponent). length cs) c.in_ok-components.ensures.components in
    let long = length-map (said c.args.found.now) component_of in
    let messages = length-map c.args.found.now (λ (m : Bor Fields). m.now) in
    omega (arith, made, long, messages, c.in_ok-test_count.ensures.few.1)

pub returns-in_err-test_count-clause-refused : goal.returns-in_err-test_count-clause-refused
returns-in_err-test_count-clause-refused c =
    let p = err_from_is_err_and c.from_residual.result c.from_residual.ensures.1 in
    let count = so_many c.args.found.now c.args.timers.now (length c.args.found.now + length c.args.timers.now) refl in
    rw (p.1, p.2) (count_due (said c.args.found.now) (said c.args.timers.now) (length c.args.found.now + length c.args.timers.now) count c.in_err-test_count.field-0.0 c.in_err-test_count.ensures.refused)

pub returns-in_err-components-clause-refused : goal.returns-in_err-components-clause-refused
returns-in_err-components-clause-refused c =
    let p = err_from_is_err_and c.from_residual-in_err-components.result c.from_residual-in_err-components.ensures.1 in
    let count = so_many c.args.found.now c.args.timers.now (length c.args.found.now + length c.args.timers.now) refl in
    rw (p.1, p.2) (components_due (said c.args.found.now) (said c.args.timers.now) (length c.args.found.now + length c.args.timers.now) count c.in_err-components.field-0.0 c.in_ok-test_count.ensures.accepted c.in_err-components.ensures.refused)

pub returns-in_err-push_timers-clause-refused : goal.returns-in_err-push_timers-clause-refused
returns-in_err-push_timers-clause-refused c =
    let p = err_from_is_err_and c.from_residual-in_err-push_timers.result c.from_residual-in_err-push_timers.ensures.1 in
    let count = so_many c.args.found.now c.args.timers.now (length c.args.found.now + length c.args.timers.now) refl in
    rw (p.1, p.2) (timers_due (said c.args.found.now) (said c.args.timers.now) (length c.args.found.now + length c.args.timers.now) count c.in_ok-components.components.items c.in_ok-components.ensures.components
    c.in_ok-test_count.ensures.accepted c.in_ok-components.ensures.tested c.in_err-push_timers.field-0.0 c.in_err-push_timers.ensures.refused)

pub returns-clause-components : goal.returns-clause-components
returns-clause-components c =
    let count = so_many c.args.found.now c.args.timers.now (length c.args.found.now + length c.args.timers.now) refl in
    all_described (said c.args.found.now) (said c.args.timers.now) (length c.args.found.now + length c.args.timers.now) count c.in_ok-components.components.items c.push_timers.new.components.items c.in_ok-components.ensures.components c.in_ok-push_timers.ensures.pushed

pub returns-clause-few : goal.returns-clause-few
returns-clause-few c =
    let count = so_many c.args.found.now c.args.timers.now (length c.args.found.now + length c.args.timers.now) refl in
    few_described (said c.args.found.now) (said c.args.timers.now) (length c.args.found.now + length c.args.timers.now) count c.in_ok-components.components.items c.push_timers.new.components.items c.in_ok-components.ensures.components
    c.in_ok-push_timers.ensures.pushed c.in_ok-test_count.ensures.few

pub returns-clause-accepted : goal.returns-clause-accepted
returns-clause-accepted c =
    let count = so_many c.args.found.now c.args.timers.now (length c.args.found.now + length c.args.timers.now) refl in
    all_accepted (said c.args.found.now) (said c.args.timers.now) (length c.args.found.now + length c.args.timers.now) count c.in_ok-components.components.items c.in_ok-components.ensures.components
    c.in_ok-test_count.ensures.accepted c.in_ok-components.ensures.tested c.in_ok-push_timers.ensures.accepted
