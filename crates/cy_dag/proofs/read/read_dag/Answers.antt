use Rattle.std.proofs.Common.{List, None, ◌≡◌, ◌∙◌, codes, sym, subst}
use Rattle.cy_dag.specs.DagFile.{HaveQueues, HaveTicks, components_refusal, in_modules}
use Rattle.cy_dag.specs.declared.dag.DagComponent.{DagComponent}
use Rattle.cy_dag.proofs.DagSteps.{dag_accepted, fields_due}
use Rattle.cy_dag.proofs.TimerFacts.{all_tested, have_queues, have_ticks}
use Rattle.cy_dag.proofs.read.read_dag.Goals as goal

pub returns-in-Ok-clause-accepted : goal.returns-in-Ok-clause-accepted
returns-in-Ok-clause-accepted c = (dag_accepted c.args.tree.now c.in_ok-unknown.ensures.fits c.in-Ok.ensures.accepted, c.new.ensures ∙ c.in-Ok.ensures.components)

pub returns-in-Err-clause-refused : goal.returns-in-Err-clause-refused
returns-in-Err-clause-refused c = fields_due c.args.tree.now c.in-Err.error c.in_ok-unknown.ensures.fits c.in-Err.ensures.refused

pub invariant_of-result-clause-tested : goal.invariant_of-result-clause-tested
invariant_of-result-clause-tested c =
    let file = c.args.tree.now in
    subst (λ (cs : List DagComponent). components_refusal cs ≡ None) (sym (c.new.ensures ∙ c.in-Ok.ensures.components)) (all_tested (in_modules (codes "components") file) (in_modules (codes "timer_components") file) c.in-Ok.ensures.accepted)

pub invariant_of-result-clause-queues : goal.invariant_of-result-clause-queues
invariant_of-result-clause-queues c =
    let file = c.args.tree.now in
    subst HaveQueues (sym (c.new.ensures ∙ c.in-Ok.ensures.components)) (have_queues (in_modules (codes "components") file) (in_modules (codes "timer_components") file))

pub invariant_of-result-clause-ticks : goal.invariant_of-result-clause-ticks
invariant_of-result-clause-ticks c =
    let file = c.args.tree.now in
    subst HaveTicks (sym (c.new.ensures ∙ c.in-Ok.ensures.components)) (have_ticks (in_modules (codes "components") file) (in_modules (codes "timer_components") file) c.in-Ok.ensures.accepted)
