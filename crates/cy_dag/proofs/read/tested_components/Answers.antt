use Rattle.std.proofs.Common.{refl}
use Rattle.std.proofs.lemmas.Result.{err_from_is_err_and}
use Rattle.cy_dag.specs.DagFile.{component_of}
use Rattle.cy_config.proofs.Loops.{mapped_more}
use Rattle.cy_dag.proofs.Tested.{accepted_one, refused_one, all_accepted, all_made}
use Rattle.cy_dag.proofs.read.tested_components.Goals as goal

pub returns-in_err-push_tested-clause-refused : goal.returns-in_err-push_tested-clause-refused
returns-in_err-push_tested-clause-refused c =
    let p = err_from_is_err_and c.from_residual.result c.from_residual.ensures.1 in
    let items = c.loop-fields.components.items in
    rw (p.1, p.2) (refused_one c.args.found.now c.loop-fields.fields-index c.fields-item.result items items (component_of c.fields-item.result.now) c.in_err-push_tested.field-0.0
    c.loop-fields-test.true c.fields-item.is refl c.loop-fields.invariant.behind refl c.in_err-push_tested.ensures.refused)

pub loop-fields-preserved : goal.loop-fields-preserved
loop-fields-preserved c =
    let items = c.loop-fields.components.items in
    let next = component_of c.fields-item.result.now in
    record {
      made = mapped_more component_of c.args.found.now c.loop-fields.fields-index c.fields-item.result items _ next
          c.loop-fields-test.true c.fields-item.is c.loop-fields.invariant.made refl c.in_ok-push_tested.ensures.pushed;
      behind = accepted_one c.args.found.now c.loop-fields.fields-index c.fields-item.result items items _ next
          c.loop-fields-test.true c.fields-item.is refl c.loop-fields.invariant.behind refl c.in_ok-push_tested.ensures.accepted c.in_ok-push_tested.ensures.pushed;
    }

pub returns-clause-components : goal.returns-clause-components
returns-clause-components c = all_made c.args.found.now c.loop-fields.fields-index c.loop-fields.components.items c.loop-fields-test.false c.loop-fields.invariant.made

pub returns-clause-tested : goal.returns-clause-tested
returns-clause-tested c =
    all_accepted c.args.found.now c.loop-fields.fields-index c.loop-fields.components.items c.loop-fields-test.false c.loop-fields.invariant.made c.loop-fields.invariant.behind
