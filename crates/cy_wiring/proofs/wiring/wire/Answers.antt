use Rattle.std.proofs.Common.{◌∙◌}
use Rattle.std.proofs.lemmas.Result.{err_from_is_err_and}
use Rattle.cy_wiring.proofs.WireSteps.{channels_due, cycles_due, given_due, outs_due, wire_accepted}
use Rattle.cy_wiring.proofs.WiringFacts.{made_wiring}
use Rattle.cy_wiring.proofs.wiring.wire.Goals as goal

pub returns-in_err-test_outs-clause-refused : goal.returns-in_err-test_outs-clause-refused
returns-in_err-test_outs-clause-refused c =
    let p = err_from_is_err_and c.from_residual.result c.from_residual.ensures.1 in
    rw (p.1, p.2) (outs_due c.args.record_channels.now c.args.dag.now.components c.args.configs.now c.as_slice-components.result.now c.as_slice-components.ensures c.in_err-test_outs.field-0.0
    c.in_err-test_outs.ensures.refused)

pub returns-in_err-test_cycles-clause-refused : goal.returns-in_err-test_cycles-clause-refused
returns-in_err-test_cycles-clause-refused c =
    let p = err_from_is_err_and c.from_residual-in_err-test_cycles.result c.from_residual-in_err-test_cycles.ensures.1 in
    rw (p.1, p.2) (cycles_due c.args.record_channels.now c.args.dag.now.components c.args.configs.now c.as_slice-components.result.now c.as_slice-components.ensures c.in_ok-test_outs.ensures.accepted
    c.in_err-test_cycles.field-0.0 c.in_err-test_cycles.ensures.refused)

pub returns-in_err-test_given-clause-refused : goal.returns-in_err-test_given-clause-refused
returns-in_err-test_given-clause-refused c =
    let p = err_from_is_err_and c.from_residual-in_err-test_given.result c.from_residual-in_err-test_given.ensures.1 in
    rw (p.1, p.2) (given_due c.args.record_channels.now c.args.dag.now.components c.args.configs.now c.as_slice-components.result.now c.as_slice-components.ensures c.in_ok-test_outs.ensures.accepted
    c.in_ok-test_cycles.ensures.accepted c.in_err-test_given.field-0.0 c.in_err-test_given.ensures.refused)

pub returns-in_err-names-clause-refused : goal.returns-in_err-names-clause-refused
returns-in_err-names-clause-refused c =
    let p = err_from_is_err_and c.from_residual-in_err-names.result c.from_residual-in_err-names.ensures.1 in
    rw (p.1, p.2) (channels_due c.args.record_channels.now c.args.dag.now.components c.args.configs.now c.as_slice-components.result.now c.as_slice-components.ensures c.in_ok-test_outs.ensures.accepted
    c.in_ok-test_cycles.ensures.accepted c.in_ok-test_given.ensures.accepted c.in_err-names.field-0.0 c.in_err-names.ensures.refused)

pub returns-in-Ok-clause-accepted : goal.returns-in-Ok-clause-accepted
returns-in-Ok-clause-accepted c =
    wire_accepted c.args.record_channels.now c.args.dag.now.components c.args.configs.now c.as_slice-components.result.now c.as_slice-components.ensures c.in_ok-test_outs.ensures.accepted
    c.in_ok-test_cycles.ensures.accepted c.in_ok-test_given.ensures.accepted c.in_ok-names.names c.in_ok-names.ensures.accepted

pub new-requires-in-Ok : goal.new-requires-in-Ok
new-requires-in-Ok c =
    let dag = c.args.dag.now in
    made_wiring c.args.record_channels.now dag.components c.as_slice-components.result.now c.args.configs.now c.in_ok-names.names _ c.as_slice-components.ensures c.requires
    record { few = dag.few; tested = dag.tested; queues = dag.queues; ticks = dag.ticks }
    c.in_ok-test_outs.ensures.accepted c.in_ok-test_cycles.ensures.accepted c.in_ok-names.ensures.accepted.1 (c.new.ensures ∙ c.in-Ok.ensures)
