use Rattle.cy_setup.specs.Steps.{configured}
use Rattle.cy_setup.proofs.Wirings.{wired, not_wired}
use Rattle.cy_setup.proofs.wiring.wire_components.Goals as goal

pub wire-requires : goal.wire-requires
wire-requires c = rw c.as_slice-configs.ensures c.args.configuration.now.fit

pub returns-in-Ok : goal.returns-in-Ok
returns-in-Ok c =
    wired c.args.dag_file.now c.args.record_channels.now (configured c.args.configuration.now) c.as_slice-configs.result.now c.in-Ok.wiring c.as_slice-configs.ensures c.in-Ok.ensures.accepted c.in-Ok.ensures.wired

pub returns-in-Err : goal.returns-in-Err
returns-in-Err c =
    not_wired c.args.dag_file.now c.args.record_channels.now (configured c.args.configuration.now) c.as_slice-configs.result.now c.in-Err.fault c.dag_fault.result c.as_slice-configs.ensures c.in-Err.ensures.refused c.dag_fault.ensures
