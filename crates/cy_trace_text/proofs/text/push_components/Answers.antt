use Rattle.wake_core.specs.WorldOf.{plain_of}
use Rattle.wake_core.specs.Rest.{run_shown}
use Rattle.cy_trace_text.proofs.Pushed.{component_added, component_known, components_end}
use Rattle.cy_trace_text.proofs.text.push_components.Goals as goal

pub push_numbered-requires-clause-known : goal.push_numbered-requires-clause-known
push_numbered-requires-clause-known c = component_known c.args.plans.now _ c.loop-place.place c.requires.routes c.loop-place-test.true

pub loop-place-preserved : goal.loop-place-preserved
loop-place-preserved c =
    let l = c.loop-place in
    component_added c.args.version (run_shown (plain_of c.args.world.now)) c.args.plans.now l.place c.index-plans-place.result l.to.items c.push_numbered.new.to.items _ c.loop-place-test.true c.index-plans-place.is l.invariant c.in_ok-push_numbered.ensures

pub returns : goal.returns
returns c = components_end c.args.version (run_shown (plain_of c.args.world.now)) c.args.plans.now c.loop-place.place c.loop-place.to.items _ c.loop-place-test.false c.loop-place.invariant
