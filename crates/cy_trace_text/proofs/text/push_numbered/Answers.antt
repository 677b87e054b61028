use Rattle.std.proofs.Common.{ℕ, Bool, List, map, ◌++◌, ◌∙◌, ap, arith}
use Rattle.cy_fuse.specs.Fusion.{Arrival}
use Rattle.cy_comp.specs.declared.call.Call.{Call}
use Rattle.wake_core.specs.WorldOf.{plain_of}
use Rattle.cy_trace_text.specs.TraceText.{component_with}
use Rattle.cy_trace_text.proofs.Starts.{on_ok}
use Rattle.cy_trace_text.proofs.text.push_numbered.Goals as goal

pub push_component-requires : goal.push_component-requires
push_component-requires c = λ n r here. let few = c.arrival_roles.ensures.roles n r here in omega (arith, few)

pub returns : goal.returns
returns c =
    let to = c.args.to.now.items in
    let plan = c.args.plan.now in
    let roles = map (λ (a : Arrival). a.0) ((plain_of c.args.world.now).arrivals c.args.component) in
    let calls = (plain_of c.args.world.now).calls c.args.component in
    on_ok c.push_component.result _ _ (λ so. so
    ∙ ap (λ (came : List ℕ). to ++ component_with c.args.version plan came c.calls_of.result c.has_ended.result) c.arrival_roles.ensures.arrivals
    ∙ ap (λ (made : List Call). to ++ component_with c.args.version plan roles made c.has_ended.result) c.calls_of.ensures
    ∙ ap (λ (ended : Bool). to ++ component_with c.args.version plan roles calls ended) c.has_ended.ensures) c.push_component.ensures
