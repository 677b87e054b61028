use Rattle.std.proofs.Common.{◌≡◌, Bool, true, false, refl, ◌∙◌, ap, get_or, List}
use Rattle.cy_comp.specs.declared.plan.Plan.{Plan}
use Rattle.cy_trace.specs.declared.trace.TraceComponent.{TraceComponent}
use Rattle.std.specs.Vec.{with_item}
use Rattle.cy_verify.specs.declared.walk.Walk.{Walk}
use Rattle.cy_verify.specs.private.Led.{ended_in}
use Rattle.cy_verify.specs.private.Walking.{names_it}
use Rattle.cy_verify.proofs.Walked.{end_may, end_numbered, end_follows, ended_walks, end_inside}
use Rattle.cy_verify.proofs.WalkEnded.{led_first, led_here, led_next, led_all}
use Rattle.cy_verify.proofs.walk.Walk.finish.Goals as goal

wrong : {b : Bool} → b ≡ true → b ≡ false → ⊥
wrong e n = cc

pub loop-component-init : goal.loop-component-init
loop-component-init c = led_first c.requires.walked

pub index_mut-requires : goal.index_mut-requires
index_mut-requires c = rw c.loop-component.self.followers.ok.0 (end_inside c.args.wiring.now c.loop-component.component (rw (← c.as_slice-plans.ensures) c.loop-component-test.true) c.loop-component.self.followers.items c.loop-component.invariant.to.are_of.many)

pub finish-requires-clause-may : goal.finish-requires-clause-may
finish-requires-clause-may c = rw c.as_slice-tape.ensures.value (end_may c.args.wiring.now c.args.list.now c.args.trace.now.components c.args.self.now c.loop-component.self c.requires.walked c.loop-component.component c.loop-component.invariant.to c.requires.told (rw (← c.as_slice-plans.ensures) c.loop-component-test.true)
    c.index-plans-component.result (c.index-plans-component.is ∙ ap (λ (ps : List Plan). get_or ps c.loop-component.component c.index-plans-component.result) c.as_slice-plans.ensures)
    c.index-told-component.result (c.index-told-component.is ∙ ap (λ (ts : List TraceComponent). get_or ts c.loop-component.component c.index-told-component.result) c.as_slice-told.ensures) c.index_mut.result.now c.index_mut.ensures.value)

pub finish-requires-clause-numbered : goal.finish-requires-clause-numbered
finish-requires-clause-numbered c = rw c.as_slice-tape.ensures.value (end_numbered c.args.wiring.now c.args.list.now c.args.trace.now.components c.args.self.now c.loop-component.self c.requires.walked c.loop-component.component c.loop-component.invariant.to c.requires.told (rw (← c.as_slice-plans.ensures) c.loop-component-test.true)
    c.index-plans-component.result (c.index-plans-component.is ∙ ap (λ (ps : List Plan). get_or ps c.loop-component.component c.index-plans-component.result) c.as_slice-plans.ensures)
    c.index-told-component.result (c.index-told-component.is ∙ ap (λ (ts : List TraceComponent). get_or ts c.loop-component.component c.index-told-component.result) c.as_slice-told.ensures) c.index_mut.result.now c.index_mut.ensures.value)

pub finish-requires-clause-follows : goal.finish-requires-clause-follows
finish-requires-clause-follows c = rw c.as_slice-tape.ensures.value (end_follows c.args.wiring.now c.args.list.now c.args.trace.now.components c.args.self.now c.loop-component.self c.requires.walked c.loop-component.component c.loop-component.invariant.to c.requires.told (rw (← c.as_slice-plans.ensures) c.loop-component-test.true)
    c.index-plans-component.result (c.index-plans-component.is ∙ ap (λ (ps : List Plan). get_or ps c.loop-component.component c.index-plans-component.result) c.as_slice-plans.ensures)
    c.index-told-component.result (c.index-told-component.is ∙ ap (λ (ts : List TraceComponent). get_or ts c.loop-component.component c.index-told-component.result) c.as_slice-told.ensures) c.index_mut.result.now c.index_mut.ensures.value)

pub returns-then-not-finish-clause-same : goal.returns-then-not-finish-clause-same
returns-then-not-finish-clause-same c = ap (λ (w : Walk). record w { followers = with_item c.loop-component.self.followers c.loop-component.component c.finish.new.self }) c.loop-component.invariant.to.same

pub loop-component-preserved : goal.loop-component-preserved
loop-component-preserved c =
    led_next c.args.wiring.now c.args.list.now c.args.trace.now.components c.args.self.now c.loop-component.self c.requires.walked c.loop-component.component c.loop-component.invariant c.requires.told (rw (← c.as_slice-plans.ensures) c.loop-component-test.true)
    c.index-plans-component.result (c.index-plans-component.is ∙ ap (λ (ps : List Plan). get_or ps c.loop-component.component c.index-plans-component.result) c.as_slice-plans.ensures)
    c.index-told-component.result (c.index-told-component.is ∙ ap (λ (ts : List TraceComponent). get_or ts c.loop-component.component c.index-told-component.result) c.as_slice-told.ensures) c.index_mut.result.now c.index_mut.ensures.value
    c.finish.new.self _ c.names_it-is_stopped.result (c.names_it-is_stopped.ensures ∙ ap (λ s. names_it s c.loop-component.component) c.requires.stop) c.finish.ensures.stays (rw (← c.as_slice-tape.ensures.value) (c.if-not-finish.ensures.ended refl)) refl refl
    (λ r lead whole. (c.finish.ensures.leads r (rw c.as_slice-tape.ensures.value lead) (rw c.as_slice-tape.ensures.value whole)).1)

pub returns-clause-walked : goal.returns-clause-walked
returns-clause-walked c = λ _. ended_walks c.args.wiring.now c.args.list.now c.args.trace.now.components c.args.self.now c.loop-component.component c.loop-component.self c.requires.walked c.loop-component.invariant.to (rw (← c.as_slice-plans.ensures) c.loop-component-test.false)

pub returns-clause-same : goal.returns-clause-same
returns-clause-same c = c.loop-component.invariant.to.same

pub returns-clause-leads : goal.returns-clause-leads
returns-clause-leads c = λ p led whole. (refl, led_all c.args.wiring.now c.args.list.now c.args.trace.now.components c.args.self.now c.loop-component.component c.loop-component.self c.loop-component.invariant (rw (← c.as_slice-plans.ensures) c.loop-component-test.false) p led whole)

pub returns-then-not-finish-clause-leads : goal.returns-then-not-finish-clause-leads
returns-then-not-finish-clause-leads c = λ p led whole.
    let here = led_here c.args.wiring.now c.args.list.now c.args.trace.now.components c.args.self.now c.loop-component.self c.requires.walked c.loop-component.component c.loop-component.invariant c.requires.told (rw (← c.as_slice-plans.ensures) c.loop-component-test.true)
    c.index-plans-component.result (c.index-plans-component.is ∙ ap (λ (ps : List Plan). get_or ps c.loop-component.component c.index-plans-component.result) c.as_slice-plans.ensures)
    c.index-told-component.result (c.index-told-component.is ∙ ap (λ (ts : List TraceComponent). get_or ts c.loop-component.component c.index-told-component.result) c.as_slice-told.ensures) c.index_mut.result.now c.index_mut.ensures.value p led c.names_it-is_stopped.result (c.names_it-is_stopped.ensures ∙ ap (λ s. names_it s c.loop-component.component) c.requires.stop) in
    absurd (wrong (c.finish.ensures.leads (ended_in p c.loop-component.component) (rw c.as_slice-tape.ensures.value here) (c.as_slice-tape.ensures.value ∙ ap (λ (w : Walk). w.tape.items) c.loop-component.invariant.to.same ∙ whole)).0 c.if-not-finish.true)
