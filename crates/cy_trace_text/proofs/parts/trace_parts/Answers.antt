use Rattle.std.proofs.Common.{◌≡◌, ◌++◌, ap, sym, subst, arith, length, flat_map, List, ℕ}
use Rattle.wake_core.specs.Rest.{run_shown}
use Rattle.wake_core.specs.WorldOf.{plain_of}
use Rattle.cy_comp.specs.declared.plan.Plan.{Plan}
use Rattle.cy_trace.specs.LineParts.{version_of}
use Rattle.cy_trace_text.specs.TraceText.{components_text, tape_line}
use Rattle.cy_trace_text.specs.private.Adding.{Adds}
use Rattle.cy_trace_text.specs.Parts.{parts_text, part_text, ArePartsOf}
use Rattle.cy_trace_text.specs.declared.parts.Part.TheVariants.{Head}
use Rattle.cy_trace_text.proofs.Pushed.{components_end}
use Rattle.cy_trace_text.proofs.Parting.{head_first, plan_at, whole_parts, component_text_added}
use Rattle.cy_trace_text.proofs.parts.trace_parts.Goals as goal

pub loop-component-init : goal.loop-component-init
loop-component-init c =
    let w = run_shown (plain_of c.args.world.now) in
    let first = head_first c.args.wiring.now.names c.args.wiring.now.plans w c.new-parts.result.items c.push.new.self.items c.new-parts.ensures.items c.in_ok-push.ensures.items in
    record { fit = first.0; text = λ shadowed. ap (λ l. l ++ components_text (version_of c.args.wiring.now.plans) w 0 c.args.wiring.now.plans) (first.1 shadowed) }

pub loop-component-preserved : goal.loop-component-preserved
loop-component-preserved c =
    let l = c.loop-component in
    let w = run_shown (plain_of c.args.world.now) in
    let plans : List Plan = c.args.wiring.now.plans in
    let there = plan_at plans l.component (omega (arith, c.loop-component-test.true, ap length c.as_slice-component-end.ensures)) in
    record {
      fit = (c.in_ok-push_component_parts.ensures c.args.wiring.now.names plans 0 there.0 there.1).fit l.invariant.fit;
      text = λ shadowed. component_text_added w plans l.component there.0 there.1 _ _ _ (l.invariant.text shadowed)
          ((c.in_ok-push_component_parts.ensures c.args.wiring.now.names plans shadowed there.0 there.1).text);
    }

pub returns-clause-parts : goal.returns-clause-parts
returns-clause-parts c =
    let l = c.loop-component in
    let w = run_shown (plain_of c.args.world.now) in
    let names = c.args.wiring.now.names in
    let plans : List Plan = c.args.wiring.now.plans in
    let adds : (shadowed : ℕ) → Adds names plans shadowed w l.parts.items c.push_tape_parts.new.parts.items (flat_map (tape_line names) w.tape) = λ shadowed. c.in_ok-push_tape_parts.ensures names plans shadowed w (ap length (sym c.tape_list.ensures.tape)) in
    let all : (shadowed : ℕ) → parts_text names plans shadowed w l.parts.items ≡ part_text names plans shadowed w Head ++ components_text (version_of plans) w 0 plans =
    λ shadowed. components_end (version_of plans) w plans l.component (parts_text names plans shadowed w l.parts.items) _ (omega (arith, c.loop-component-test.false, ap length c.as_slice-component-end.ensures)) (l.invariant.text shadowed) in
    subst (ArePartsOf names plans w) (sym c.new.ensures)
    (record { fit = (adds 0).fit l.invariant.fit; whole = λ shadowed. whole_parts names plans shadowed w _ l.parts.items (adds shadowed) (all shadowed) })
