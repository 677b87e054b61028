use Rattle.std.proofs.Common.{◌∙◌, ap, sym, arith, Err, length, map}
use Rattle.std.proofs.lemmas.List.{length-map}
use Rattle.cy_comp.specs.declared.plan.Plan.{Plan}
use Rattle.cy_comp.specs.Routine.{new_routine}
use Rattle.wake_core.specs.declared.entries.TheConstants.{MOST_PLANNED}
use Rattle.wake_core.specs.Rest.{at_rest}
use Rattle.cy_verify.proofs.Opening.{opens, visitors_many}
use Rattle.cy_verify.proofs.walk.Walk.new.Goals as goal

pub unreachable-requires : goal.unreachable-requires
unreachable-requires c =
    let many = (c.in-Err-TooMany.ensures.too_many c.in-Err-TooMany.field-0-0).0 (ap Err c.in-Err-TooMany.field-0-is) in
    omega (arith, many.0, many.1, c.requires.limited)

pub followers_of-requires : goal.followers_of-requires
followers_of-requires c =
    ap length c.into_vec.ensures
    ∙ visitors_many c.args.wiring.now.plans c.args.counts.now c.args.stop c.apart-routines.result (c.apart-routines.ensures.shown ∙ ap at_rest c.in-Ok.ensures.opening.opens) c.apart-routines.ensures.fit
    ∙ sym (length-map c.args.wiring.now.plans (λ (p : Plan). new_routine p.kind MOST_PLANNED))
    ∙ sym (ap length (c.in_ok-callers.ensures ∙ ap (map (λ (p : Plan). new_routine p.kind MOST_PLANNED)) c.as_slice.ensures))

pub returns : goal.returns
returns c = record {
  opens = λ tokens shadowed. opens _ c.apart-routines.result c.in_ok-followers.followers c.in_ok-tape.tape c.in_ok-tape.ensures.items (omega (arith, c.in_ok-tape.ensures.exact, c.capacity-most.ensures)) (c.apart-routines.ensures.shown ∙ ap at_rest c.in-Ok.ensures.opening.opens) c.apart-routines.ensures.fit
      (c.in_ok-followers.ensures.followers.0 ∙ c.into_vec.ensures) (c.in_ok-followers.ensures.followers.1 ∙ c.in_ok-callers.ensures ∙ ap (map (λ (p : Plan). new_routine p.kind MOST_PLANNED)) c.as_slice.ensures) c.in_ok-followers.ensures.fresh c.apart-routines.result.fixed.lawful;
}
