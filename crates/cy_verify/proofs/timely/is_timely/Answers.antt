use Rattle.std.proofs.Common.{refl, sym, ◌∙◌}
use Rattle.cy_verify.proofs.Apart.{step_fails, step_goes, walk_ends}
use Rattle.cy_verify.proofs.timely.is_timely.Goals as goal

pub loop-place-init : goal.loop-place-init
loop-place-init c = refl

pub returns-then-not-is_in_time : goal.returns-then-not-is_in_time
returns-then-not-is_in_time c =
    step_fails c.args.plans.now c.args.tape.now c.loop-place.place c.loop-place.held _ c.held_of-writer.result c.loop-place-test.true c.loop-place.invariant c.held_of-writer.ensures
    (sym c.if-not-is_in_time.true ∙ c.is_in_time.ensures)

pub loop-place-preserved : goal.loop-place-preserved
loop-place-preserved c =
    step_goes c.args.plans.now c.args.tape.now c.loop-place.place c.loop-place.held c.held_then-held.result _ c.held_of-writer.result c.loop-place-test.true c.loop-place.invariant c.held_of-writer.ensures
    (sym c.if-not-is_in_time.false ∙ c.is_in_time.ensures) c.held_then-held.ensures

pub returns : goal.returns
returns c = walk_ends c.args.plans.now c.args.tape.now c.loop-place.place c.loop-place.held c.loop-place-test.false c.loop-place.invariant
