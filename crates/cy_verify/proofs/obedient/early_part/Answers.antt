use Rattle.std.proofs.Common.{sym, ◌∙◌, arith}
use Rattle.wake_core.specs.Run.{routes_of}
use Rattle.cy_verify.proofs.EarlyTape.{count_none, count_written, count_played, ends_there, ends_last}
use Rattle.cy_verify.proofs.obedient.early_part.Goals as goal

pub loop-place-init : goal.loop-place-init
loop-place-init c = count_none (routes_of c.args.plans.now) c.args.after c.args.tape.now

pub loop-place-preserved-then-is_written : goal.loop-place-preserved-then-is_written
loop-place-preserved-then-is_written c =
    count_written (routes_of c.args.plans.now) c.args.after c.args.tape.now c.loop-place.place c.loop-place.played _ c.loop-place-test.true (sym c.if-is_written.true ∙ c.is_written.ensures) c.loop-place.invariant

pub returns-then-played-after : goal.returns-then-played-after
returns-then-played-after c =
    ends_there (routes_of c.args.plans.now) c.args.after c.args.tape.now c.loop-place.place c.loop-place.played _ c.loop-place-test.true (sym c.if-is_written.false ∙ c.is_written.ensures) c.if-played-after.true c.loop-place.invariant

pub overflow_add-played : goal.overflow_add-played
overflow_add-played c = omega (arith, c.loop-place.invariant.few, c.if-played-after.false, c.ranges.after)

pub loop-place-preserved : goal.loop-place-preserved
loop-place-preserved c =
    count_played (routes_of c.args.plans.now) c.args.after c.args.tape.now c.loop-place.place c.loop-place.played _ c.loop-place-test.true (sym c.if-is_written.false ∙ c.is_written.ensures) c.if-played-after.false c.loop-place.invariant

pub returns : goal.returns
returns c = ends_last (routes_of c.args.plans.now) c.args.after c.args.tape.now c.loop-place.place c.loop-place.played (omega (arith, c.loop-place-test.false, c.loop-place.auto.place-end)) c.loop-place.invariant
