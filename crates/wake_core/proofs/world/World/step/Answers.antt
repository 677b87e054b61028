use Rattle.std.proofs.Common.{◌<◌, length, length-set, sym, ◌∙◌, ap, subst, None, arith}
use Rattle.cy_comp.specs.Routine.{RoutineView}
use Rattle.wake_core.specs.Sound.{Sound}
use Rattle.wake_core.specs.declared.found.Found.{Found}
use Rattle.wake_core.specs.WorldOf.{plain_of, to_step}
use Rattle.wake_core.specs.Plain.{last_of}
use Rattle.wake_core.specs.Fields.{no_routine}
use Rattle.wake_core.proofs.Reading.{read-set}
use Rattle.wake_core.proofs.Shown.{step_set}
use Rattle.wake_core.proofs.Stepped.{stepped_stepping, stepped_waiting, stepped_roomy}
use Rattle.wake_core.proofs.SteppedWorld.{found_there, none_found, to_be_stepped, some_found, step_effect, as_read, outcome_shown, room_left, may_take}
use Rattle.wake_core.proofs.world.World.step.Goals as goal

pub index-requires : goal.index-requires
unfolding plain_of
index-requires c = omega (arith, c.holding-croutine.ensures.known, c.args.self.now.sized.found_fit)

pub index_mut-requires : goal.index_mut-requires
unfolding plain_of
index_mut-requires c = omega (arith, c.holding-croutine.ensures.known, c.args.self.now.sized.found_fit)

pub index_mut-requires-in-Some : goal.index_mut-requires-in-Some
unfolding plain_of
index_mut-requires-in-Some c = omega (arith, c.holding-croutine.ensures.known, c.args.self.now.sized.routines_fit)

pub unreachable-requires : goal.unreachable-requires
unreachable-requires c = none_found c.args.self.now c.holding-croutine.result c.args.tuple.now c.index.result.now c.holding-croutine.ensures.known c.index.ensures
    (found_there c.args.self.now c.args.thread c.holding-croutine.result c.args.tuple.now c.holding-croutine.ensures.is c.requires) c.in-None.is

pub took-requires : goal.took-requires
took-requires c =
    let f : Found = c.in-Some.found in
    let given = found_there c.args.self.now c.args.thread c.holding-croutine.result c.args.tuple.now c.holding-croutine.ensures.is c.requires in
    let t = to_be_stepped c.args.self.now c.holding-croutine.result c.index_mut-in-Some.result.now f c.args.tuple.now c.index.result.now c.holding-croutine.ensures.known c.index_mut-in-Some.ensures.value c.index.ensures c.in-Some.is given in
    may_take c.args.self.now c.holding-croutine.result c.index_mut-in-Some.result.now f c.args.tuple.now t c.fetches_find.ensures.find

pub returns-clause-outcome : goal.returns-clause-outcome
returns-clause-outcome c =
    let f : Found = c.in-Some.found in
    let given = found_there c.args.self.now c.args.thread c.holding-croutine.result c.args.tuple.now c.holding-croutine.ensures.is c.requires in
    let t = to_be_stepped c.args.self.now c.holding-croutine.result c.index_mut-in-Some.result.now f c.args.tuple.now c.index.result.now c.holding-croutine.ensures.known c.index_mut-in-Some.ensures.value c.index.ensures c.in-Some.is given in
    ap (last_of (plain_of c.args.self.now).routes (plain_of c.args.self.now).calls) (sym c.holding-croutine.ensures.is)
    ∙ outcome_shown c.args.self.now c.holding-croutine.result c.index_mut-in-Some.result.now f c.args.tuple.now t c.took.result c.took.ensures.outcome

pub returns-clause-steps : goal.returns-clause-steps
unfolding plain_of to_step
returns-clause-steps c =
    let component : c.holding-croutine.result < length c.args.self.now.found.items = omega (arith, c.holding-croutine.ensures.known, c.args.self.now.sized.found_fit) in
    step_set c.args.self.now.found.items c.holding-croutine.result _ None c.holding-croutine.ensures.is component

pub returns-clause-same : goal.returns-clause-same
unfolding plain_of
returns-clause-same c =
    let n = c.holding-croutine.result in
    let f : Found = c.in-Some.found in
    let r : RoutineView = c.index_mut-in-Some.result.now in
    let given = found_there c.args.self.now c.args.thread n c.args.tuple.now c.holding-croutine.ensures.is c.requires in
    let t = to_be_stepped c.args.self.now n r f c.args.tuple.now c.index.result.now c.holding-croutine.ensures.known c.index_mut-in-Some.ensures.value c.index.ensures c.in-Some.is given in
    step_effect c.args.self.now n r f c.args.tuple.now t c.took.new.self c.took.ensures.taken c.index_mut-in-Some.ensures.value

pub invariant_of-self : goal.invariant_of-self
unfolding plain_of
invariant_of-self c =
    let n = c.holding-croutine.result in
    let f : Found = c.in-Some.found in
    let r : RoutineView = c.index_mut-in-Some.result.now in
    let given = found_there c.args.self.now c.args.thread n c.args.tuple.now c.holding-croutine.ensures.is c.requires in
    let t = to_be_stepped c.args.self.now n r f c.args.tuple.now c.index.result.now c.holding-croutine.ensures.known c.index_mut-in-Some.ensures.value c.index.ensures c.in-Some.is given in
    let within : n < length c.args.self.now.routines.items = omega (arith, c.holding-croutine.ensures.known, c.args.self.now.sized.routines_fit) in
    let there : n < length c.args.self.now.found.items = omega (arith, c.holding-croutine.ensures.known, c.args.self.now.sized.found_fit) in
    let routine = as_read c.args.self.now n r f c.args.tuple.now t c.took.new.self c.took.ensures.taken in
    let routines = read-set (λ r. r) no_routine c.args.self.now.routines.items n c.took.new.self within in
    let founds = read-set (λ f. f) None c.args.self.now.found.items n None there in
    record {
      sized = rw (length-set c.args.self.now.routines.items n c.took.new.self, length-set c.args.self.now.found.items n None) c.args.self.now.sized;
      flagged = c.args.self.now.flagged;
      stepping = rw founds (stepped_stepping n c.args.self.now.stepping);
      waiting = rw (routines, founds, routine) (stepped_waiting n f.position f.tail c.args.tuple.now (some_found c.args.self.now n r f c.args.tuple.now t) c.args.self.now.waiting);
      visited = c.args.self.now.visited;
      roomy = rw (routines, routine) (stepped_roomy n f.position f.tail c.args.tuple.now (room_left c.args.self.now n r f c.args.tuple.now t) c.args.self.now.roomy);
      owing = c.args.self.now.owing;
      counted = c.args.self.now.counted;
      sound = subst Sound (sym (step_effect c.args.self.now n r f c.args.tuple.now t c.took.new.self c.took.ensures.taken c.index_mut-in-Some.ensures.value)) c.args.self.now.sound;
    }
