use Rattle.std.proofs.Common.{◌≡◌, ◌<◌, length, length-set, sym, refl, ◌∙◌, ap, Some, None, arith}
use Rattle.cy_comp.specs.Calls.{cursor_after}
use Rattle.cy_comp.specs.Routine.{RoutineView, taken, answer_to}
use Rattle.wake_core.specs.private.NextCall.{next_found}
use Rattle.wake_core.specs.WorldOf.{plain_of, to_step}
use Rattle.wake_core.specs.Plain.{hand, Checked, Empty, Running}
use Rattle.wake_core.proofs.Reading.{hands_set}
use Rattle.wake_core.proofs.Flags.{phase_flags, phase_stepping}
use Rattle.wake_core.proofs.NextCalled.{has_called, has_missed}
use Rattle.wake_core.proofs.CalledWorld.{IsToCall, hand_in, call_next, may_call, made_waiting, made_roomy, made_world, made_event, made_still, missed_waiting, missed_roomy, missed_world, missed_event, missed_still}
use Rattle.wake_core.proofs.world.World.call.Goals as goal

pub index_mut-routine-requires : goal.index_mut-routine-requires
unfolding plain_of
index_mut-routine-requires c = omega (arith, hand_in c.args.self.now c.args.component c.requires.held, c.args.self.now.sized.routines_fit)

pub index-requires : goal.index-requires
unfolding plain_of
index-requires c = omega (arith, hand_in c.args.self.now c.args.component c.requires.held, c.args.self.now.sized.visitors_fit)

pub call_next-requires : goal.call_next-requires
call_next-requires c =
    let s = c.args.self.now in
    let n = c.args.component in
    let r : RoutineView = c.index_mut-routine.result.now in
    let t : IsToCall s n r = record { held = c.requires.held; none_held = c.requires.none_held; routine = c.index_mut-routine.ensures.value; law = c.fetches_find.ensures.find } in
    let a : RoutineView = c.ask.new.self in
    let cursor : cursor_after a.calls ≡ cursor_after r.calls = ap (λ (x : RoutineView). cursor_after x.calls) c.ask.ensures in
    λ x is. may_call s n r t x.0 x.1 x.2 (call_next s n r t c.index.result.now (cursor_after a.calls) (Some x) c.index.ensures cursor (sym is)) a c.ask.ensures

pub invariant_of-self : goal.invariant_of-self
unfolding plain_of
invariant_of-self c =
    let s = c.args.self.now in
    let n = c.args.component in
    let r : RoutineView = c.index_mut-routine.result.now in
    let t : IsToCall s n r = record { held = c.requires.held; none_held = c.requires.none_held; routine = c.index_mut-routine.ensures.value; law = c.fetches_find.ensures.find } in
    let a : RoutineView = c.ask.new.self in
    let cursor : cursor_after a.calls ≡ cursor_after r.calls = ap (λ (x : RoutineView). cursor_after x.calls) c.ask.ensures in
    let h = has_called a c.call_next.new.routine (next_found a c.index.result.now) c.call_next.result c.in-Some.outcome c.call_next.ensures.answer c.call_next.ensures.called c.in-Some.is in
    let next = call_next s n r t c.index.result.now (cursor_after a.calls) (Some (h.tuple, h.position, h.tail)) c.index.ensures cursor (sym h.there) in
    let is = h.kept ∙ ap (λ (x : RoutineView). taken x h.tuple h.position h.tail) c.ask.ensures in
    let thread : 0 < length s.hands.items = omega (arith, s.sized.hands_fit) in
    let hands = hands_set s.hands.items 0 (hand n Running) thread in
    let world = made_world s n r t h.tuple h.position h.tail next c.call_next.new.routine is _ hands in
    record {
      sized = rw (length-set s.routines.items n c.call_next.new.routine, length-set s.hands.items 0 (hand n Running)) s.sized;
      flagged = rw hands (phase_flags 0 n Checked Running c.requires.held.held s.flagged);
      stepping = rw hands (phase_stepping 0 n Checked (hand n Running) c.requires.held.held (λ e. cc) s.stepping);
      waiting = made_waiting s n r t h.tuple h.position h.tail next c.call_next.new.routine is;
      visited = s.visited;
      roomy = made_roomy s n r t h.tuple h.position h.tail next c.call_next.new.routine is _ s.roomy;
      owing = s.owing;
      counted = s.counted;
      sound = made_still s n r t h.tuple h.position h.tail next c.call_next.new.routine is _ world;
    }

pub invariant_of-self-in-None : goal.invariant_of-self-in-None
unfolding plain_of
invariant_of-self-in-None c =
    let s = c.args.self.now in
    let n = c.args.component in
    let r : RoutineView = c.index_mut-routine.result.now in
    let t : IsToCall s n r = record { held = c.requires.held; none_held = c.requires.none_held; routine = c.index_mut-routine.ensures.value; law = c.fetches_find.ensures.find } in
    let a : RoutineView = c.ask.new.self in
    let cursor : cursor_after a.calls ≡ cursor_after r.calls = ap (λ (x : RoutineView). cursor_after x.calls) c.ask.ensures in
    let m = has_missed a c.call_next.new.routine (next_found a c.index.result.now) c.call_next.result c.call_next.ensures.answer c.call_next.ensures.called c.in-None.is in
    let none = call_next s n r t c.index.result.now (cursor_after a.calls) None c.index.ensures cursor (sym m.none) in
    let is = m.stays ∙ c.ask.ensures in
    let thread : 0 < length s.hands.items = omega (arith, s.sized.hands_fit) in
    let hands = hands_set s.hands.items 0 (hand n Empty) thread in
    let world = missed_world s n r t none c.call_next.new.routine is _ hands in
    record {
      sized = rw (length-set s.routines.items n c.call_next.new.routine, length-set s.hands.items 0 (hand n Empty)) s.sized;
      flagged = rw hands (phase_flags 0 n Checked Empty c.requires.held.held s.flagged);
      stepping = rw hands (phase_stepping 0 n Checked (hand n Empty) c.requires.held.held (λ e. cc) s.stepping);
      waiting = missed_waiting s n r t none c.call_next.new.routine is;
      visited = s.visited;
      roomy = missed_roomy s n r t none c.call_next.new.routine is _ s.roomy;
      owing = s.owing;
      counted = s.counted;
      sound = missed_still s n r t none c.call_next.new.routine is _ world;
    }

pub returns-in-Some-clause-event : goal.returns-in-Some-clause-event
unfolding plain_of
returns-in-Some-clause-event c =
    let s = c.args.self.now in
    let n = c.args.component in
    let r : RoutineView = c.index_mut-routine.result.now in
    let t : IsToCall s n r = record { held = c.requires.held; none_held = c.requires.none_held; routine = c.index_mut-routine.ensures.value; law = c.fetches_find.ensures.find } in
    let a : RoutineView = c.ask.new.self in
    let cursor : cursor_after a.calls ≡ cursor_after r.calls = ap (λ (x : RoutineView). cursor_after x.calls) c.ask.ensures in
    let h = has_called a c.call_next.new.routine (next_found a c.index.result.now) c.call_next.result c.in-Some.outcome c.call_next.ensures.answer c.call_next.ensures.called c.in-Some.is in
    let next = call_next s n r t c.index.result.now (cursor_after a.calls) (Some (h.tuple, h.position, h.tail)) c.index.ensures cursor (sym h.there) in
    let is = h.kept ∙ ap (λ (x : RoutineView). taken x h.tuple h.position h.tail) c.ask.ensures in
    let thread : 0 < length s.hands.items = omega (arith, s.sized.hands_fit) in
    let hands = hands_set s.hands.items 0 (hand n Running) thread in
    let world = made_world s n r t h.tuple h.position h.tail next c.call_next.new.routine is _ hands in
    made_event s n r t h.tuple h.position h.tail next c.call_next.new.routine is _ c.in-Some.outcome world (h.answer ∙ ap (λ (x : RoutineView). answer_to x h.tuple) c.ask.ensures)

pub returns-in-Some-clause-steps : goal.returns-in-Some-clause-steps
unfolding to_step
returns-in-Some-clause-steps c = refl

pub returns-in-None-clause-event : goal.returns-in-None-clause-event
unfolding plain_of
returns-in-None-clause-event c =
    let s = c.args.self.now in
    let n = c.args.component in
    let r : RoutineView = c.index_mut-routine.result.now in
    let t : IsToCall s n r = record { held = c.requires.held; none_held = c.requires.none_held; routine = c.index_mut-routine.ensures.value; law = c.fetches_find.ensures.find } in
    let a : RoutineView = c.ask.new.self in
    let cursor : cursor_after a.calls ≡ cursor_after r.calls = ap (λ (x : RoutineView). cursor_after x.calls) c.ask.ensures in
    let m = has_missed a c.call_next.new.routine (next_found a c.index.result.now) c.call_next.result c.call_next.ensures.answer c.call_next.ensures.called c.in-None.is in
    let none = call_next s n r t c.index.result.now (cursor_after a.calls) None c.index.ensures cursor (sym m.none) in
    let is = m.stays ∙ c.ask.ensures in
    let thread : 0 < length s.hands.items = omega (arith, s.sized.hands_fit) in
    let hands = hands_set s.hands.items 0 (hand n Empty) thread in
    let world = missed_world s n r t none c.call_next.new.routine is _ hands in
    missed_event s n r t none c.call_next.new.routine is _ world

pub returns-in-None-clause-steps : goal.returns-in-None-clause-steps
unfolding to_step
returns-in-None-clause-steps c = refl
