use Rattle.std.proofs.Common.{refl, sym, ◌∙◌, subst, true, length-set, arith}
use Rattle.cy_comp.specs.Routine.{RoutineView}
use Rattle.wake_core.specs.WorldOf.{plain_of, to_step}
use Rattle.wake_core.specs.Plain.{DataWait}
use Rattle.wake_core.specs.Sound.{Sound}
use Rattle.wake_core.proofs.Storing.{waiting_stored, roomy_stored}
use Rattle.wake_core.proofs.Parked.{parked_events, parks_it, stays_so}
use Rattle.wake_core.proofs.Runs.{events_sound}
use Rattle.wake_core.proofs.ParkedWorld.{IsToPark, tests, asked_same, parked_shown}
use Rattle.wake_core.proofs.world.World.park.Goals as goal

pub index-requires : goal.index-requires
unfolding plain_of
index-requires c = omega (arith, c.requires.known, c.args.self.now.sized.routines_fit)

pub index-requires-2 : goal.index-requires-2
unfolding plain_of
index-requires-2 c = omega (arith, c.requires.known, c.args.self.now.sized.visitors_fit)

pub index_mut-requires-then-idles : goal.index_mut-requires-then-idles
unfolding plain_of
index_mut-requires-then-idles c = omega (arith, c.requires.known, c.args.self.now.sized.routines_fit)

pub index_mut-requires : goal.index_mut-requires
unfolding plain_of
index_mut-requires c = omega (arith, c.requires.known, c.args.self.now.sized.spent_fit)

pub invariant_of-self : goal.invariant_of-self
unfolding plain_of
invariant_of-self c =
    let s = c.args.self.now in
    let n = c.args.component in
    let seen : IsToPark s n c.index.result.now = record { rest = c.requires.rest; known = c.requires.known; routine = c.index.ensures; law = c.fetches_find.ensures.find } in
    let nothing = sym (tests s n c.index.result.now seen c.index-2.result.now c.index-2.ensures) ∙ sym c.idles.ensures ∙ c.if-idles.true in
    let r : RoutineView = c.index_mut.result.now in
    let t : IsToPark s n r = record { rest = c.requires.rest; known = c.requires.known; routine = c.index_mut.ensures.value; law = c.fetches_find.ensures.find } in
    let same = asked_same s n r t c.ask.new.self c.ask.ensures in
    record {
      sized = rw (length-set s.routines.items n c.ask.new.self, length-set s.spent.items n true) s.sized;
      flagged = s.flagged;
      stepping = s.stepping;
      waiting = waiting_stored DataWait same s.waiting;
      visited = s.visited;
      roomy = roomy_stored DataWait same s.roomy;
      owing = s.owing;
      counted = s.counted;
      sound = subst Sound (sym (parked_shown s n r t c.ask.new.self c.ask.ensures)) (events_sound c.fetches_find.ensures.find (plain_of s) _ (parked_events n (plain_of s) c.requires.rest c.requires.known c.requires.unstopped s.sound nothing) s.sound);
    }

pub returns-then-idles-clause-parks : goal.returns-then-idles-clause-parks
unfolding plain_of
returns-then-idles-clause-parks c =
    let s = c.args.self.now in
    let n = c.args.component in
    let seen : IsToPark s n c.index.result.now = record { rest = c.requires.rest; known = c.requires.known; routine = c.index.ensures; law = c.fetches_find.ensures.find } in
    let nothing = sym (tests s n c.index.result.now seen c.index-2.result.now c.index-2.ensures) ∙ sym c.idles.ensures ∙ c.if-idles.true in
    let r : RoutineView = c.index_mut.result.now in
    let t : IsToPark s n r = record { rest = c.requires.rest; known = c.requires.known; routine = c.index_mut.ensures.value; law = c.fetches_find.ensures.find } in
    parks_it n (plain_of s) _ nothing (parked_events n (plain_of s) c.requires.rest c.requires.known c.requires.unstopped s.sound nothing) (parked_shown s n r t c.ask.new.self c.ask.ensures)

pub returns-then-idles-clause-steps : goal.returns-then-idles-clause-steps
unfolding to_step
returns-then-idles-clause-steps c = refl

pub returns-else-idles-clause-parks : goal.returns-else-idles-clause-parks
unfolding plain_of
returns-else-idles-clause-parks c =
    let s = c.args.self.now in
    let n = c.args.component in
    let seen : IsToPark s n c.index.result.now = record { rest = c.requires.rest; known = c.requires.known; routine = c.index.ensures; law = c.fetches_find.ensures.find } in
    stays_so n (plain_of s) _ (sym (tests s n c.index.result.now seen c.index-2.result.now c.index-2.ensures) ∙ sym c.idles.ensures ∙ c.if-idles.false) refl
