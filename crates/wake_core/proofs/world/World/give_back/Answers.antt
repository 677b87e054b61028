use Rattle.std.proofs.Common.{◌<◌, length, refl, sym, ◌∙◌, ap, subst, false, true, None, length-set, arith}
use Rattle.cy_comp.specs.Routine.{RoutineView}
use Rattle.wake_core.specs.WorldOf.{plain_of, to_step}
use Rattle.wake_core.specs.Run.{set_at}
use Rattle.wake_core.specs.Fields.{no_routine}
use Rattle.wake_core.specs.Plain.{Plain}
use Rattle.wake_core.specs.Sound.{Sound}
use Rattle.wake_core.specs.Turns.{GivesBack}
use Rattle.wake_core.proofs.Reading.{read-set, read_is, hands_set}
use Rattle.wake_core.proofs.Storing.{yield_phase, yield_stepping, release_flags, routines_stored, calls_stored, states_stored, waiting_stored, roomy_stored, stored_parts}
use Rattle.wake_core.proofs.Handing.{given_back}
use Rattle.wake_core.proofs.world.World.give_back.Goals as goal

pub index_mut-requires : goal.index_mut-requires
unfolding plain_of
index_mut-requires c = omega (arith, c.holding-croutine.ensures.known, c.args.self.now.sized.routines_fit)

pub index_mut-requires-2 : goal.index_mut-requires-2
unfolding plain_of
index_mut-requires-2 c = omega (arith, c.holding-croutine.ensures.known, c.args.self.now.sized.held_fit)

pub invariant_of-self : goal.invariant_of-self
unfolding plain_of to_step
invariant_of-self c =
    let w = plain_of c.args.self.now in
    let n = c.holding-croutine.result in
    let is = c.holding-croutine.ensures.is in
    let routines = c.args.self.now.routines.items in
    let player : 0 < length c.args.self.now.hands.items = omega (arith, c.args.self.now.sized.hands_fit) in
    let held_fits : n < length c.args.self.now.held.items = omega (arith, c.holding-croutine.ensures.known, c.args.self.now.sized.held_fit) in
    let within : n < length routines = omega (arith, c.holding-croutine.ensures.known, c.args.self.now.sized.routines_fit) in
    let now = c.yielded.ensures ∙ ap (λ (r : RoutineView). record r { state = c.args.state }) (sym (read_is (λ r. r) no_routine routines n c.index_mut.result.now within c.index_mut.ensures.value)) in
    let hand_is = hands_set c.args.self.now.hands.items 0 None player in
    let same = routines_stored routines n c.yielded.new.self c.args.state within now in
    let states = states_stored routines n c.yielded.new.self c.args.state within now ∙ ap (λ k. set_at k c.args.state w.states) is in
    let shown = stored_parts w _ c.args.state states refl (calls_stored routines c.args.self.now.found.items n c.yielded.new.self c.args.state within now) hand_is in
    record {
      sized = rw (length-set routines n c.yielded.new.self, length-set c.args.self.now.held.items n false, length-set c.args.self.now.hands.items 0 None) c.args.self.now.sized;
      flagged = rw (read-set (λ b. b) true c.args.self.now.held.items n false held_fits, hand_is)
          (yield_phase w is c.requires.may _ (λ f has. release_flags 0 n f has c.args.self.now.sound.consistent.held.one c.args.self.now.flagged));
      stepping = rw hand_is (yield_stepping w None c.requires.stepped c.args.self.now.stepping);
      waiting = waiting_stored c.args.state same c.args.self.now.waiting;
      visited = c.args.self.now.visited;
      roomy = roomy_stored c.args.state same c.args.self.now.roomy;
      owing = c.args.self.now.owing;
      counted = c.args.self.now.counted;
      sound = subst Sound (sym shown) (given_back c.args.state w c.requires.may c.args.self.now.sound).1;
    }

pub returns-clause-event : goal.returns-clause-event
unfolding plain_of
returns-clause-event c =
    let w = plain_of c.args.self.now in
    let n = c.holding-croutine.result in
    let routines = c.args.self.now.routines.items in
    let player : 0 < length c.args.self.now.hands.items = omega (arith, c.args.self.now.sized.hands_fit) in
    let within : n < length routines = omega (arith, c.holding-croutine.ensures.known, c.args.self.now.sized.routines_fit) in
    let now = c.yielded.ensures ∙ ap (λ (r : RoutineView). record r { state = c.args.state }) (sym (read_is (λ r. r) no_routine routines n c.index_mut.result.now within c.index_mut.ensures.value)) in
    let states = states_stored routines n c.yielded.new.self c.args.state within now ∙ ap (λ k. set_at k c.args.state w.states) c.holding-croutine.ensures.is in
    let shown = stored_parts w _ c.args.state states refl (calls_stored routines c.args.self.now.found.items n c.yielded.new.self c.args.state within now) (hands_set c.args.self.now.hands.items 0 None player) in
    subst (λ (v : Plain). GivesBack c.args.state w v) (sym shown) (given_back c.args.state w c.requires.may c.args.self.now.sound).0

pub returns-clause-steps : goal.returns-clause-steps
unfolding to_step
returns-clause-steps c = refl
