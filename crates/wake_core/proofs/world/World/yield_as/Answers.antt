use Rattle.std.proofs.Common.{◌<◌, length, refl, sym, ◌∙◌, ap, length-set, arith}
use Rattle.cy_comp.specs.Routine.{RoutineView}
use Rattle.wake_core.specs.WorldOf.{plain_of, to_step}
use Rattle.wake_core.specs.Fields.{no_routine}
use Rattle.wake_core.specs.Plain.{hand, Done}
use Rattle.wake_core.proofs.Reading.{read_is, hands_set}
use Rattle.wake_core.proofs.Flags.{phase_flags}
use Rattle.wake_core.proofs.Storing.{yield_phase, yield_stepping, routines_stored, calls_stored, states_stored, waiting_stored, roomy_stored, stored_world, yields}
use Rattle.wake_core.proofs.Sounding.{yield_sound}
use Rattle.wake_core.proofs.world.World.yield_as.Goals as goal

pub index_mut-requires : goal.index_mut-requires
unfolding plain_of
index_mut-requires c = omega (arith, c.holding-croutine.ensures.known, c.args.self.now.sized.routines_fit)

pub invariant_of-self : goal.invariant_of-self
unfolding plain_of to_step
invariant_of-self c =
    let w = plain_of c.args.self.now in
    let n = c.holding-croutine.result in
    let is = c.holding-croutine.ensures.is in
    let routines = c.args.self.now.routines.items in
    let hands = c.args.self.now.hands.items in
    let thread : c.args.thread < length hands = omega (arith, c.holding-croutine.ensures.thread, c.args.self.now.sized.hands_fit) in
    let within : n < length routines = omega (arith, c.holding-croutine.ensures.known, c.args.self.now.sized.routines_fit) in
    let now = c.yielded.ensures ∙ ap (λ (r : RoutineView). record r { state = c.args.state }) (sym (read_is (λ r. r) no_routine routines n c.index_mut.result.now within c.index_mut.ensures.value)) in
    let hand_is = hands_set hands c.args.thread (hand n Done) thread in
    let same = routines_stored routines n c.yielded.new.self c.args.state within now in
    record {
      sized = rw (length-set routines n c.yielded.new.self, length-set hands c.args.thread (hand n Done)) c.args.self.now.sized;
      flagged = rw hand_is (yield_phase w is c.requires.event _ (λ f has. phase_flags c.args.thread n f Done has c.args.self.now.flagged));
      stepping = rw hand_is (yield_stepping w (hand n Done) c.requires.stepped c.args.self.now.stepping);
      waiting = waiting_stored c.args.state same c.args.self.now.waiting;
      visited = c.args.self.now.visited;
      roomy = roomy_stored c.args.state same c.args.self.now.roomy;
      owing = c.args.self.now.owing;
      counted = c.args.self.now.counted;
      sound = yield_sound c.args.thread _ c.args.state w _ (yields is c.requires.event
          (stored_world w c.args.thread n c.args.state Done (states_stored routines n c.yielded.new.self c.args.state within now) (calls_stored routines c.args.self.now.found.items n c.yielded.new.self c.args.state within now) hand_is)) c.args.self.now.sound;
    }

pub returns-clause-event : goal.returns-clause-event
unfolding plain_of
returns-clause-event c =
    let w = plain_of c.args.self.now in
    let n = c.holding-croutine.result in
    let routines = c.args.self.now.routines.items in
    let thread : c.args.thread < length c.args.self.now.hands.items = omega (arith, c.holding-croutine.ensures.thread, c.args.self.now.sized.hands_fit) in
    let within : n < length routines = omega (arith, c.holding-croutine.ensures.known, c.args.self.now.sized.routines_fit) in
    let now = c.yielded.ensures ∙ ap (λ (r : RoutineView). record r { state = c.args.state }) (sym (read_is (λ r. r) no_routine routines n c.index_mut.result.now within c.index_mut.ensures.value)) in
    yields c.holding-croutine.ensures.is c.requires.event
    (stored_world w c.args.thread n c.args.state Done (states_stored routines n c.yielded.new.self c.args.state within now) (calls_stored routines c.args.self.now.found.items n c.yielded.new.self c.args.state within now)
    (hands_set c.args.self.now.hands.items c.args.thread (hand n Done) thread))

pub returns-clause-steps : goal.returns-clause-steps
unfolding to_step
returns-clause-steps c = refl
