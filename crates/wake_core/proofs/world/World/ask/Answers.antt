use Rattle.std.proofs.Common.{◌<◌, length, refl, sym, ◌∙◌, ap, length-set, arith}
use Rattle.cy_comp.specs.Routine.{RoutineView}
use Rattle.wake_core.specs.WorldOf.{plain_of, to_step}
use Rattle.wake_core.specs.Fields.{no_routine}
use Rattle.wake_core.specs.Plain.{hand, DataWait, Checked, Asked}
use Rattle.wake_core.proofs.Reading.{read_is, hands_set}
use Rattle.wake_core.proofs.Flags.{phase_flags, phase_stepping}
use Rattle.wake_core.proofs.Storing.{held_as, routines_stored, calls_stored, states_stored, waiting_stored, roomy_stored, stored_world, asks}
use Rattle.wake_core.proofs.Sounding.{ask_sound}
use Rattle.wake_core.proofs.world.World.ask.Goals as goal

pub index_mut-requires : goal.index_mut-requires
unfolding plain_of
index_mut-requires c = omega (arith, c.holding-croutine.ensures.known, c.args.self.now.sized.routines_fit)

pub invariant_of-self : goal.invariant_of-self
unfolding plain_of
invariant_of-self c =
    let w = plain_of c.args.self.now in
    let n = c.holding-croutine.result in
    let is = c.holding-croutine.ensures.is in
    let routines = c.args.self.now.routines.items in
    let hands = c.args.self.now.hands.items in
    let thread : c.args.thread < length hands = omega (arith, c.holding-croutine.ensures.thread, c.args.self.now.sized.hands_fit) in
    let within : n < length routines = omega (arith, c.holding-croutine.ensures.known, c.args.self.now.sized.routines_fit) in
    let now = c.ask.ensures ∙ ap (λ (r : RoutineView). record r { state = DataWait }) (sym (read_is (λ r. r) no_routine routines n c.index_mut.result.now within c.index_mut.ensures.value)) in
    let has = held_as w Checked is c.requires.held in
    let hand_is = hands_set hands c.args.thread (hand n Asked) thread in
    let same = routines_stored routines n c.ask.new.self DataWait within now in
    record {
      sized = rw (length-set routines n c.ask.new.self, length-set hands c.args.thread (hand n Asked)) c.args.self.now.sized;
      flagged = rw hand_is (phase_flags c.args.thread n Checked Asked has c.args.self.now.flagged);
      stepping = rw hand_is (phase_stepping c.args.thread n Checked (hand n Asked) has (λ e. cc) c.args.self.now.stepping);
      waiting = waiting_stored DataWait same c.args.self.now.waiting;
      visited = c.args.self.now.visited;
      roomy = roomy_stored DataWait same c.args.self.now.roomy;
      owing = c.args.self.now.owing;
      counted = c.args.self.now.counted;
      sound = ask_sound c.args.thread _ w _ (asks is c.requires
          (stored_world w c.args.thread n DataWait Asked (states_stored routines n c.ask.new.self DataWait within now) (calls_stored routines c.args.self.now.found.items n c.ask.new.self DataWait within now) hand_is)) c.args.self.now.sound;
    }

pub returns-clause-event : goal.returns-clause-event
unfolding plain_of
returns-clause-event c =
    let w = plain_of c.args.self.now in
    let n = c.holding-croutine.result in
    let routines = c.args.self.now.routines.items in
    let thread : c.args.thread < length c.args.self.now.hands.items = omega (arith, c.holding-croutine.ensures.thread, c.args.self.now.sized.hands_fit) in
    let within : n < length routines = omega (arith, c.holding-croutine.ensures.known, c.args.self.now.sized.routines_fit) in
    let now = c.ask.ensures ∙ ap (λ (r : RoutineView). record r { state = DataWait }) (sym (read_is (λ r. r) no_routine routines n c.index_mut.result.now within c.index_mut.ensures.value)) in
    asks c.holding-croutine.ensures.is c.requires
    (stored_world w c.args.thread n DataWait Asked (states_stored routines n c.ask.new.self DataWait within now) (calls_stored routines c.args.self.now.found.items n c.ask.new.self DataWait within now)
    (hands_set c.args.self.now.hands.items c.args.thread (hand n Asked) thread))

pub returns-clause-steps : goal.returns-clause-steps
unfolding to_step
returns-clause-steps c = refl
