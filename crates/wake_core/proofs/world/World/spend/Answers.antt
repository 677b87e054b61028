use Rattle.std.proofs.Common.{◌<◌, length, refl, sym, ◌∙◌, ap, not, true, length-set, arith}
use Rattle.wake_core.specs.WorldOf.{plain_of, to_step}
use Rattle.wake_core.specs.Plain.{hand, Ready, Fresh}
use Rattle.wake_core.proofs.Reading.{read-set, read_is, hands_set}
use Rattle.wake_core.proofs.Flags.{phase_flags, phase_stepping}
use Rattle.wake_core.proofs.Storing.{held_as, spent_world, spends}
use Rattle.wake_core.proofs.Sounding.{spend_sound}
use Rattle.wake_core.proofs.world.World.spend.Goals as goal

pub index-was_spent-requires : goal.index-was_spent-requires
unfolding plain_of
index-was_spent-requires c = omega (arith, c.holding-croutine.ensures.known, c.args.self.now.sized.spent_fit)

pub index-requires : goal.index-requires
unfolding plain_of
index-requires c = omega (arith, c.holding-croutine.ensures.known, c.args.self.now.sized.routines_fit)

pub index_mut-requires : goal.index_mut-requires
unfolding plain_of
index_mut-requires c = omega (arith, c.holding-croutine.ensures.known, c.args.self.now.sized.spent_fit)

pub invariant_of-self : goal.invariant_of-self
unfolding plain_of
invariant_of-self c =
    let w = plain_of c.args.self.now in
    let n = c.holding-croutine.result in
    let is = c.holding-croutine.ensures.is in
    let thread : c.args.thread < length c.args.self.now.hands.items = omega (arith, c.holding-croutine.ensures.thread, c.args.self.now.sized.hands_fit) in
    let spent_fits : n < length c.args.self.now.spent.items = omega (arith, c.holding-croutine.ensures.known, c.args.self.now.sized.spent_fit) in
    let routines_fit : n < length c.args.self.now.routines.items = omega (arith, c.holding-croutine.ensures.known, c.args.self.now.sized.routines_fit) in
    let has = held_as w Fresh is c.requires.held in
    let state_is = c.state.ensures ∙ sym (read_is (λ r. r.state) Ready c.args.self.now.routines.items n c.index.result.now routines_fit c.index.ensures) in
    let spent_is = sym (read_is (λ b. b) true c.args.self.now.spent.items n c.index-was_spent.result.now spent_fits c.index-was_spent.ensures) in
    let hand_is = hands_set c.args.self.now.hands.items c.args.thread (hand n c.phase_after-phase.result) thread in
    record {
      sized = rw (length-set c.args.self.now.spent.items n true, length-set c.args.self.now.hands.items c.args.thread (hand n c.phase_after-phase.result)) c.args.self.now.sized;
      flagged = rw hand_is (phase_flags c.args.thread n Fresh c.phase_after-phase.result has c.args.self.now.flagged);
      stepping = rw hand_is (phase_stepping c.args.thread n Fresh (hand n c.phase_after-phase.result) has (λ e. cc) c.args.self.now.stepping);
      waiting = c.args.self.now.waiting;
      visited = c.args.self.now.visited;
      roomy = c.args.self.now.roomy;
      owing = c.args.self.now.owing;
      counted = c.args.self.now.counted;
      sound = spend_sound c.args.thread _ _ w _ (spends is c.requires
          (spent_world w c.args.thread n state_is spent_is c.phase_after-phase.ensures (read-set (λ b. b) true c.args.self.now.spent.items n true spent_fits) hand_is)) c.args.self.now.sound;
    }

pub returns-clause-event : goal.returns-clause-event
unfolding plain_of
returns-clause-event c =
    let w = plain_of c.args.self.now in
    let n = c.holding-croutine.result in
    let thread : c.args.thread < length c.args.self.now.hands.items = omega (arith, c.holding-croutine.ensures.thread, c.args.self.now.sized.hands_fit) in
    let spent_fits : n < length c.args.self.now.spent.items = omega (arith, c.holding-croutine.ensures.known, c.args.self.now.sized.spent_fit) in
    let routines_fit : n < length c.args.self.now.routines.items = omega (arith, c.holding-croutine.ensures.known, c.args.self.now.sized.routines_fit) in
    let state_is = c.state.ensures ∙ sym (read_is (λ r. r.state) Ready c.args.self.now.routines.items n c.index.result.now routines_fit c.index.ensures) in
    let spent_is = sym (read_is (λ b. b) true c.args.self.now.spent.items n c.index-was_spent.result.now spent_fits c.index-was_spent.ensures) in
    spends c.holding-croutine.ensures.is c.requires
    (spent_world w c.args.thread n state_is spent_is c.phase_after-phase.ensures (read-set (λ b. b) true c.args.self.now.spent.items n true spent_fits)
    (hands_set c.args.self.now.hands.items c.args.thread (hand n c.phase_after-phase.result) thread))

pub returns-clause-answer : goal.returns-clause-answer
unfolding plain_of
returns-clause-answer c =
    let n = c.holding-croutine.result in
    let spent_fits : n < length c.args.self.now.spent.items = omega (arith, c.holding-croutine.ensures.known, c.args.self.now.sized.spent_fit) in
    ap not (sym (read_is (λ b. b) true c.args.self.now.spent.items n c.index-was_spent.result.now spent_fits c.index-was_spent.ensures)
    ∙ ap (plain_of c.args.self.now).spent c.holding-croutine.ensures.is)

pub returns-clause-steps : goal.returns-clause-steps
unfolding to_step
returns-clause-steps c = refl
