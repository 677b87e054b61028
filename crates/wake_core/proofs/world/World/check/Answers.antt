use Rattle.std.proofs.Common.{◌<◌, length, refl, ◌∙◌, ap, length-set, arith}
use Rattle.wake_core.specs.WorldOf.{plain_of, to_step}
use Rattle.wake_core.specs.Plain.{hand, Known, stops}
use Rattle.wake_core.proofs.Reading.{hands_set}
use Rattle.wake_core.proofs.Flags.{phase_flags, phase_stepping}
use Rattle.wake_core.proofs.Storing.{held_as, checks, checked_world}
use Rattle.wake_core.proofs.Sounding.{check_sound}
use Rattle.wake_core.proofs.world.World.check.Goals as goal

pub invariant_of-self : goal.invariant_of-self
unfolding plain_of
invariant_of-self c =
    let w = plain_of c.args.self.now in
    let n = c.holding-croutine.result in
    let is = c.holding-croutine.ensures.is in
    let hands = c.args.self.now.hands.items in
    let f = c.phase_after.result in
    let thread : c.args.thread < length hands = omega (arith, c.holding-croutine.ensures.thread, c.args.self.now.sized.hands_fit) in
    let has = held_as w Known is c.requires.held in
    let hand_is = hands_set hands c.args.thread (hand n f) thread in
    record {
      sized = rw (length-set hands c.args.thread (hand n f)) c.args.self.now.sized;
      flagged = rw hand_is (phase_flags c.args.thread n Known f has c.args.self.now.flagged);
      stepping = rw hand_is (phase_stepping c.args.thread n Known (hand n f) has (λ e. cc) c.args.self.now.stepping);
      waiting = c.args.self.now.waiting;
      visited = c.args.self.now.visited;
      roomy = c.args.self.now.roomy;
      owing = c.args.self.now.owing;
      counted = c.args.self.now.counted;
      sound = check_sound c.args.thread _ w _ (checks is c.requires (checked_world w c.args.thread n c.is_stopped-is_stopped.ensures c.phase_after.ensures hand_is)) c.args.self.now.sound;
    }

pub returns-clause-event : goal.returns-clause-event
unfolding plain_of
returns-clause-event c =
    let w = plain_of c.args.self.now in
    let n = c.holding-croutine.result in
    let hands = c.args.self.now.hands.items in
    let thread : c.args.thread < length hands = omega (arith, c.holding-croutine.ensures.thread, c.args.self.now.sized.hands_fit) in
    checks c.holding-croutine.ensures.is c.requires (checked_world w c.args.thread n c.is_stopped-is_stopped.ensures c.phase_after.ensures (hands_set hands c.args.thread (hand n c.phase_after.result) thread))

pub returns-clause-answer : goal.returns-clause-answer
unfolding plain_of
returns-clause-answer c = c.is_stopped-is_stopped.ensures ∙ ap (stops c.args.self.now.fixed.stop c.args.self.now.raised) c.holding-croutine.ensures.is

pub returns-clause-steps : goal.returns-clause-steps
unfolding to_step
returns-clause-steps c = refl
