use Rattle.std.proofs.Common.{◌<◌, length, refl, false, true, None, length-set, arith}
use Rattle.wake_core.specs.WorldOf.{plain_of, to_step}
use Rattle.wake_core.proofs.Reading.{read-set, hands_set, with_hands}
use Rattle.wake_core.proofs.Flags.{phase_stepping}
use Rattle.wake_core.proofs.Storing.{release_phase, release_flags, releases}
use Rattle.wake_core.proofs.Sounding.{release_sound}
use Rattle.wake_core.proofs.world.World.release.Goals as goal

pub index_mut-requires : goal.index_mut-requires
unfolding plain_of
index_mut-requires c = omega (arith, c.holding-croutine.ensures.known, c.args.self.now.sized.held_fit)

pub invariant_of-self : goal.invariant_of-self
unfolding plain_of
invariant_of-self c =
    let w = plain_of c.args.self.now in
    let n = c.holding-croutine.result in
    let is = c.holding-croutine.ensures.is in
    let held = c.args.self.now.held.items in
    let hands = c.args.self.now.hands.items in
    let thread : c.args.thread < length hands = omega (arith, c.holding-croutine.ensures.thread, c.args.self.now.sized.hands_fit) in
    let within : n < length held = omega (arith, c.holding-croutine.ensures.known, c.args.self.now.sized.held_fit) in
    let hand_is = hands_set hands c.args.thread None thread in
    record {
      sized = rw (length-set held n false, length-set hands c.args.thread None) c.args.self.now.sized;
      flagged = rw (read-set (λ b. b) true held n false within, hand_is) (release_phase w is c.requires _ (λ f other has. release_flags c.args.thread n f has c.args.self.now.sound.consistent.held.one c.args.self.now.flagged));
      stepping = rw hand_is (release_phase w is c.requires _ (λ f other has. phase_stepping c.args.thread n f None has other c.args.self.now.stepping));
      waiting = c.args.self.now.waiting;
      visited = c.args.self.now.visited;
      roomy = c.args.self.now.roomy;
      owing = c.args.self.now.owing;
      counted = c.args.self.now.counted;
      sound = release_sound c.args.thread _ w _ (releases c.requires (with_hands w hand_is)) c.args.self.now.sound;
    }

pub returns-clause-event : goal.returns-clause-event
unfolding plain_of
returns-clause-event c =
    let thread : c.args.thread < length c.args.self.now.hands.items = omega (arith, c.holding-croutine.ensures.thread, c.args.self.now.sized.hands_fit) in
    releases c.requires (with_hands (plain_of c.args.self.now) (hands_set c.args.self.now.hands.items c.args.thread None thread))

pub returns-clause-steps : goal.returns-clause-steps
unfolding to_step
returns-clause-steps c = refl
