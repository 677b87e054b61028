use Rattle.std.proofs.Common.{◌<◌, length, refl, ◌∙◌, true, length-set, arith}
use Rattle.wake_core.specs.WorldOf.{plain_of, to_step}
use Rattle.wake_core.specs.Plain.{hand, Fresh}
use Rattle.wake_core.proofs.Reading.{read-set, read_is, hands_set, with_hands}
use Rattle.wake_core.proofs.Flags.{acquire_flags, idle_stepping}
use Rattle.wake_core.proofs.Acquiring.{acquire_refused, acquire_taken, acquired}
use Rattle.wake_core.proofs.Sounding.{acquire_sound}
use Rattle.wake_core.proofs.world.World.acquire.Goals as goal

pub index-requires : goal.index-requires
unfolding plain_of
index-requires c = omega (arith, c.requires.known, c.args.self.now.sized.held_fit)

pub index_mut-requires : goal.index_mut-requires
unfolding plain_of
index_mut-requires c = omega (arith, c.requires.known, c.args.self.now.sized.held_fit)

pub returns-then-index-clause-event : goal.returns-then-index-clause-event
unfolding plain_of
returns-then-index-clause-event c = acquire_refused c.requires (c.args.self.now.flagged.taken c.args.component c.requires.known
    (read_is (λ b. b) true c.args.self.now.held.items c.args.component c.index.result.now (omega (arith, c.requires.known, c.args.self.now.sized.held_fit)) c.index.ensures ∙ c.if-index.true))

pub invariant_of-self : goal.invariant_of-self
unfolding plain_of
invariant_of-self c =
    let thread : c.args.thread < length c.args.self.now.hands.items = omega (arith, c.requires.thread, c.args.self.now.sized.hands_fit) in
    let component : c.args.component < length c.args.self.now.held.items = omega (arith, c.requires.known, c.args.self.now.sized.held_fit) in
    let held = read_is (λ b. b) true c.args.self.now.held.items c.args.component c.index.result.now component c.index.ensures ∙ c.if-index.false in
    let hand_is = hands_set c.args.self.now.hands.items c.args.thread (hand c.args.component Fresh) thread in
    record {
      sized = rw (length-set c.args.self.now.held.items c.args.component true, length-set c.args.self.now.hands.items c.args.thread (hand c.args.component Fresh)) c.args.self.now.sized;
      flagged = rw (read-set (λ b. b) true c.args.self.now.held.items c.args.component true component, hand_is) (acquire_flags c.args.thread c.args.component c.requires.idle c.args.self.now.flagged);
      stepping = rw hand_is (idle_stepping c.args.thread (hand c.args.component Fresh) c.requires.idle c.args.self.now.stepping);
      waiting = c.args.self.now.waiting;
      visited = c.args.self.now.visited;
      roomy = c.args.self.now.roomy;
      owing = c.args.self.now.owing;
      counted = c.args.self.now.counted;
      sound = acquire_sound c.args.thread c.args.component (plain_of c.args.self.now) _
          (acquired c.requires (c.args.self.now.flagged.free c.args.component c.requires.known held) (with_hands (plain_of c.args.self.now) (hands_set c.args.self.now.hands.items c.args.thread (hand c.args.component Fresh) thread))) c.args.self.now.sound;
    }

pub returns-clause-event : goal.returns-clause-event
unfolding plain_of
returns-clause-event c =
    let thread : c.args.thread < length c.args.self.now.hands.items = omega (arith, c.requires.thread, c.args.self.now.sized.hands_fit) in
    let component : c.args.component < length c.args.self.now.held.items = omega (arith, c.requires.known, c.args.self.now.sized.held_fit) in
    let held = read_is (λ b. b) true c.args.self.now.held.items c.args.component c.index.result.now component c.index.ensures ∙ c.if-index.false in
    acquire_taken (acquired c.requires (c.args.self.now.flagged.free c.args.component c.requires.known held) (with_hands (plain_of c.args.self.now) (hands_set c.args.self.now.hands.items c.args.thread (hand c.args.component Fresh) thread)))

pub returns-clause-steps : goal.returns-clause-steps
unfolding to_step
returns-clause-steps c = refl
