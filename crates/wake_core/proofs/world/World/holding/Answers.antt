use Rattle.std.proofs.Common.{None, ◌∙◌, arith}
use Rattle.wake_core.specs.WorldOf.{plain_of}
use Rattle.wake_core.proofs.Reading.{read_is, read_within}
use Rattle.wake_core.proofs.Holding.{in_hand_is, hand_known}
use Rattle.wake_core.proofs.world.World.holding.Goals as goal

pub index-requires : goal.index-requires
unfolding plain_of
index-requires c = omega (arith, read_within (λ h. h) None c.args.self.now.hands.items c.args.thread c.requires)

pub unreachable-requires : goal.unreachable-requires
unfolding plain_of
unreachable-requires c =
    let within = read_within (λ h. h) None c.args.self.now.hands.items c.args.thread c.requires in
    c.requires (read_is (λ h. h) None c.args.self.now.hands.items c.args.thread c.index.result.now within c.index.ensures ∙ c.in-None.is)

pub returns-clause-is : goal.returns-clause-is
unfolding plain_of
returns-clause-is c =
    let within = read_within (λ h. h) None c.args.self.now.hands.items c.args.thread c.requires in
    in_hand_is (plain_of c.args.self.now) c.args.thread c.in-Some.hand (read_is (λ h. h) None c.args.self.now.hands.items c.args.thread c.index.result.now within c.index.ensures ∙ c.in-Some.is)

pub returns-clause-known : goal.returns-clause-known
unfolding plain_of
returns-clause-known c =
    let within = read_within (λ h. h) None c.args.self.now.hands.items c.args.thread c.requires in
    hand_known (plain_of c.args.self.now) c.args.thread c.in-Some.hand (read_is (λ h. h) None c.args.self.now.hands.items c.args.thread c.index.result.now within c.index.ensures ∙ c.in-Some.is)
    c.args.self.now.sound

pub returns-clause-thread : goal.returns-clause-thread
unfolding plain_of
returns-clause-thread c =
    let within = read_within (λ h. h) None c.args.self.now.hands.items c.args.thread c.requires in
    omega (arith, within, c.args.self.now.sized.hands_fit)
