use Rattle.std.proofs.Common.{◌<◌, None, length, ◌∙◌, arith}
use Rattle.std.proofs.lemmas.Bool.Decides.{nat_tests}
use Rattle.wake_core.specs.WorldOf.{plain_of}
use Rattle.wake_core.proofs.Reading.{read_is}
use Rattle.wake_core.proofs.Senders.{no_sender, its_sender, other_sender}
use Rattle.wake_core.proofs.world.World.sender.Goals as goal

pub returns-in_err-hand : goal.returns-in_err-hand
unfolding plain_of
returns-in_err-hand c =
    let thread : c.args.thread < length c.args.self.now.hands.items = omega (arith, c.requires, c.args.self.now.sized.hands_fit) in
    rw c.from_residual.ensures (no_sender (plain_of c.args.self.now) c.args.thread c.args.channel (read_is (λ h. h) None c.args.self.now.hands.items c.args.thread c.index.result.now thread c.index.ensures ∙ c.in_err-hand.was))

pub out-requires : goal.out-requires
unfolding plain_of
out-requires c =
    let thread : c.args.thread < length c.args.self.now.hands.items = omega (arith, c.requires, c.args.self.now.sized.hands_fit) in
    c.args.self.now.sound.consistent.held.known c.args.thread c.in_ok-hand.hand.croutine c.in_ok-hand.hand.phase (read_is (λ h. h) None c.args.self.now.hands.items c.args.thread c.index.result.now thread c.index.ensures ∙ c.in_ok-hand.was)

pub returns-then-out-channel : goal.returns-then-out-channel
unfolding plain_of
returns-then-out-channel c =
    let thread : c.args.thread < length c.args.self.now.hands.items = omega (arith, c.requires, c.args.self.now.sized.hands_fit) in
    its_sender (plain_of c.args.self.now) c.args.thread c.args.channel c.in_ok-hand.hand (read_is (λ h. h) None c.args.self.now.hands.items c.args.thread c.index.result.now thread c.index.ensures ∙ c.in_ok-hand.was)
    (λ x at. grind (arith, nat_tests, c.out.ensures x at, c.if-out-channel.true))

pub returns-else-out-channel : goal.returns-else-out-channel
unfolding plain_of
returns-else-out-channel c =
    let thread : c.args.thread < length c.args.self.now.hands.items = omega (arith, c.requires, c.args.self.now.sized.hands_fit) in
    other_sender (plain_of c.args.self.now) c.args.thread c.args.channel c.in_ok-hand.hand (read_is (λ h. h) None c.args.self.now.hands.items c.args.thread c.index.result.now thread c.index.ensures ∙ c.in_ok-hand.was)
    (λ x at same. grind (arith, nat_tests, c.out.ensures x at, c.if-out-channel.false, same))
