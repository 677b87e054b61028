use Rattle.std.proofs.Common.{subst, Option}
use Rattle.wake_core.specs.WorldOf.{plain_of}
use Rattle.wake_core.specs.Plain.{Hand}
use Rattle.wake_core.specs.WorldCalls.{IsSender}
use Rattle.wake_core.proofs.Senders.{thread_known, may_send, sender_stepped, taped_sent, may_play}
use Rattle.wake_core.proofs.world.World.tape.Goals as goal

pub sender-requires : goal.sender-requires
sender-requires c = thread_known c.args.self.now c.args.thread c.args.token c.requires.event

pub send-requires-clause-event : goal.send-requires-clause-event
send-requires-clause-event c = may_send c.args.self.now c.args.thread c.args.token c.requires.event c.in-Some.hand (subst (λ (o : Option Hand). IsSender c.args.thread c.args.token.channel o (plain_of c.args.self.now)) c.in-Some.is c.sender.ensures)

pub send-requires-clause-stepped : goal.send-requires-clause-stepped
send-requires-clause-stepped c = sender_stepped c.args.self.now c.args.thread c.args.token c.requires.event c.in-Some.hand (subst (λ (o : Option Hand). IsSender c.args.thread c.args.token.channel o (plain_of c.args.self.now)) c.in-Some.is c.sender.ensures) c.requires.stepped

pub returns-in-Some-clause-event : goal.returns-in-Some-clause-event
returns-in-Some-clause-event c = taped_sent c.args.self.now c.args.thread c.args.token c.requires.event c.in-Some.hand (subst (λ (o : Option Hand). IsSender c.args.thread c.args.token.channel o (plain_of c.args.self.now)) c.in-Some.is c.sender.ensures) _ c.send.ensures.event

pub play-requires : goal.play-requires
play-requires c = may_play c.args.self.now c.args.thread c.args.token c.requires.event (subst (λ (o : Option Hand). IsSender c.args.thread c.args.token.channel o (plain_of c.args.self.now)) c.in-None.is c.sender.ensures)
