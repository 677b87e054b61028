use Rattle.cy_timer.proofs.Choosing.{rest-rising}
use Rattle.cy_timer.proofs.sources.Sources.take_message.Goals as goal

pub invariant_of-self : goal.invariant_of-self
invariant_of-self c =
    let s = c.args.self.now in
    record { rising = rest-rising s.messages.now c.in_ok-message.message.now c.in_ok-message.rest.now s.ticks.items c.in_ok-message.ensures.cases.0 s.rising }
