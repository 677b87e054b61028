use Rattle.std.proofs.Common.{List, ℕ, ◌≡◌, ◌<◌, [], length, get_or, subst}
use Rattle.cy_msg.specs.declared.token.Token.{Token}
use Rattle.cy_timer.specs.private.Sources.{IsAt}
use Rattle.cy_timer.proofs.Choosing.{last_taken, message_taken, tick_taken}
use Rattle.cy_timer.proofs.sources.Sources.take_first.Goals as goal

pub returns-in_default : goal.returns-in_default
returns-in_default c =
    let s = c.args.self.now in
    let none = subst (λ (ts : List (List Token)). (k : ℕ) → k < length ts → get_or ts k [] ≡ []) c.deref.ensures.value c.in_default.ensures in
    last_taken s.messages.now s.ticks.items c.take_message.result _ _ s.rising none c.take_message.ensures.messages c.take_message.ensures.ticks

pub returns-then-begin_by : goal.returns-then-begin_by
returns-then-begin_by c =
    let s = c.args.self.now in
    let at = subst (λ (ts : List (List Token)). IsAt ts (length ts) c.in-Some.place c.in-Some.time) c.deref.ensures.value c.in-Some.ensures in
    message_taken s.messages.now s.ticks.items c.in-Some.place c.in-Some.time c.take_message-then-begin_by.result _ _ s.rising at c.if-begin_by.ensures c.take_message-then-begin_by.ensures.messages
    c.take_message-then-begin_by.ensures.ticks

pub returns : goal.returns
returns c =
    let s = c.args.self.now in
    let at = subst (λ (ts : List (List Token)). IsAt ts (length ts) c.in-Some.place c.in-Some.time) c.deref.ensures.value c.in-Some.ensures in
    tick_taken s.messages.now s.ticks.items c.in-Some.place c.in-Some.time c.take_tick.result _ _ s.rising at c.if-begin_by.ensures c.take_tick.ensures.messages c.take_tick.ensures.ticks
