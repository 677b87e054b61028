use Rattle.std.proofs.Common.{rules, ◌≡◌, ◌<◌, ◌∙◌, ℕ, sym, ap, subst, Option, Some, length}
use Rattle.cy_writer.specs.Order.{Order, with_number}
use Rattle.cy_writer.proofs.OrderTable.{shorter, read, not_some, not_none, fresh, known, noted}
use Rattle.cy_writer.proofs.order.ChannelOrder.note.Goals as goal

pub overflow_cast-place : goal.overflow_cast-place
overflow_cast-place c =
    let most = shorter c.self.inside.numbers.items c.self.inside.places.items c.self.invariant in
    let least = c.self.invariant.few in
    search rules

pub invariant_of-self-then-is_none : goal.invariant_of-self-then-is_none
invariant_of-self-then-is_none c =
    let table = c.self.inside.places.items in
    let low : c.args.channel < length table = subst (λ (o : Order). c.args.channel < o.all) (sym c.self.view_is) c.requires in
    let none = not_some c.index.result.now c.is_none.result c.is_none.ensures c.if-is_none.true in
    let here = read table c.args.channel c.index.result.now low c.index.ensures ∙ ap (λ (o : Option ℕ). Some o) none in
    let count : c.len-place.result ≡ length c.self.inside.numbers.items = search rules in
    rw (c.in_ok-push.ensures.items, count) (noted c.self.inside.numbers.items table c.args.channel c.self.invariant here)

pub returns-in_ok-push-clause-numbers : goal.returns-in_ok-push-clause-numbers
returns-in_ok-push-clause-numbers c =
    let table = c.self.inside.places.items in
    let low : c.args.channel < length table = subst (λ (o : Order). c.args.channel < o.all) (sym c.self.view_is) c.requires in
    let none = not_some c.index.result.now c.is_none.result c.is_none.ensures c.if-is_none.true in
    let here = read table c.args.channel c.index.result.now low c.index.ensures ∙ ap (λ (o : Option ℕ). Some o) none in
    c.in_ok-push.ensures.items ∙ sym (fresh c.self.inside.numbers.items table c.args.channel c.self.invariant here)
    ∙ ap (λ (o : Order). with_number o.numbers c.args.channel) c.self.view_is

pub returns-else-is_none-clause-numbers : goal.returns-else-is_none-clause-numbers
returns-else-is_none-clause-numbers c =
    let table = c.self.inside.places.items in
    let low : c.args.channel < length table = subst (λ (o : Order). c.args.channel < o.all) (sym c.self.view_is) c.requires in
    let some = not_none c.index.result.now c.is_none.result c.is_none.ensures c.if-is_none.false in
    let here = read table c.args.channel c.index.result.now low c.index.ensures ∙ ap (λ (o : Option ℕ). Some o) some.1 in
    subst (λ (o : Order). o.numbers ≡ with_number o.numbers c.args.channel) c.self.view_is
    (sym (known c.self.inside.numbers.items table c.args.channel some.0 c.self.invariant here))
