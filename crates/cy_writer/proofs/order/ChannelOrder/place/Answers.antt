use Rattle.std.proofs.Common.{rules, ◌≡◌, ◌∙◌, ◌<◌, true, ℕ, sym, ap, subst, Option, Some, length}
use Rattle.std.specs.Prelude.{◌==◌}
use Rattle.std.specs.List.{list_any, position}
use Rattle.cy_writer.specs.Order.{Order}
use Rattle.cy_writer.proofs.OrderTable.{read, placed_at, unplaced}
use Rattle.cy_writer.proofs.order.ChannelOrder.place.Goals as goal

pub index-requires : goal.index-requires
index-requires c =
    let there = subst (λ (o : Order). list_any (λ other. c.args.channel == other) o.numbers ≡ true) (sym c.self.view_is) c.requires in
    let low : c.args.channel < length c.self.inside.places.items = c.self.invariant.below c.args.channel there in
    search rules

pub unreachable-requires : goal.unreachable-requires
unreachable-requires c =
    let table = c.self.inside.places.items in
    let there = subst (λ (o : Order). list_any (λ other. c.args.channel == other) o.numbers ≡ true) (sym c.self.view_is) c.requires in
    let here = read table c.args.channel c.index.result.now (c.self.invariant.below c.args.channel there) c.index.ensures ∙ ap (λ (o : Option ℕ). Some o) c.in-None.is in
    unplaced c.self.inside.numbers.items table c.args.channel c.self.invariant here there

pub returns : goal.returns
returns c =
    let table = c.self.inside.places.items in
    let there = subst (λ (o : Order). list_any (λ other. c.args.channel == other) o.numbers ≡ true) (sym c.self.view_is) c.requires in
    let here = read table c.args.channel c.index.result.now (c.self.invariant.below c.args.channel there) c.index.ensures ∙ ap (λ (o : Option ℕ). Some o) c.in-Some.is in
    subst (λ (o : Order). position (λ other. c.args.channel == other) o.numbers ≡ Some c.in-Some.place) c.self.view_is
    (placed_at c.self.inside.numbers.items table c.args.channel c.in-Some.place c.self.invariant here)
