use Rattle.std.proofs.Common.{rules, ◌≡◌, length, subst}
use Rattle.cy_writer.specs.Order.{Order, HasAll}
use Rattle.cy_writer.proofs.OrderTable.{all_stand}
use Rattle.cy_writer.proofs.order.ChannelOrder.is_full.Goals as goal

pub returns-clause-all : goal.returns-clause-all
returns-clause-all c = λ is.
    let as_many : length c.self.inside.numbers.items ≡ length c.self.inside.places.items = search rules in
    subst (λ (o : Order). HasAll o) c.self.view_is (λ number low. all_stand c.self.inside.numbers.items c.self.inside.places.items number c.self.invariant as_many low)
