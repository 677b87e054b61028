use Rattle.std.proofs.Common.{◌==◌, ◌∙◌, sym, ap, refl, ℕ, List, position}
use Rattle.wake_core.proofs.Owing.{lists_position, taken_out}
use Rattle.wake_core.proofs.owed.Owed.take_out.Goals as goal

pub unreachable-requires : goal.unreachable-requires
unreachable-requires c = lists_position c.args.component c.args.self.now.clearing.items c.requires
    (ap (λ (xs : List ℕ). position (λ x. x == c.args.component) xs) (sym c.as_slice.ensures.value) ∙ sym c.place_of.ensures ∙ c.in-None.is)

pub returns : goal.returns
returns c = taken_out c.args.component c.in-Some.place c.args.self.now _
    (ap (λ (xs : List ℕ). position (λ x. x == c.args.component) xs) (sym c.as_slice.ensures.value) ∙ sym c.place_of.ensures ∙ c.in-Some.is)
    refl refl refl refl c.remove.ensures.items c.remove.ensures.capacity
