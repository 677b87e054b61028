use Rattle.std.proofs.Common.{◌<◌, length, [], sym, ◌∙◌, ap, arith, List, ℕ, map, slice_get}
use Rattle.cy_fuse.specs.Fusion.{Arrival}
use Rattle.wake_core.specs.WorldOf.{plain_of}
use Rattle.wake_core.proofs.Reading.{read_is}
use Rattle.wake_core.proofs.Showing.{few_mapped}
use Rattle.wake_core.proofs.world.World.arrival_roles.Goals as goal

pub index-requires : goal.index-requires
unfolding plain_of
index-requires c = omega (arith, c.requires, c.args.self.now.sized.visitors_fit)

pub returns-clause-arrivals : goal.returns-clause-arrivals
unfolding plain_of
returns-clause-arrivals c =
    let within : c.args.component < length c.args.self.now.visitors.items = omega (arith, c.requires, c.args.self.now.sized.visitors_fit) in
    c.arrival_roles.ensures
    ∙ ap (map (λ (a : Arrival). a.0)) (sym (read_is (λ v. v.arrivals) [] c.args.self.now.visitors.items c.args.component c.index.result.now within c.index.ensures))

pub returns-clause-roles : goal.returns-clause-roles
unfolding plain_of
returns-clause-roles c = λ n r at.
    few_mapped (plain_of c.args.self.now) c.args.component n r (ap (λ (xs : List ℕ). slice_get xs n) (sym (returns-clause-arrivals c)) ∙ at) c.args.self.now.fixed.lawful c.args.self.now.sound
