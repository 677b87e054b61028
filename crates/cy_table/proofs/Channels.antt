-- The channel that the component in hand writes.
use Rattle.std.proofs.Common.{ℕ, ◌≡◌, ◌<◌, sym, ◌∙◌, ap, List, length, Option, Some, slice_get}
use Rattle.std.specs.Option.{option_map_or}
use Rattle.wake_core.specs.declared.route.Route.{Route}
use Rattle.cy_table.specs.Steps.{out_at}
use Rattle.cy_table.proofs.Fetching.{route_there}

pub out_is : (kept routes : List Route) (c channel : ℕ) → kept ≡ routes → c < length routes → ((x : Route) → slice_get kept c ≡ Some x → channel ≡ x.out) → channel ≡ out_at routes c
out_is kept routes c channel same less is =
    let u = route_there routes c less in
    is u.route (ap (λ (l : List Route). slice_get l c) same ∙ u.at)
    ∙ sym (ap (λ (o : Option Route). option_map_or (λ (y : Route). y.out) o 0) u.at)
