-- What a world keeps of a wiring.
use Rattle.std.proofs.Common.{ℕ, ◌≡◌, ◌≤◌, sym, ◌∙◌, ap, List, length, slice_get}
use Rattle.std.proofs.lemmas.List.{length-map}
use Rattle.cy_comp.specs.declared.plan.Plan.{Plan}
use Rattle.cy_comp.specs.Wiring.{IsWiring}
use Rattle.wake_core.specs.declared.entries.TheConstants.{MOST_PLANNED}
use Rattle.wake_core.specs.Run.{Route, route_of, routes_of}
use Rattle.wake_core.specs.Planned.{planned}
use Rattle.wake_core.specs.Fields.{IsFixed}
use Rattle.wake_core.specs.private.Shown.{HaveFew}
use Rattle.wake_core.proofs.Rooted.{its_plan}

-- What is kept of a wiring.
pub fixed_wiring : (names : List (List ℕ)) (plans : List Plan) (counts : List ℕ) → IsWiring names plans → length counts ≡ length names → planned (routes_of plans) counts ≤ MOST_PLANNED → IsFixed (routes_of plans) counts
fixed_wiring names plans counts w counted limited = record {
  few = rw (length-map plans route_of) w.few;
  needed = λ c x at. let p = its_plan names plans w c x at in let l = w.needed c p.0 p.1 in rw (sym p.2) l;
  some_reader = λ c x at. let p = its_plan names plans w c x at in let l = w.some_reader c p.0 p.1 in rw (sym p.2) l;
  few_readers = λ c x at. let p = its_plan names plans w c x at in let l = w.few_readers c p.0 p.1 in rw (sym p.2) l;
  known = λ c x at j r e. let p = its_plan names plans w c x at in rw counted (w.readers_named c p.0 p.1 j r (ap (λ (x : Route). slice_get x.readers j) p.2 ∙ e));
  buffered = λ c x at. let p = its_plan names plans w c x at in let l = w.queues c p.0 p.1 in rw (sym p.2) l;
  limited = limited;
}

pub few_of : (routes : List Route) (counts : List ℕ) → IsFixed routes counts → HaveFew routes
few_of routes counts f = record { many = f.few; readers = f.few_readers }
