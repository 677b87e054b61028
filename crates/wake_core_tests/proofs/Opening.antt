-- The world that is made of a wiring of one component.
use Rattle.std.proofs.Common.{ℕ, ◌≡◌, ◌≤◌, refl, ◌∙◌, ap, arith, List, [], ◌∷◌, Some, None, subst, ◌<◌, Result, Ok, Err}
use Rattle.std.proofs.lemmas.Option.{same_Some}
use Rattle.std.specs.Prelude.{IfOk, IfErr, IsErrOf, ◌↔◌}
use Rattle.cy_comp.specs.declared.plan.Plan.{Plan}
use Rattle.wake_core.specs.declared.world.World.{World}
use Rattle.wake_core.specs.declared.error.CoreError.{CoreError}
use Rattle.wake_core.specs.declared.error.CoreError.TheVariants.{TooMany, Memory}
use Rattle.wake_core.specs.declared.entries.TheConstants.{MOST_PLANNED}
use Rattle.wake_core.specs.Run.{routes_of}
use Rattle.wake_core.specs.Planned.{planned, planned_count}
use Rattle.wake_core.specs.Plain.{Stop, opening_world, to_play_from}
use Rattle.wake_core.specs.Fields.{IsWithin}
use Rattle.wake_core.specs.declared.route.Route.{Route}
use Rattle.wake_core.specs.WorldOf.{plain_of, to_step}
use Rattle.wake_core.specs.WorldCalls.{IsNewWorld, IsTooMany}
use Rattle.wake_core_tests.specs.Groups.{Shows}
use Rattle.wake_core_tests.specs.Runs.{passing, summing, stop_after_one}

pub opens : (routes expected : List Route) (counts : List ℕ) (result : Result World CoreError) → routes ≡ expected → IfOk result (λ w. IsNewWorld routes counts None (plain_of w) (to_step w)) → IfOk result (Shows (opening_world expected counts None))
opens routes expected counts (Ok w) is opening = record { plain = opening.opens ∙ ap (λ r. opening_world r counts None) is; stepped = opening.stepped }
opens routes expected counts (Err e) is opening = tt

pub only_memory : (routes expected : List Route) (counts : List ℕ) (result : Result World CoreError) → routes ≡ expected → planned expected counts ≤ MOST_PLANNED
    → ((n : ℕ) → IsErrOf result (TooMany n) ↔ IsTooMany routes counts n) → IfErr result (λ e. e ≡ Memory)
only_memory routes expected counts (Ok w) is few many = tt
only_memory routes expected counts (Err Memory) is few many = refl
only_memory routes expected counts (Err (TooMany n)) is few many =
    let h : IsTooMany routes counts n = (many n).0 refl in
    let same = h.0 ∙ ap (λ r. planned r counts) is in
    let more = h.1 in
    absurd (omega (arith, same, more, few))

pub few_passing : (queue count : ℕ) → count ≤ 4 → planned (passing queue ∷ []) (count ∷ 0 ∷ []) ≤ MOST_PLANNED
unfolding planned planned_count
few_passing queue count few = omega arith

pub few_summing : planned (summing ∷ []) (2 ∷ 0 ∷ 0 ∷ []) ≤ MOST_PLANNED
unfolding planned planned_count
few_summing = omega arith

-- The stop names the component, and is raised within what is played.
pub stop_within : IsWithin (passing 1 ∷ []) (2 ∷ 0 ∷ []) (Some stop_after_one)
stop_within = record {
  component = λ s given. subst (λ (x : Stop). x.component < 1) (same_Some stop_after_one s given) (omega arith);
  after = λ s given. subst (λ (x : Stop). x.after ≤ to_play_from (passing 1 ∷ []) 0 (2 ∷ 0 ∷ [])) (same_Some stop_after_one s given) (omega arith);
}

-- The route of a component.
pub route_is : (p : Plan) (x : Route) → p.kind ≡ x.kind → p.readers ≡ x.readers → p.queue ≡ x.queue → p.overflow ≡ x.overflow → p.out ≡ x.out → routes_of (p ∷ []) ≡ x ∷ []
route_is p x kind readers queue overflow out = rw (kind, readers, queue, overflow, out)
