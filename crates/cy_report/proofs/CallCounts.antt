-- The calls of components, counted one component after another.
use Rattle.std.proofs.Common.{ℕ, zero, suc, ◌+◌, ◌*◌, ◌≡◌, ◌≤◌, ◌<◌, List, [], ◌∷◌, length, drop, refl, sym, ap, ◌∙◌, arith}
use Rattle.cy_comp.specs.declared.plan.Plan.{Plan}
use Rattle.wake_core.specs.Run.{Run}
use Rattle.cy_trace.specs.CallCount.{calls_from}

-- the calls so far, and those of the components that follow
pub record CallsSoFar (run : Run) (plans : List Plan) (component count : ℕ) : Type 0 where
  pub few : count ≤ component * 18446744073709551616
  pub so_far : count + calls_from run component (drop component plans) ≡ calls_from run 0 plans

calls_step : (run : Run) (plans : List Plan) (n component : ℕ) → n < length plans → calls_from run component (drop n plans) ≡ length (run.calls component) + calls_from run (component + 1) (drop (suc n) plans)
calls_step run [] n component inside = absurd (omega arith)
calls_step run (p ∷ plans) zero component inside = refl
calls_step run (p ∷ plans) (suc n) component inside = calls_step run plans n component (omega arith)

pub calls_more : (run : Run) (plans : List Plan) (component count here : ℕ) → CallsSoFar run plans component count → component < length plans → here ≡ length (run.calls component) → here ≤ 18446744073709551616 → CallsSoFar run plans (component + 1) (count + here)
calls_more run plans component count here c inside is small =
    let few = c.few in
    let so_far = c.so_far in
    let next : component + 1 ≡ suc component = omega arith in
    let step = calls_step run plans component component inside ∙ ap (λ (n : ℕ). length (run.calls component) + calls_from run (component + 1) (drop n plans)) (sym next) in
    record { few = omega (arith, few, small); so_far = omega (arith, so_far, step, is) }
