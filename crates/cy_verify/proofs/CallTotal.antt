-- How many calls were followed.
use Rattle.std.proofs.Common.{ℕ, zero, suc, ◌+◌, ◌*◌, ◌≡◌, ◌≤◌, List, [], ◌∷◌, length, drop, Some, slice_get, refl, sym, ap, ap₂, ◌∙◌, arith}
use Rattle.cy_comp.specs.declared.plan.Plan.{Plan}
use Rattle.wake_core.specs.Rest.{run_shown}
use Rattle.wake_core.specs.Run.{Run}
use Rattle.cy_trace.specs.CallCount.{calls_from}
use Rattle.cy_verify.specs.Verdict.{Task}
use Rattle.cy_verify.specs.declared.follower.Follower.{Follower}
use Rattle.cy_verify.specs.declared.walk.Walk.{Walk}
use Rattle.cy_verify.specs.private.Ending.{call_total, world_in}
use Rattle.cy_verify.proofs.WorldEnded.{calls_are}

-- Those of the components so far, and of those that follow.
pub record TotalSoFar (fs : List Follower) (component count : ℕ) : Type 0 where
  pub few : count ≤ component * 18446744073709551616
  pub so_far : count + call_total (drop component fs) ≡ call_total fs

total_step : (fs : List Follower) (n : ℕ) (f : Follower) → slice_get fs n ≡ Some f → call_total (drop n fs) ≡ length f.routine.calls + call_total (drop (suc n) fs)
total_step [] n f at = cc
total_step (g ∷ fs) zero f at = ap (λ (h : Follower). length h.routine.calls + call_total fs) (one at)
  where
    one : {a b : Follower} → Some a ≡ Some b → a ≡ b
    one e = cc
total_step (g ∷ fs) (suc n) f at = total_step fs n f at

pub total_more : (fs : List Follower) (n count here : ℕ) (f : Follower) → TotalSoFar fs n count → slice_get fs n ≡ Some f → here ≡ length f.routine.calls → here ≤ 18446744073709551616 → TotalSoFar fs (n + 1) (count + here)
total_more fs n count here f t at is small =
    let few = t.few in
    let so_far = t.so_far in
    let next : n + 1 ≡ suc n = omega arith in
    let step = total_step fs n f at ∙ ap (λ (k : ℕ). length f.routine.calls + call_total (drop k fs)) (sym next) in
    record { few = omega (arith, few, small); so_far = omega (arith, so_far, step, is) }

pub total_all : (fs : List Follower) (n count : ℕ) → TotalSoFar fs n count → length fs ≤ n → count ≡ call_total fs
total_all fs n count t all = let so_far = t.so_far in let none = nothing fs n all in omega (arith, so_far, none)
  where
    nothing : (fs : List Follower) (n : ℕ) → length fs ≤ n → call_total (drop n fs) ≡ 0
    nothing [] zero l = refl
    nothing [] (suc n) l = refl
    nothing (f ∷ fs) zero l = absurd (omega (arith, l))
    nothing (f ∷ fs) (suc n) l = nothing fs n (omega (arith, l))

-- They are the calls of a run whose components made them.
total_run : (run : Run) (c : ℕ) (plans : List Plan) (fs : List Follower) → length fs ≡ length plans → ((n : ℕ) (f : Follower) → slice_get fs n ≡ Some f → run.calls (c + n) ≡ f.routine.calls)
    → call_total fs ≡ calls_from run c plans
total_run run c [] [] many each = refl
total_run run c [] (f ∷ fs) many each = cc
total_run run c (p ∷ plans) [] many each = cc
total_run run c (p ∷ plans) (f ∷ fs) many each =
    let here : c + 0 ≡ c = omega arith in
    ap₂ (λ (a b : ℕ). a + b) (ap length (sym (each 0 f refl) ∙ ap run.calls here))
    (total_run run (c + 1) plans fs (omega (arith, many)) (λ n g at.
    let there : c + 1 + n ≡ c + suc n = omega arith in
    ap run.calls there ∙ each (suc n) g at))

pub total_shown : (t : Task) (w : Walk) → length w.followers.items ≡ length t.plans → call_total w.followers.items ≡ calls_from (run_shown (world_in t w)) 0 t.plans
total_shown t w many = total_run (run_shown (world_in t w)) 0 t.plans w.followers.items many (λ n f at.
    let same : 0 + n ≡ n = omega arith in
    ap (run_shown (world_in t w)).calls same ∙ calls_are w.followers.items n f at)
