-- The components that are made are wired over the channels of the record that is made, and few
-- entries are planned.
use Rattle.std.proofs.Common.{◌≡◌, ◌≤◌, ℕ, List, [], ◌∷◌, Bool, true, false, if◌then◌else◌, None, codes, refl, arith, zip}
use Rattle.cy_comp.specs.declared.plan.Plan.{Plan}
use Rattle.cy_wiring.specs.Given.{differs_refusal, written_refusal}
use Rattle.cy_wiring.specs.Triggers.{writers_refusal, ticks_refusal, cycle_refusal, way_back}
use Rattle.cy_wiring.specs.Wiring.{names_of, plans_of, wire_refusal}
use Rattle.cy_dag.specs.declared.config.Config as dag
use Rattle.wake_core.specs.Planned.{planned, planned_count}
use Rattle.wake_core.specs.Run.{routes_of}
use Rattle.cy_made.proofs.ConfigsMade.{averages, filters, holds_back, sums}
use Rattle.cy_made.proofs.DagMade.{four}

abbrev pub configs : List dag.Config
configs = sums ∷ filters ∷ averages ∷ holds_back ∷ []

-- the channels of a record that has messages on /b, too, or has none
abbrev pub channels : Bool → List (List ℕ)
channels one = codes "/a" ∷ (if one then [] else codes "/b" ∷ [])

abbrev pub names : List (List ℕ)
names = codes "/a" ∷ codes "/b" ∷ codes "/sum" ∷ codes "/band" ∷ codes "/win" ∷ codes "/late" ∷ []

abbrev pub plans : List Plan
plans = plans_of names (zip (four [] [] [] []) configs)

pub wired : (one : Bool) (a b c d : List ℕ) → wire_refusal (channels one) (four a b c d) configs ≡ None
unfolding writers_refusal ticks_refusal cycle_refusal way_back differs_refusal written_refusal
wired true a b c d = refl
wired false a b c d = refl

pub names_are : (one : Bool) (a b c d : List ℕ) → names_of (channels one) (zip (four a b c d) configs) ≡ names
names_are true a b c d = refl
names_are false a b c d = refl

pub plans_are : (a b c d : List ℕ) → plans_of names (zip (four a b c d) configs) ≡ plans
plans_are a b c d = refl

pub planned_few : (a b c d e f : ℕ) → a ≤ 1048576 → b ≤ 1048576 → planned (routes_of plans) (a ∷ b ∷ c ∷ d ∷ e ∷ f ∷ []) ≤ 16777216
unfolding planned planned_count
planned_few a b c d e f on_a on_b = omega (arith, on_a, on_b)
