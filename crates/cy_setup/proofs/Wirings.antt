-- A wiring, or why there is none.
use Rattle.std.proofs.Common.{ℕ, ◌≡◌, List, Option, Some, None, Result, Ok, Err, sym, ap, subst, ◌∙◌}
use Rattle.std.specs.List.{zip}
use Rattle.cy_comp.specs.declared.plan.Plan.{Plan}
use Rattle.cy_comp.specs.declared.wiring.Wiring.{Wiring}
use Rattle.cy_store.specs.Reads.{Reads, Accepts, Refuses}
use Rattle.cy_dag.specs.Refusals.{IsDue}
use Rattle.cy_wiring.specs.Wiring.{IsWired, plans_of, wire_refusal}
use Rattle.cy_dag.specs.declared.config.Config.{Config}
use Rattle.cy_dag.specs.declared.error.DagError.{DagError}
use Rattle.cy_setup.specs.declared.error.Fault.{Fault}
use Rattle.cy_setup.specs.declared.error.Fault.TheVariants as fault
use Rattle.cy_setup.specs.declared.error.Refusal.{Refusal}
use Rattle.cy_setup.specs.declared.error.SetupError.{SetupError}
use Rattle.cy_setup.specs.Configuration.{Configured}
use Rattle.cy_setup.specs.Faults.{in_file, unless}
use Rattle.cy_setup.specs.Steps.{IsFault, dag_fault}
use Rattle.cy_setup.specs.Wiring.{Wired, wired_by, wired_of, wiring_in, IsWiredBy}
use Rattle.cy_setup.proofs.Judged.{due_is}
use Rattle.cy_setup.proofs.Judging.{judges_ok, judges_fault}

-- what wiring comes to, by its first refusal
abbrev refused_by : List ℕ → List (List ℕ) → Configured → Option DagError → Reads Refusal Wired
refused_by dag channels c refusal = in_file dag fault.Dag (unless refusal (wired_of channels c))

wired_is : (channels : List (List ℕ)) (c : Configured) (w : Wiring) → IsWired channels c.dag.components c.configs w → wired_of channels c ≡ wired_by w
wired_is channels c w is =
    ap (λ (ns : List (List ℕ)). let x : Wired = record { names = ns; plans = plans_of ns (zip c.dag.components c.configs) } in x) (sym is.names)
    ∙ ap (λ (ps : List Plan). let x : Wired = record { names = w.names; plans = ps } in x) (sym is.plans)

-- the files are those of the configuration
pub wired : (dag : List ℕ) (channels : List (List ℕ)) (c : Configured) (configs : List Config) (w : Wiring) → configs ≡ c.configs → wire_refusal channels c.dag.components configs ≡ None → IsWired channels c.dag.components configs w
    → (let r : Result Wiring SetupError = Ok w in IsWiredBy (wiring_in dag channels c) r)
wired dag channels c configs w same none is =
    let accepted = ap (λ (cs : List Config). wire_refusal channels c.dag.components cs) (sym same) ∙ none in
    judges_ok wired_by (wiring_in dag channels c) w
    (ap (refused_by dag channels c) accepted ∙ ap Accepts (wired_is channels c w (subst (λ (cs : List Config). IsWired channels c.dag.components cs w) same is)))

pub not_wired : (dag : List ℕ) (channels : List (List ℕ)) (c : Configured) (configs : List Config) (e : DagError) (answer : SetupError) → configs ≡ c.configs → IsDue (wire_refusal channels c.dag.components configs) e → IsFault dag (dag_fault e) answer
    → (let r : Result Wiring SetupError = Err answer in IsWiredBy (wiring_in dag channels c) r)
not_wired dag channels c configs e answer same due is = judges_fault wired_by (wiring_in dag channels c) dag (dag_fault e) answer is refusal_of
  where
    refusal_of : (g : Fault) → dag_fault e ≡ Some g → wiring_in dag channels c ≡ Refuses record { file = dag; fault = g }
    refusal_of g told =
        let p = due_is (wire_refusal channels c.dag.components configs) e g due told in
        ap (refused_by dag channels c) (ap (λ (cs : List Config). wire_refusal channels c.dag.components cs) (sym same) ∙ p.0)
        ∙ ap (λ (f : Fault). let r : Reads Refusal Wired = Refuses record { file = dag; fault = f } in r) p.1
