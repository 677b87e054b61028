-- What wiring the components of a configuration comes to.
use Rattle.std.specs.Prelude.{ℕ, List, Result}
use Rattle.std.specs.List.{zip}
use Rattle.cy_store.specs.Reads.{Reads}
use Rattle.cy_comp.specs.declared.plan.Plan.{Plan}
use Rattle.cy_comp.specs.declared.wiring.Wiring.{Wiring}
use Rattle.cy_wiring.specs.Wiring.{wire_refusal, names_of, plans_of}
use Rattle.cy_setup.specs.declared.error.Fault.TheVariants as fault
use Rattle.cy_setup.specs.declared.error.Refusal.{Refusal}
use Rattle.cy_setup.specs.declared.error.SetupError.{SetupError}
use Rattle.cy_setup.specs.Comes.{IsJudged}
use Rattle.cy_setup.specs.Configuration.{Configured}
use Rattle.cy_setup.specs.Faults.{unless, in_file}

-- The names of a wiring's channels, and its components.
pub record Wired : Type 0 where
  pub names : List (List ℕ)
  pub plans : List Plan

abbrev pub wired_of : List (List ℕ) → Configured → Wired
wired_of channels c =
    let components = zip c.dag.components c.configs in
    let names = names_of channels components in
    record { names = names; plans = plans_of names components }

-- Components are wired over the channels of a record, or the DAG file is refused.
abbrev pub wiring_in : (dag : List ℕ) (channels : List (List ℕ)) → Configured → Reads Refusal Wired
wiring_in dag channels c = in_file dag fault.Dag
    (unless (wire_refusal channels c.dag.components c.configs) (wired_of channels c))

-- A wiring, as these functions of files give it.
abbrev pub wired_by : Wiring → Wired
wired_by w = record { names = w.names; plans = w.plans }

-- What this comes to is answered, and the store is not used.
abbrev pub IsWiredBy : Reads Refusal Wired → Result Wiring SetupError → Type 0
IsWiredBy reads result = IsJudged wired_by reads result
