-- The DAG, the component files and the scheduler, one after another.
use Rattle.std.proofs.Common.{ℕ, ◌≡◌, List, Option, Some, IfSome, Result, Ok, Err, ap, subst, inl, inr, Vec, Global}
use Rattle.cy_store.specs.Files.{Files}
use Rattle.cy_store.specs.Reads.{Reads, Accepts, ◌>>=◌}
use Rattle.cy_store.specs.Store.{StoreView}
use Rattle.cy_dag.specs.declared.config.Config.{Config}
use Rattle.cy_dag.specs.declared.dag.Dag.{Dag}
use Rattle.cy_sched.specs.declared.sched.Sched.{Sched}
use Rattle.cy_setup.specs.declared.configuration.Configuration.{Configuration}
use Rattle.cy_setup.specs.declared.error.Refusal.{Refusal}
use Rattle.cy_setup.specs.declared.error.SetupError.{SetupError}
use Rattle.cy_setup.specs.Configuration.{DagSays, Configured, dag_in, configs_in, sched_in, configuration_in, IsAsked, IsAskedOf}
use Rattle.cy_setup.specs.Steps.{dag_says, configured, scheduled_in}
use Rattle.cy_setup.specs.Values.{valued_configs}
use Rattle.cy_setup.specs.Comes.{ComesTo}
use Rattle.cy_setup.proofs.Coming.{then, told_map, comes_err, comes_ok, comes_then}

-- the scheduler behind the component files, and these behind the DAG
abbrev pub with_sched : DagSays → List Config → Sched → Files → Reads Refusal Configured
with_sched dag configs sched m = Accepts record { dag = dag; configs = configs; sched = sched }

abbrev pub with_configs : Option (List ℕ) → DagSays → List Config → Files → Reads Refusal Configured
with_configs sched_name dag configs = scheduled_in dag (valued_configs configs) sched_name

abbrev pub with_dag : Option (List ℕ) → DagSays → Files → Reads Refusal Configured
with_dag sched_name dag = then (configs_in dag.components) (with_configs sched_name dag)

-- the DAG is in the way
pub dag_stops : (dag : List ℕ) (sched : Option (List ℕ)) (old new : StoreView) (e : SetupError) → (let r : Result Dag SetupError = Err e in ComesTo dag_says (dag_in dag) (λ file. file ≡ dag) old new r)
    → (let r : Result Configuration SetupError = Err e in ComesTo configured (configuration_in dag sched) (IsAsked dag sched old.files) old new r)
dag_stops dag sched old new e came = comes_err configured (dag_in dag) (with_dag sched) (IsAsked dag sched old.files) old new e (λ file asked. inl asked) came

-- what follows the DAG
pub dag_read : {r : Result Configuration SetupError} (dag : List ℕ) (sched : Option (List ℕ)) (says : Dag) (P : List ℕ → Type 0) (old mid new : StoreView) → ComesTo dag_says (dag_in dag) (λ file. file ≡ dag) old mid (Ok says)
    → ((file : List ℕ) → P file → IsAsked dag sched old.files file) → ComesTo configured (with_dag sched (dag_says says)) P mid new r → ComesTo configured (configuration_in dag sched) (IsAsked dag sched old.files) old new r
dag_read {r} dag sched says P old mid new came more rest =
    comes_then configured (dag_in dag) (with_dag sched) P (IsAsked dag sched old.files) old mid new (dag_says says) r record { same = came.same; counts = came.accepted.0 } came.accepted.1 more rest

named : (dag : List ℕ) (sched : Option (List ℕ)) (says : Dag) (files told : Option Files) → files ≡ told → IfSome told (λ m. dag_in dag m ≡ Accepts (dag_says says)) → (file : List ℕ) → IsAskedOf says.components files file → IsAsked dag sched told file
named dag sched says files told same read file c = inr (inr record { says = dag_says says; read = read; named = subst (λ f. IsAskedOf says.components f file) same c })

-- a component file is in the way
pub configs_stop : (dag : List ℕ) (sched : Option (List ℕ)) (says : Dag) (old mid new : StoreView) (e : SetupError) → ComesTo dag_says (dag_in dag) (λ file. file ≡ dag) old mid (Ok says)
    → (let r : Result (Vec Config Global) SetupError = Err e in ComesTo (λ v. v.items) (configs_in says.components) (IsAskedOf says.components mid.files) mid new r)
    → (let r : Result Configuration SetupError = Err e in ComesTo configured (configuration_in dag sched) (IsAsked dag sched old.files) old new r)
configs_stop dag sched says old mid new e came stops =
    dag_read dag sched says (IsAskedOf says.components mid.files) old mid new came (named dag sched says mid.files old.files came.same came.accepted.1)
    (comes_err configured (configs_in says.components) (with_configs sched (dag_says says)) (IsAskedOf says.components mid.files) mid new e (λ file asked. asked) stops)

-- what follows the component files
pub configs_read : {r : Result Configuration SetupError} (dag : List ℕ) (sched : Option (List ℕ)) (says : Dag) (configs : Vec Config Global) (old mid next new : StoreView) → ComesTo dag_says (dag_in dag) (λ file. file ≡ dag) old mid (Ok says)
    → ComesTo (λ v. v.items) (configs_in says.components) (IsAskedOf says.components mid.files) mid next (Ok configs)
    → ComesTo configured (with_configs sched (dag_says says) configs.items) (λ file. sched ≡ Some file) next new r → ComesTo configured (configuration_in dag sched) (IsAsked dag sched old.files) old new r
configs_read {r} dag sched says configs old mid next new came came_too rest =
    dag_read dag sched says (λ file. sched ≡ Some file) old mid new came (λ file asked. inr (inl asked))
    (comes_then configured (configs_in says.components) (with_configs sched (dag_says says)) (λ file. sched ≡ Some file) (λ file. sched ≡ Some file) mid next new configs.items r record { same = came_too.same; counts = came_too.accepted.0 } came_too.accepted.1 (λ file asked. asked) rest)

-- the scheduler is in the way
pub sched_stops : (dag : Dag) (configs : List Config) (sched : Option (List ℕ)) (old new : StoreView) (e : SetupError) → (let r : Result Sched SetupError = Err e in ComesTo (λ s. s) (sched_in sched) (λ file. sched ≡ Some file) old new r)
    → (let r : Result Configuration SetupError = Err e in ComesTo configured (scheduled_in (dag_says dag) configs sched) (λ file. sched ≡ Some file) old new r)
sched_stops dag configs sched old new e stops = comes_err configured (sched_in sched) (with_sched (dag_says dag) configs) (λ file. sched ≡ Some file) old new e (λ file asked. asked) stops

-- or it was read, as the last of all
pub sched_read : (all : Configuration) (sched : Option (List ℕ)) (old new : StoreView) → ComesTo (λ s. s) (sched_in sched) (λ file. sched ≡ Some file) old new (Ok all.sched)
    → ComesTo configured (scheduled_in (dag_says all.dag) all.configs sched) (λ file. sched ≡ Some file) old new (Ok all)
sched_read all sched old new last =
    comes_ok configured (scheduled_in (dag_says all.dag) all.configs sched) (λ file. sched ≡ Some file) old new all record { same = last.same; counts = last.accepted.0 }
    (told_map old.files (λ m was. ap (λ q. q >>= λ s. with_sched (dag_says all.dag) all.configs s m) was) last.accepted.1)
