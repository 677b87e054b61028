-- The words of `check`.
use Rattle.std.specs.Prelude.{ℕ, List, [], ◌∷◌, Option, option_map, codes}
use Rattle.cy_args.specs.Options.{Known, Options, valued}

-- What is asked of a check: the DAG file, and the scheduler file where one is given.
pub record CheckWords : Type 0 where
  pub dag : List ℕ
  pub sched : Option (List ℕ)

-- What `check` knows, and what that asks for.
abbrev pub check_known : List Known
check_known = valued (codes "dag") ∷ valued (codes "sched") ∷ []

abbrev pub check_asked : Options → Option CheckWords
check_asked o =
    option_map (λ dag. record { dag = dag; sched = o (codes "sched") }) (o (codes "dag"))
