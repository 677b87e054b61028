-- Why the files of a replay are refused: which file, and what is wrong with it.
use Rattle.std.specs.Prelude.{ℕ, List, Option, Some, None, Result, Ok, Err}
use Rattle.cy_store.specs.Reads.{Reads, judged}
use Rattle.cy_setup.specs.declared.error.Fault.{Fault}
use Rattle.cy_setup.specs.declared.error.Refusal.{Refusal}

-- A value, unless something is wrong.
abbrev pub unless : {A E : Type 0} → Option E → A → Result A E
unless None x = Ok x
unless (Some e) x = Err e

-- The same with the file that is wrong, and what is the matter with it.
abbrev pub in_file : {A E : Type 0} → List ℕ → (E → Fault) → Result A E → Reads Refusal A
in_file file fault (Ok x) = judged (Ok x)
in_file file fault (Err e) = judged (Err record { file = file; fault = fault e })
