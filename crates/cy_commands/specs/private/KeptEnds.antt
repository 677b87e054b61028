-- How a command ends that writes a record of some messages of another.
use Rattle.std.specs.Prelude.{ℕ, ◌≡◌, ◌⊎◌, List, Option, IfSome, Result, OnOk, IsErrOf}
use Rattle.cy_store.specs.Files.{Files}
use Rattle.cy_store.specs.Reads.{Accepts, Refuses}
use Rattle.cy_tools.specs.declared.error.File.{File}
use Rattle.cy_tools.specs.declared.error.File.TheVariants.{Input, Output}
use Rattle.cy_tools.specs.declared.error.ToolError.{ToolError}
use Rattle.cy_tools.specs.declared.error.ToolError.TheVariants as tool
use Rattle.cy_setup.specs.FaultText.{refusal_line}
use Rattle.cy_setup.specs.declared.error.Fault.TheVariants as fault
use Rattle.cy_setup.specs.declared.error.Refusal.{Refusal}
use Rattle.cy_setup.specs.declared.error.SetupError.{SetupError}
use Rattle.cy_setup.specs.declared.error.SetupError.TheVariants as setup
use Rattle.cy_setup.specs.declared.error.SetupError.TheVariants.{Refused}
use Rattle.cy_commands.specs.Commands.RecoverWork.{kept_apart}
use Rattle.cy_commands.specs.declared.status.Status.{Status}
use Rattle.cy_commands.specs.declared.status.Status.TheVariants.{Done, StoreFault}
use Rattle.cy_commands.specs.Lines.{messages_line, store_line}
use Rattle.cy_commands.specs.Status.{fault_status}
use Rattle.cy_commands.specs.private.Unset.{IsStarved}

-- In a store that tells its files, another one is named for what is written.
abbrev pub AreApart : Option Files → (input output : List ℕ) → Type 0
AreApart files input output = IfSome files (λ _. kept_apart input output ≡ Accepts tt)

-- What is answered of the two names, while the store is as it was.
pub record AreTested {X : Type 0} (files : Option Files) (input output : List ℕ)
    (result : Result X SetupError) : Type 0 where
  pub apart : OnOk result (AreApart files input output)
  pub refused : (refusal : Refusal) → IsErrOf result (Refused refusal)
      → IfSome files (λ _. kept_apart input output ≡ Refuses refusal)
  pub unread : (file : List ℕ) → IsErrOf result (setup.Store file) → ⊥

-- It was written, and the line tells how many messages it has.
abbrev pub IsDueKept : ℕ → List ℕ → ℕ → Status → List ℕ → Type 0
IsDueKept messages words number due line = (due ≡ Done)
    × (line ≡ messages_line messages words number)

-- It was not, of an input and for an output of these names.
abbrev pub file_name : (input output : List ℕ) → File → List ℕ
file_name input output Input = input
file_name input output Output = output

abbrev pub IsDueUnkept : (input output : List ℕ) → ToolError → Status → List ℕ → Type 0
IsDueUnkept input output (tool.Load e) due line = IsStarved due line
    ⊎ ((due ≡ fault_status (fault.Record e))
    × (line ≡ refusal_line record { file = input; fault = fault.Record e }))
IsDueUnkept input output (tool.Store f) due line = (due ≡ StoreFault)
    × (line ≡ store_line (file_name input output f))
IsDueUnkept input output tool.Memory due line = IsStarved due line
