-- What is due where a command's files are not accepted.
use Rattle.std.specs.Prelude.{ℕ, ◌≡◌, ◌⊎◌, List}
use Rattle.cy_setup.specs.declared.error.SetupError.{SetupError}
use Rattle.cy_setup.specs.declared.error.SetupError.TheVariants as setup
use Rattle.cy_setup.specs.FaultText.{refusal_line}
use Rattle.cy_commands.specs.declared.status.Status.{Status}
use Rattle.cy_commands.specs.declared.status.Status.TheVariants.{StoreFault, Memory}
use Rattle.cy_commands.specs.Lines.{store_line, memory_line}
use Rattle.cy_commands.specs.Status.{fault_status}

-- That there is no memory.
pub record IsStarved (due : Status) (line : List ℕ) : Type 0 where
  pub status : due ≡ Memory
  pub told : line ≡ memory_line

-- The refusal of a file, a file at which the store failed, or that there is no memory.
abbrev pub IsDueUnset : SetupError → Status → List ℕ → Type 0
IsDueUnset (setup.Refused refusal) due line = IsStarved due line
    ⊎ ((due ≡ fault_status refusal.fault) × (line ≡ refusal_line refusal))
IsDueUnset (setup.Store file) due line = IsStarved due line
    ⊎ ((due ≡ StoreFault) × (line ≡ store_line file))
IsDueUnset setup.Memory due line = IsStarved due line
