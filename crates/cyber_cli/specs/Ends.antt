-- What the program answers: which status is due for the words and the store, and how it is told.
use Rattle.std.specs.Prelude.{ℕ, ◌≡◌, ◌⊎◌, List, Option, Some}
use Rattle.cy_store.specs.Files.{Files}
use Rattle.cy_store.specs.Store.{StoreView, Rose}
use Rattle.cy_args.specs.Command.{Command}
use Rattle.cy_commands.specs.declared.status.Status.{Status}
use Rattle.cy_commands.specs.declared.status.Status.TheVariants.{Done, Refused, StoreFault, Limit}
use Rattle.cy_commands.specs.declared.status.Status.TheVariants.{Memory}
use Rattle.cy_commands.specs.Commands.{IsAbsent, IsRefused, IsTaken, Outcome, outcome_of}
use Rattle.cy_commands.specs.Due.{IsDue}
use Rattle.cy_commands.specs.Stands.{Stands}
use Rattle.cyber_cli.specs.Told.{Sinks, IsTold}

-- Some status is due by what is asked for and the store, the store is as it has to be after that
-- status, and the answer tells it: SinkFault and Memory may come in its place while it is told.
pub record Answers (asked : Option Command) (old_store new_store : StoreView) (old new : Sinks)
    (answer : Status) : Type 0 where
  pub due : Status
  pub line : List ℕ
  pub is_due : IsDue asked old_store new_store due line
  pub stands : Stands asked old_store new_store due
  pub is_told : IsTold due line old new answer

-- What the files call for: Done where they are accepted, the status of their refusal, StoreFault
-- where one isn't there.
abbrev pub CallsFor : Outcome → Files → Status → Type 0
CallsFor o m Done = IsTaken o m
CallsFor o m Refused = (line : List ℕ) × IsRefused o (Some m) Refused line
CallsFor o m Limit = (line : List ℕ) × IsRefused o (Some m) Limit line
CallsFor o m StoreFault = (name : List ℕ) × IsAbsent o (Some m) name
CallsFor o m other = ⊥

-- Where a command is asked for, the store tells its files and no count of faults rose, the
-- answer is what the files call for, or Memory.
abbrev pub IsComplete : Option Command → StoreView → StoreView → Sinks → Sinks → Status → Type 0
IsComplete asked old_store new_store old new answer = (c : Command) (m : Files) (due : Status)
    → asked ≡ Some c → old_store.files ≡ Some m → CallsFor (outcome_of c) m due
    → (Rose old_store.faults new_store.faults → ⊥) → (Rose old.out.faults new.out.faults → ⊥)
    → (Rose old.err.faults new.err.faults → ⊥)
    → (answer ≡ due) ⊎ (answer ≡ Memory)
