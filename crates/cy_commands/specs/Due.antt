-- Which status is due, with what stands in the store then.
use Rattle.std.specs.Prelude.{ℕ, ◌≡◌, ◌⊎◌, List, Option, MatchOption}
use Rattle.std.specs.Option.{option_map}
use Rattle.cy_store.specs.Write.{Write, name_of, after_writes}
use Rattle.cy_store.specs.Store.{StoreView, SameCounts, Rose, WriteRose}
use Rattle.cy_writer.specs.Writes.{StopsAt, StopsBefore}
use Rattle.cy_commands.specs.declared.status.Status.{Status}
use Rattle.cy_commands.specs.declared.status.Status.TheVariants.{Done, Refused, Usage, StoreFault}
use Rattle.cy_commands.specs.declared.status.Status.TheVariants.{SinkFault, Limit, Memory}
use Rattle.cy_args.specs.Command.{Command}
use Rattle.cy_commands.specs.Work.{Work}
use Rattle.cy_commands.specs.Commands.{IsAbsent, IsAccepted, IsReadBy, IsRefused, outcome_of}
use Rattle.cy_commands.specs.Lines.{usage_line, memory_line, store_line}

-- Done: the files are accepted, what the command makes of them is written, its text is the line
-- that is due, and the store's counts stand: no call of the store failed.
pub record IsDone (c : Command) (old new : StoreView) (line : List ℕ) : Type 0 where
  pub work : Work
  pub accepted : IsAccepted (outcome_of c) old.files work
  pub written : new.files ≡ option_map (after_writes work.writes) old.files
  pub counts : SameCounts old new
  pub told : line ≡ work.text

-- Refused or Limit: the files are refused, and the store is as it was, its counts too, so that no
-- read failed.
pub record RefusesFiles (c : Command) (old new : StoreView) (due : Status) (line : List ℕ) : Type 0
  where
    pub same : new ≡ old
    pub refused : IsRefused (outcome_of c) old.files due line

-- A file was not read: the store's faults rose, or its misses did and the file isn't there. No file
-- is changed.
pub record FailsToRead (c : Command) (old new : StoreView) (line : List ℕ) : Type 0 where
  pub name : List ℕ
  pub read : IsReadBy (outcome_of c) old.files name
  pub rose : Rose old.faults new.faults
      ⊎ (Rose old.misses new.misses × IsAbsent (outcome_of c) old.files name)
  pub same : new.files ≡ old.files
  pub told : line ≡ store_line name

-- A write failed: those before it were done, and the file that it names is told.
pub record FailsToWrite (c : Command) (old new : StoreView) (line : List ℕ) : Type 0 where
  pub work : Work
  pub accepted : IsAccepted (outcome_of c) old.files work
  pub failed : Write
  pub rose : WriteRose old new
  pub stops : StopsAt work.writes failed old.files new.files
  pub told : line ≡ store_line (name_of failed)

-- Memory ran out between two writes.
pub record StopsForMemory (c : Command) (old new : StoreView) : Type 0 where
  pub work : Work
  pub accepted : IsAccepted (outcome_of c) old.files work
  pub stops : StopsBefore work.writes old.files new.files

-- A status is due for a command, with the line that tells it: what the files and the store's counts
-- were for it, and what stands in the store. No sink is used before.
abbrev pub IsDueFor : Command → StoreView → StoreView → Status → List ℕ → Type 0
IsDueFor c old new Done line = IsDone c old new line
IsDueFor c old new Refused line = RefusesFiles c old new Refused line
IsDueFor c old new Usage line = ⊥
IsDueFor c old new StoreFault line = FailsToRead c old new line ⊎ FailsToWrite c old new line
IsDueFor c old new SinkFault line = ⊥
IsDueFor c old new Limit line = RefusesFiles c old new Limit line
IsDueFor c old new Memory line = ((new.files ≡ old.files) ⊎ StopsForMemory c old new)
    × (line ≡ memory_line)

-- Usage: the words ask for no command, and the store is as it was.
pub record IsMisused (old new : StoreView) (due : Status) (line : List ℕ) : Type 0 where
  pub usage : due ≡ Usage
  pub same : new ≡ old
  pub told : line ≡ usage_line

-- A status is due for what the words ask for, if anything.
abbrev pub IsDue : Option Command → StoreView → StoreView → Status → List ℕ → Type 0
IsDue asked old new due line =
    MatchOption asked (IsMisused old new due line) (λ c. IsDueFor c old new due line)
