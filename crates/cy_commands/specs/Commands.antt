-- What each command reads and makes, and what the files of a store are to it: accepted, refused or
-- not there.
pub mod CheckWork
pub mod InfoWork
pub mod MakeWork
pub mod MergeWork
pub mod PlayWork
pub mod RecoverWork
pub mod SplitWork
pub mod VerifyWork
use Rattle.std.specs.Prelude.{ℕ, ◌≡◌, ⊤, List, Option, Some, IfSome}
use Rattle.std.specs.List.{Contains}
use Rattle.cy_store.specs.Files.{Files}
use Rattle.cy_store.specs.Reads.{Reads, Accepts, Absent}
use Rattle.cy_setup.specs.Configuration.{IsAsked}
use Rattle.cy_setup.specs.Setup as setup
use Rattle.cy_setup.specs.declared.error.Refusal.{Refusal}
use Rattle.cy_args.specs.Command.{Command, Check, Info, Play, Make, Verify, Recover, Split, Merge}
use Rattle.cy_commands.specs.declared.status.Status.{Status}
use Rattle.cy_commands.specs.Commands.CheckWork.{IsCheckWork, checked_in}
use Rattle.cy_commands.specs.Commands.InfoWork.{IsInfoWork, told_of}
use Rattle.cy_commands.specs.Commands.MakeWork.{IsMakeWork, made_names}
use Rattle.cy_commands.specs.Commands.MergeWork.{IsMergeWork, united_in}
use Rattle.cy_commands.specs.Commands.PlayWork.{IsPlayWork, readied_in}
use Rattle.cy_commands.specs.Commands.RecoverWork.{IsRecoverWork, recovered_in}
use Rattle.cy_commands.specs.Commands.SplitWork.{IsSplitWork, parted_in}
use Rattle.cy_commands.specs.Commands.VerifyWork.{IsReadToVerify, IsVerified}
use Rattle.cy_commands.specs.Refused.{IsOneFile, IsRefusal, IsRefusalBy}
use Rattle.cy_commands.specs.Work.{IsMadeOf, Work}

-- What a command reads and makes: the names of the files that it reads, what reading them comes to,
-- and what it makes of what they say; or only what it makes, where it reads none. Where it judges
-- files by what may have happened, a relation says what they come to, and what is made of them. A
-- command that reads none is refused only by a store that tells no files, to which two of the names
-- that it writes are one file.
pub data Outcome : Type 1 where
  Reading : {A : Type 0} → (names : Option Files → List ℕ → Type 0)
      → (reads : Files → Reads Refusal A) → (makes : A → Work → Type 0) → Outcome
  Making : (names : List (List ℕ)) → (makes : Work → Type 0) → Outcome
  Judging : (names : Option Files → List ℕ → Type 0)
      → (comes : Option Files → Reads Refusal Work → Type 0) → Outcome

abbrev pub outcome_of : Command → Outcome
outcome_of (Check w) = Reading (IsAsked w.dag w.sched) (checked_in w) (IsCheckWork w)
outcome_of (Info w) = Reading (λ files name. name ≡ w.file) (told_of w) IsInfoWork
outcome_of (Play w) = Reading (setup.IsAsked w.request) (readied_in w) (IsPlayWork w)
outcome_of (Make w) = Making (made_names w) (IsMakeWork w)
outcome_of (Verify w) = Judging (IsReadToVerify w) (IsVerified w)
outcome_of (Recover w) =
    Reading (λ files name. name ≡ w.input) (recovered_in w) (IsRecoverWork w)
outcome_of (Split w) = Reading (λ files name. name ≡ w.input) (parted_in w) (IsSplitWork w)
outcome_of (Merge w) =
    Reading (λ files name. Contains w.inputs name) (united_in w) (IsMergeWork w)

-- A file that is read has this name.
abbrev pub IsReadBy : Outcome → Option Files → List ℕ → Type 0
IsReadBy (Reading names reads makes) files name = names files name
IsReadBy (Making own makes) files name = ⊥
IsReadBy (Judging names comes) files name = names files name

-- Each file that is read is there and accepted, and this is made of them.
abbrev pub IsAccepted : Outcome → Option Files → Work → Type 0
IsAccepted (Reading names reads makes) files work = IsMadeOf reads makes files work
IsAccepted (Making own makes) files work = makes work
IsAccepted (Judging names comes) files work = comes files (Accepts work)

-- Each of them is there and accepted, whatever is made of them.
abbrev pub IsTaken : Outcome → Files → Type 0
IsTaken (Reading {A} names reads makes) m = (x : A) × (reads m ≡ Accepts x)
IsTaken (Making own makes) m = ⊤
IsTaken (Judging names comes) m = (work : Work) × comes (Some m) (Accepts work)

-- The first thing in the way is a refusal, with this status and this line.
abbrev pub IsRefused : Outcome → Option Files → Status → List ℕ → Type 0
IsRefused (Reading names reads makes) files due line = IsRefusal reads files due line
IsRefused (Making own makes) files due line = IsOneFile own files due line
IsRefused (Judging names comes) files due line = IsRefusalBy comes files due line

-- It is a file of this name, which isn't there.
abbrev pub IsAbsent : Outcome → Option Files → List ℕ → Type 0
IsAbsent (Reading names reads makes) files name = IfSome files (λ m. reads m ≡ Absent name)
IsAbsent (Making own makes) files name = ⊥
IsAbsent (Judging names comes) files name = comes files (Absent name)
