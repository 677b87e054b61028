-- What stands in the store once a command has ended.
use Rattle.std.specs.Prelude.{ℕ, ◌≡◌, ◌≢◌, ◌⊎◌, List, [], ◌∷◌, ◌++◌, map, All, Option, Some, IfSome}
use Rattle.std.specs.FinMap.{get}
use Rattle.cy_store.specs.Files.{Files}
use Rattle.cy_store.specs.Store.{StoreView}
use Rattle.cy_store.specs.Write.{Write}
use Rattle.cy_section.specs.declared.types.BodyMessage.{BodyMessage}
use Rattle.cy_section.specs.declared.types.Channel.{Channel}
use Rattle.cy_section.specs.RecordText.{record_bytes}
use Rattle.cy_writer.specs.Unfinished.{AreOfOthers, StandsCut, StandsTorn, writes_among}
use Rattle.cy_make.specs.Inputs.{all_configs, record_name}
use Rattle.cy_make.specs.Texts.{suffix_of}
use Rattle.cy_args.specs.Command.{Asks, Command, Check, Info, Play, Make, Verify, Recover, Split}
use Rattle.cy_args.specs.Command.{Merge}
use Rattle.cy_commands.specs.declared.status.Status.{Status}
use Rattle.cy_commands.specs.declared.status.Status.TheVariants.{Done, Refused, Usage, StoreFault}
use Rattle.cy_commands.specs.declared.status.Status.TheVariants.{SinkFault, Limit, Memory}
use Rattle.cy_commands.specs.Commands.{IsAccepted, outcome_of}
use Rattle.cy_commands.specs.Commands.MakeWork.{play_made}
use Rattle.cy_commands.specs.Due.{IsDue}
use Rattle.cy_commands.specs.Work.{Work}

-- The names of a command's own files, which it makes: its records and all others.
abbrev pub records_of : Command → List (List ℕ)
records_of (Check w) = []
records_of (Info w) = []
records_of (Play w) = w.output ∷ []
records_of (Make w) = record_name w.prefix ∷ (play_made w).output ∷ []
records_of (Verify w) = []
records_of (Recover w) = w.output ∷ []
records_of (Split w) = w.output ∷ []
records_of (Merge w) = w.output ∷ []

abbrev pub texts_of : Command → List (List ℕ)
texts_of (Check w) = []
texts_of (Info w) = []
texts_of (Play w) = w.trace ∷ []
texts_of (Make w) = map (λ c. w.prefix ++ suffix_of c) all_configs ++ (play_made w).trace ∷ []
texts_of (Verify w) = []
texts_of (Recover w) = []
texts_of (Split w) = []
texts_of (Merge w) = []

-- Every name but those is as before.
abbrev pub LeavesOthers : Command → Files → Files → Type 0
LeavesOthers c m n = (name : List ℕ) → All (λ own. own ≢ name) (records_of c ++ texts_of c)
    → get n name ≡ get m name

-- A record among the writes of a command's work, with what is said of its file.
pub record HasRecord (work : Work) (name : List ℕ)
    (is : List Channel → List (List BodyMessage) → Type 0) : Type 0 where
  pub channels : List Channel
  pub chunks : List (List BodyMessage)
  pub first : List Write
  pub last : List Write
  pub writes : work.writes ≡ writes_among first name channels chunks last
  pub before : AreOfOthers name first
  pub behind : AreOfOthers name last
  pub stands : is channels chunks

-- The writing of a command's work was begun: its files were accepted, no other file is changed, and
-- each of its records stands so.
pub record Wrote (c : Command) (m n : Files)
    (is : (name : List ℕ) → List Channel → List (List BodyMessage) → Type 0) : Type 0 where
  pub work : Work
  pub accepted : IsAccepted (outcome_of c) (Some m) work
  pub others : LeavesOthers c m n
  pub records : All (λ name. HasRecord work name (is name)) (records_of c)

-- Done: each record is whole.
abbrev pub WroteAll : Command → Files → Files → Type 0
WroteAll c m n = Wrote c m n (λ name channels chunks.
    get n name ≡ Some (record_bytes channels chunks))

-- A write failed: each record is as far as its writing had come then, and the failed one may have
-- torn its own range.
abbrev pub WroteUpTo : Write → Command → Files → Files → Type 0
WroteUpTo failed c m n = Wrote c m n (λ name channels chunks.
    StandsTorn name channels chunks failed (get m name) (get n name))

-- Memory ran out between two writes.
abbrev pub WroteSome : Command → Files → Files → Type 0
WroteSome c m n = Wrote c m n (λ name channels chunks.
    StandsCut channels chunks (get m name) (get n name))

-- What stands after a status that is due: files as far as their writing had come, or no file is
-- changed.
abbrev pub StandsAfter : Status → Command → Files → Files → Type 0
StandsAfter Done c m n = WroteAll c m n
StandsAfter StoreFault c m n = (n ≡ m) ⊎ ((failed : Write) × WroteUpTo failed c m n)
StandsAfter Memory c m n = (n ≡ m) ⊎ WroteSome c m n
StandsAfter other c m n = n ≡ m

-- What stands in the store: after Usage, Refused and Limit all of it as it was, its counts too; and
-- what of its files, where it tells them.
pub record Stands (asked : Option Command) (old new : StoreView) (due : Status) : Type 0 where
  pub misused : due ≡ Usage → new ≡ old
  pub refused : due ≡ Refused → new ≡ old
  pub limited : due ≡ Limit → new ≡ old
  pub files : IfSome asked (λ c. (m n : Files) → old.files ≡ Some m → new.files ≡ Some n
      → StandsAfter due c m n)

-- Whatever words ask for it, what is due leaves no more than that.
abbrev pub LeavesItsFiles : Type 0
LeavesItsFiles = (words : List (List ℕ)) (asked : Option Command) (old new : StoreView)
    (due : Status) (line : List ℕ) → IfSome asked (Asks words) → IsDue asked old new due line
    → Stands asked old new due
