-- How a command ends whose files are not accepted, and one that tells a text.
use Rattle.std.proofs.Common.{ℕ, ◌≡◌, List, [], Bool, true, false, if◌then◌else◌, Option, Some, None, IfSome, Result, Ok, Err, refl, sym, ap, subst, ◌∙◌, inl, inr}
use Rattle.std.specs.Option.{option_map}
use Rattle.cy_store.specs.Files.{Files}
use Rattle.cy_store.specs.Reads.{Reads, Absent}
use Rattle.cy_store.specs.Store.{StoreView, SameCounts}
use Rattle.cy_store.specs.Write.{after_writes}
use Rattle.cy_setup.specs.declared.error.Refusal.{Refusal}
use Rattle.cy_setup.specs.declared.error.SetupError.{SetupError}
use Rattle.cy_setup.specs.declared.error.SetupError.TheVariants as setup
use Rattle.cy_setup.specs.Comes.{ComesTo}
use Rattle.cy_setup.specs.FaultText.{is_limit}
use Rattle.cy_args.specs.Command.{Command}
use Rattle.cy_commands.specs.declared.status.Status.{Status}
use Rattle.cy_commands.specs.declared.status.Status.TheVariants.{Done, Refused, Limit}
use Rattle.cy_commands.specs.Due.{IsDueFor, RefusesFiles}
use Rattle.cy_commands.specs.Commands.{IsAbsent, IsAccepted, IsReadBy, IsRefused, outcome_of}
use Rattle.cy_commands.specs.Refused.{IsRefusal}
use Rattle.cy_commands.specs.private.Unset.{IsStarved, IsDueUnset}
use Rattle.cy_commands.specs.Work.{IsMadeOf, Work}

-- the store is as it was
pub view_same : (old new : StoreView) → new.files ≡ old.files → SameCounts old new → new ≡ old
view_same old new same counts = ap (λ (f : Option Files). record { files = f; faults = new.faults; misses = new.misses }) same
    ∙ ap (λ (n : ℕ). record { files = old.files; faults = n; misses = new.misses }) counts.faults ∙ ap (λ (n : ℕ). record { files = old.files; faults = old.faults; misses = n }) counts.misses

-- the counts stand through two calls
pub same_since : (old mid new : StoreView) → SameCounts old mid → SameCounts mid new → SameCounts old new
same_since old mid new first second = record { faults = second.faults ∙ first.faults; misses = second.misses ∙ first.misses }

-- there is no memory
pub starved : (c : Command) (old new : StoreView) (due : Status) (line : List ℕ) → new.files ≡ old.files → IsStarved due line → IsDueFor c old new due line
starved c old new due line same s = subst (λ (x : Status). IsDueFor c old new x line) (sym s.status) (inl same, s.told)

pub refuses : (c : Command) (old new : StoreView) (limit : Bool) (line : List ℕ) → RefusesFiles c old new (if limit then Limit else Refused) line → IsDueFor c old new (if limit then Limit else Refused) line
refuses c old new true line r = r
refuses c old new false line r = r

-- what a command reads, by the parts of `Outcome` that are its own
pub record ReadsBy {A : Type 0} (c : Command) (reads : Files → Reads Refusal A) (Asked : List ℕ → Type 0) (files : Option Files) : Type 0 where
  pub asked : (file : List ℕ) → Asked file → IsReadBy (outcome_of c) files file
  pub refused : (due : Status) (line : List ℕ) → IsRefusal reads files due line → IsRefused (outcome_of c) files due line
  pub absent : (file : List ℕ) → IfSome files (λ m. reads m ≡ Absent file) → IsAbsent (outcome_of c) files file

-- the files are not accepted
pub unset : {X A : Type 0} (c : Command) (view : X → A) (reads : Files → Reads Refusal A) (Asked : List ℕ → Type 0) (old new : StoreView) (e : SetupError) (due : Status) (line : List ℕ)
    → ReadsBy c reads Asked old.files → (let r : Result X SetupError = Err e in ComesTo view reads Asked old new r) → IsDueUnset e due line → IsDueFor c old new due line
unset c view reads Asked old new (setup.Refused refusal) due line by came (inl s) = starved c old new due line came.same s
unset c view reads Asked old new (setup.Refused refusal) due line by came (inr told) =
    let was = came.refused refusal refl in
    subst (λ (x : Status). IsDueFor c old new x line) (sym told.0)
    (refuses c old new (is_limit refusal.fault) line record {
      same = view_same old new came.same was.0;
      refused = by.refused (if is_limit refusal.fault then Limit else Refused) line record { refusal = refusal; refused = was.1; status = refl; told = told.1 };
    })
unset c view reads Asked old new (setup.Store file) due line by came (inl s) = starved c old new due line came.same s
unset c view reads Asked old new (setup.Store file) due line by came (inr told) =
    let was = came.failed file refl in
    subst (λ (x : Status). IsDueFor c old new x line) (sym told.0) (inl record {
      name = file;
      read = by.asked file was.0;
      rose = elim was.1.rose [ inl rose ↦ inl rose | inr missed ↦ inr (missed.0, by.absent file missed.1) ];
      same = came.same;
      told = told.1;
    })
unset c view reads Asked old new setup.Memory due line by came s = starved c old new due line came.same s

pub no_writes : (files : Option Files) → files ≡ option_map (after_writes []) files
no_writes None = refl
no_writes (Some m) = refl

-- a text is told, and nothing written
pub told : {X A : Type 0} (c : Command) (view : X → A) (reads : Files → Reads Refusal A) (makes : A → Work → Type 0) (Asked : List ℕ → Type 0) (old new : StoreView) (x : X) (text : List ℕ)
    → ((work : Work) → IsMadeOf reads makes old.files work → IsAccepted (outcome_of c) old.files work) → ComesTo view reads Asked old new (Ok x)
    → makes (view x) (record { writes = []; text = text }) → IsDueFor c old new Done text
told c view reads makes Asked old new x text accepts came made = record {
  work = record { writes = []; text = text };
  accepted = accepts (record { writes = []; text = text }) (record { read = view x; accepted = came.accepted.1; made = made });
  written = came.same ∙ no_writes old.files;
  counts = came.accepted.0;
  told = refl;
}
