-- How a command ends that writes a record of some messages of another.
use Rattle.std.proofs.Common.{ℕ, ◌≡◌, List, [], Option, IfSome, Result, Ok, Err, refl, sym, ap, subst, ◌∙◌, inl, inr, append-nil, codes}
use Rattle.std.specs.Prelude.{◌⊎◌}
use Rattle.cy_store.specs.Files.{Files, Lacks}
use Rattle.cy_store.specs.Reads.{Reads, Absent, file_by, file_in, judged}
use Rattle.cy_store.specs.Store.{StoreView}
use Rattle.cy_reader.specs.declared.error.LoadError.{LoadError}
use Rattle.cy_reader.specs.Record.{Message, Met, record_of}
use Rattle.cy_salvage.specs.Salvage.{salvage_of}
use Rattle.cy_writer.specs.RecordWrites.{record_puts}
use Rattle.cy_writer.proofs.RecordBytes.{after_record}
use Rattle.cy_setup.specs.FaultText.{is_limit}
use Rattle.cy_setup.specs.Listing.{contents_or, record_in}
use Rattle.cy_setup.specs.declared.error.Fault.TheVariants as fault
use Rattle.cy_setup.specs.declared.error.Refusal.{Refusal}
use Rattle.cy_setup.proofs.Coming.{told_map}
use Rattle.cy_setup.proofs.Texts.{held_is_told}
use Rattle.cy_tools.specs.Answer.{IsRead, ToolAnswer}
use Rattle.cy_tools.specs.Kept.{IsKeptText, channels_with, chunks_with, kept_writes, passing}
use Rattle.cy_tools.specs.Tools.{Tool, met_in, recovering, splitting}
use Rattle.cy_tools.specs.declared.error.File.TheVariants.{Input, Output}
use Rattle.cy_tools.specs.declared.error.ToolError.{ToolError}
use Rattle.cy_tools.specs.declared.error.ToolError.TheVariants as tool_error
use Rattle.cy_tools.specs.declared.recovering.Recovered.{Recovered}
use Rattle.cy_tools.specs.declared.splitting.Parted.{Parted}
use Rattle.cy_args.specs.Command.{Command, Recover, Split}
use Rattle.cy_args.specs.RecoverWords.{RecoverWords}
use Rattle.cy_args.specs.SplitWords.{SplitWords}
use Rattle.cy_commands.specs.declared.status.Status.{Status}
use Rattle.cy_commands.specs.declared.status.Status.TheVariants.{Done}
use Rattle.cy_commands.specs.Commands.{IsAccepted, outcome_of}
use Rattle.cy_commands.specs.Commands.RecoverWork.{IsRecoverWork, WritesKept, kept_apart, salvaged_in, salvaged_or}
use Rattle.cy_commands.specs.Commands.SplitWork.{IsSplitWork}
use Rattle.cy_commands.specs.Due.{IsDueFor}
use Rattle.cy_commands.specs.Lines.{messages_line, store_line}
use Rattle.cy_commands.specs.Work.{IsMadeOf, Work}
use Rattle.cy_commands.specs.private.KeptEnds.{AreApart, AreTested, IsDueKept, IsDueUnkept}
use Rattle.cy_commands.specs.private.Unset.{IsStarved}
use Rattle.cy_commands.specs.private.Unset.{IsDueUnset}
use Rattle.cy_setup.specs.declared.error.SetupError.{SetupError}
use Rattle.cy_commands.proofs.NamesApart.{made_onward, not_apart, onward, refused_onward}
use Rattle.cy_commands.proofs.PlayWriting.{file_named}
use Rattle.cy_commands.proofs.Refusing.{ReadsBy, refuses, starved}

-- what is written of kept messages
pub writes_kept : (name : List ℕ) (met : Met) (kept : List Message) (text : List ℕ) → IsKeptText name met kept → WritesKept name met kept (record { writes = kept_writes name met kept; text = text })
writes_kept name met kept text is = record {
  record_text = is;
  writes = refl;
  leaves = λ m. after_record (channels_with met kept) (chunks_with name met kept) m name;
}

-- A command that is done by a tool over one file: how the file is refused, what is told, and what its work is.
module _ {A T : Type 0} (c : Command) (reads : List ℕ → Result A LoadError) (tool : Tool A T) (from to : List ℕ) (or : Result A LoadError → Result A Refusal) (makes : A → Work → Type 0) (text : T → List ℕ) where
  abbrev pub reading : Files → Reads Refusal A
  reading files = file_in from (λ bytes. or (reads bytes)) files

  abbrev pub work_of : A → Work
  work_of x = record { writes = kept_writes to (tool.met x) (tool.kept x); text = text (tool.tells x) }

  pub record DoneBy (files : Option Files) : Type 0 where
    pub reads_by : ReadsBy c reading (λ name. name ≡ from) files
    pub accepts : (work : Work) → IsMadeOf reading makes files work → IsAccepted (outcome_of c) files work
    pub of_ok : (x : A) → or (Ok x) ≡ Ok x
    pub of_err : (e : LoadError) → or (Err e) ≡ Err record { file = from; fault = fault.Record e }
    pub made : (x : A) → IsKeptText to (tool.met x) (tool.kept x) → makes x (work_of x)

  accepted : (files : Option Files) (x : A) → DoneBy files → IsRead reads tool from to files x → IsAccepted (outcome_of c) files (work_of x)
  accepted files x by was = by.accepts (work_of x) record {
    read = x;
    accepted = held_is_told from (λ bytes. or (reads bytes)) files (λ bytes is. ap (λ r. judged (or r)) is ∙ ap judged (by.of_ok x)) was.held;
    made = by.made x was.text;
  }

  -- it was written
  pub kept : (old new : StoreView) (told : T) (due : Status) (line : List ℕ) → DoneBy old.files → ToolAnswer reads tool from to old new (Ok told) → (due ≡ Done) × (line ≡ text told)
      → IsDueFor c old new due line
  kept old new told due line by done says =
      subst (λ (x : Status). IsDueFor c old new x line) (sym says.0) record {
        work = work_of done.was;
        accepted = accepted old.files done.was by done.read;
        written = done.written;
        counts = done.counts;
        told = says.1 ∙ ap text done.tells;
      }

  lacked : (files : Option Files) → Lacks files from → IfSome files (λ m. reading m ≡ Absent from)
  lacked files lacks = told_map files (λ m none. ap (file_by from (λ bytes. or (reads bytes))) none) lacks

  -- it was not
  pub unkept : (old new : StoreView) (e : ToolError) (due : Status) (line : List ℕ) → DoneBy old.files → (let r : Result T ToolError = Err e in ToolAnswer reads tool from to old new r) → IsDueUnkept from to e due line
      → IsDueFor c old new due line
  unkept old new (tool_error.Load e) due line by was (inl s) = starved c old new due line (ap (λ (v : StoreView). v.files) was.same) s
  unkept old new (tool_error.Load e) due line by was (inr says) =
      subst (λ (x : Status). IsDueFor c old new x line) (sym says.0)
      (refuses c old new (is_limit (fault.Record e)) line record {
        same = was.same;
        refused = by.reads_by.refused _ line record {
          refusal = record { file = from; fault = fault.Record e };
          refused = held_is_told from (λ bytes. or (reads bytes)) old.files (λ bytes is. ap (λ r. judged (or r)) is ∙ ap judged (by.of_err e)) was.refused;
          status = refl;
          told = says.1;
        };
      })
  unkept old new (tool_error.Store Input) due line by was says =
      subst (λ (x : Status). IsDueFor c old new x line) (sym says.0) (inl record {
        name = from;
        read = by.reads_by.asked from refl;
        rose = elim was.rose [ inl rose ↦ inl rose | inr missed ↦ inr (missed.0, by.reads_by.absent from (lacked old.files missed.1)) ];
        same = was.same;
        told = says.1;
      })
  unkept old new (tool_error.Store Output) due line by was says =
      let named = file_named to (record_puts (channels_with (tool.met was.was) (tool.kept was.was)) (chunks_with to (tool.met was.was) (tool.kept was.was)))
      was.stops.before was.stops.later was.failed was.stops.split in
      subst (λ (x : Status). IsDueFor c old new x line) (sym says.0) (inr record {
        work = work_of was.was;
        accepted = accepted old.files was.was by was.read;
        failed = was.failed;
        rose = was.rose;
        stops = was.stops;
        told = says.1 ∙ ap store_line (sym named);
      })
  unkept old new tool_error.Memory due line by (inl same) s = starved c old new due line same s
  unkept old new tool_error.Memory due line by (inr was) s =
      subst (λ (x : Status). IsDueFor c old new x line) (sym s.status) (
        inr (record { work = work_of was.was; accepted = accepted old.files was.was by was.read; stops = was.stops }),
        s.told,
      )

-- `recover`
abbrev recovered_text : Recovered → List ℕ
recovered_text r = messages_line r.messages (codes ", dropped ") r.dropped

recovers : (w : RecoverWords) (files : Option Files) → AreApart files w.input w.output → DoneBy (Recover w) salvage_of recovering w.input w.output (salvaged_or w.input) (IsRecoverWork w) recovered_text files
recovers w files apart = record {
  reads_by = record {
    asked = λ file a. a;
    refused = refused_onward (kept_apart w.input w.output) (salvaged_in w) files apart;
    absent = λ file. onward (kept_apart w.input w.output) (salvaged_in w) files apart (Absent file);
  };
  accepts = made_onward (kept_apart w.input w.output) (salvaged_in w) files apart (IsRecoverWork w);
  of_ok = λ x. refl;
  of_err = λ e. refl;
  made = λ x is. record { written = writes_kept w.output x.met x.met.messages (recovered_text (recovering.tells x)) is; text = refl };
}

pub recovered : (w : RecoverWords) (old new : StoreView) (told : Recovered) (due : Status) (line : List ℕ) → AreApart old.files w.input w.output → ToolAnswer salvage_of recovering w.input w.output old new (Ok told)
    → IsDueKept told.messages (codes ", dropped ") told.dropped due line → IsDueFor (Recover w) old new due line
recovered w old new told due line apart done says =
    kept (Recover w) salvage_of recovering w.input w.output (salvaged_or w.input) (IsRecoverWork w) recovered_text old new told due line (recovers w old.files apart) done says

pub unrecovered : (w : RecoverWords) (old new : StoreView) (e : ToolError) (due : Status) (line : List ℕ) → AreApart old.files w.input w.output → (let r : Result Recovered ToolError = Err e in ToolAnswer salvage_of recovering w.input w.output old new r)
    → IsDueUnkept w.input w.output e due line → IsDueFor (Recover w) old new due line
unrecovered w old new e due line apart was says =
    unkept (Recover w) salvage_of recovering w.input w.output (salvaged_or w.input) (IsRecoverWork w) recovered_text old new e due line (recovers w old.files apart) was says

-- `split`
abbrev parted_text : Parted → List ℕ
parted_text p = messages_line p.messages (codes " of ") p.of

splits : (w : SplitWords) (files : Option Files) → AreApart files w.input w.output → DoneBy (Split w) (record_of w.input) (splitting w.filter) w.input w.output (contents_or w.input) (IsSplitWork w) parted_text files
splits w files apart = record {
  reads_by = record {
    asked = λ file a. a;
    refused = refused_onward (kept_apart w.input w.output) (record_in w.input) files apart;
    absent = λ file. onward (kept_apart w.input w.output) (record_in w.input) files apart (Absent file);
  };
  accepts = made_onward (kept_apart w.input w.output) (record_in w.input) files apart (IsSplitWork w);
  of_ok = λ x. refl;
  of_err = λ e. refl;
  made = λ x is. record { written = writes_kept w.output (met_in x) (passing w.filter (met_in x)) (parted_text ((splitting w.filter).tells x)) is; text = refl };
}

pub parted : (w : SplitWords) (old new : StoreView) (told : Parted) (due : Status) (line : List ℕ) → AreApart old.files w.input w.output → ToolAnswer (record_of w.input) (splitting w.filter) w.input w.output old new (Ok told)
    → IsDueKept told.messages (codes " of ") told.of due line → IsDueFor (Split w) old new due line
parted w old new told due line apart done says =
    kept (Split w) (record_of w.input) (splitting w.filter) w.input w.output (contents_or w.input) (IsSplitWork w) parted_text old new told due line (splits w old.files apart) done says

pub unparted : (w : SplitWords) (old new : StoreView) (e : ToolError) (due : Status) (line : List ℕ) → AreApart old.files w.input w.output → (let r : Result Parted ToolError = Err e in ToolAnswer (record_of w.input) (splitting w.filter) w.input w.output old new r)
    → IsDueUnkept w.input w.output e due line → IsDueFor (Split w) old new due line
unparted w old new e due line apart was says =
    unkept (Split w) (record_of w.input) (splitting w.filter) w.input w.output (contents_or w.input) (IsSplitWork w) parted_text old new e due line (splits w old.files apart) was says

-- the file that is to be written is another name of the one that is read
pub unrecoverable : {X : Type 0} (w : RecoverWords) (old new : StoreView) (e : SetupError) (due : Status) (line : List ℕ) → new ≡ old → (let r : Result X SetupError = Err e in AreTested old.files w.input w.output r) → IsDueUnset e due line
    → IsDueFor (Recover w) old new due line
unrecoverable {X} w old new e due line same tested = not_apart {X = X} (Recover w) (kept_apart w.input w.output) (salvaged_in w) old new e due line (λ d l r. r) same tested.refused tested.unread

pub unpartable : {X : Type 0} (w : SplitWords) (old new : StoreView) (e : SetupError) (due : Status) (line : List ℕ) → new ≡ old → (let r : Result X SetupError = Err e in AreTested old.files w.input w.output r) → IsDueUnset e due line
    → IsDueFor (Split w) old new due line
unpartable {X} w old new e due line same tested = not_apart {X = X} (Split w) (kept_apart w.input w.output) (record_in w.input) old new e due line (λ d l r. r) same tested.refused tested.unread
