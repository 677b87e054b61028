-- How `merge` ends.
use Rattle.std.proofs.Common.{ℕ, ◌≡◌, List, [], ◌∷◌, Option, IfSome, Result, Ok, Err, IsErrOf, refl, sym, ap, subst, ◌∙◌, inl, inr, codes, length}
use Rattle.std.specs.Prelude.{OnOk}
use Rattle.std.specs.List.{Contains}
use Rattle.std.specs.Option.{option_map}
use Rattle.cy_store.specs.Files.{Files}
use Rattle.cy_store.specs.Reads.{Absent}
use Rattle.cy_store.specs.Store.{StoreView}
use Rattle.cy_store.specs.Write.{after_writes}
use Rattle.cy_reader.specs.declared.known.Known.{Known}
use Rattle.cy_salvage.specs.Joined.{Gathered, IsOrdered}
use Rattle.cy_reader.specs.Record.{Met}
use Rattle.cy_writer.specs.RecordWrites.{record_puts}
use Rattle.cy_writer.specs.declared.error.WriteError.{WriteError}
use Rattle.cy_writer.specs.declared.error.WriteError.TheVariants as write_error
use Rattle.cy_setup.specs.Apart.{IsApart, apart_from, standard_output}
use Rattle.cy_setup.specs.Comes.{ComesTo, IsJudged}
use Rattle.cy_setup.specs.Merging.{merged_in}
use Rattle.cy_setup.proofs.Coming.{told_map}
use Rattle.cy_setup.specs.declared.error.SetupError.{SetupError}
use Rattle.cy_setup.specs.declared.error.SetupError.TheVariants as setup
use Rattle.cy_tools.specs.Kept.{IsKeptText, channels_with, chunks_with, kept_writes}
use Rattle.cy_tools.specs.Merging.{MergeAnswer}
use Rattle.cy_args.specs.Command.{Merge}
use Rattle.cy_args.specs.MergeWords.{MergeWords}
use Rattle.cy_commands.specs.declared.status.Status.{Status}
use Rattle.cy_commands.specs.Commands.{IsAccepted, outcome_of}
use Rattle.cy_commands.specs.Commands.MergeWork.{IsMergeWork, merged_apart}
use Rattle.cy_commands.specs.Commands.RecoverWork.{WritesKept}
use Rattle.cy_commands.specs.Due.{IsDueFor}
use Rattle.cy_commands.specs.Lines.{messages_line, store_line}
use Rattle.cy_commands.specs.Work.{Work}
use Rattle.cy_commands.specs.private.KeptEnds.{IsDueKept}
use Rattle.cy_commands.specs.private.MergeEnds.{AreInputs, IsApartFrom, IsDueUnwritten, IsUnitedIn}
use Rattle.cy_commands.specs.private.Unset.{IsDueUnset, IsStarved}
use Rattle.cy_commands.proofs.KeptExits.{writes_kept}
use Rattle.cy_commands.proofs.NamesApart.{first_also, made_onward, not_apart, onward, refused_onward, second_tested}
use Rattle.cy_commands.proofs.PlayWriting.{file_named}
use Rattle.cy_commands.proofs.Refusing.{ReadsBy, same_since, starved, unset, view_same}

-- ---- the names

-- what is judged of the names is answered
judged_inputs : {X : Type 0} (files : Option Files) (inputs : List (List ℕ)) (output : List ℕ) (result : Result X SetupError) → IfSome files (λ _. IsJudged (λ (x : X). tt) (merged_apart inputs output) result)
    → ((file : List ℕ) → IsErrOf result (setup.Store file) → ⊥) → AreInputs files inputs output result
judged_inputs {X} files inputs output result told unread = record {
  apart = by result told;
  refused = λ refusal is. told_map files (λ m j. j.refused refusal is) told;
  unread = unread;
}
  where
    by : (r : Result X SetupError) → IfSome files (λ _. IsJudged (λ (x : X). tt) (merged_apart inputs output) r) → OnOk r (IsApartFrom files inputs output)
    by (Ok x) h = told_map files (λ m j. j.accepted) h
    by (Err e) h = tt

-- it is standard output
pub is_output : {X : Type 0} (files : Option Files) (inputs others : List (List ℕ)) (output : List ℕ) (e : SetupError) → others ≡ standard_output ∷ [] → (let r : Result X SetupError = Err e in IsApart files output others r)
    → (let r : Result X SetupError = Err e in AreInputs files inputs output r)
is_output {X} files inputs others output e same apart =
    judged_inputs files inputs output (Err e) (first_also {X = X} output others (apart_from output inputs) files (standard_output ∷ []) e same apart) apart.unread

-- it isn't, and the inputs are looked at
pub inputs_tested : {X Y : Type 0} (files : Option Files) (inputs others : List (List ℕ)) (output : List ℕ) (y : Y) (result : Result X SetupError) → others ≡ standard_output ∷ []
    → (let r : Result Y SetupError = Ok y in IsApart files output others r) → IsApart files output inputs result → AreInputs files inputs output result
inputs_tested {X} {Y} files inputs others output y result same one two =
    judged_inputs files inputs output result (second_tested {X = X} {Y = Y} output output others inputs (standard_output ∷ []) inputs files y result same refl one two) two.unread

-- one of these names is that of the output
pub unmergeable : {X : Type 0} (w : MergeWords) (old new : StoreView) (e : SetupError) (due : Status) (line : List ℕ) → new ≡ old → (let r : Result X SetupError = Err e in AreInputs old.files w.inputs w.output r) → IsDueUnset e due line
    → IsDueFor (Merge w) old new due line
unmergeable {X} w old new e due line same tested = not_apart {X = X} (Merge w) (merged_apart w.inputs w.output) (merged_in w.inputs) old new e due line (λ d l r. r) same tested.refused tested.unread

-- ---- the records

reads_by : (w : MergeWords) (files : Option Files) → IsApartFrom files w.inputs w.output → ReadsBy (Merge w) (merged_in w.inputs) (Contains w.inputs) files
reads_by w files apart = record {
  asked = λ file a. a;
  refused = refused_onward (merged_apart w.inputs w.output) (merged_in w.inputs) files apart;
  absent = λ file. onward (merged_apart w.inputs w.output) (merged_in w.inputs) files apart (Absent file);
}

pub unread : (w : MergeWords) (inputs : List (List ℕ)) (old new : StoreView) (e : SetupError) (due : Status) (line : List ℕ) → inputs ≡ w.inputs → IsApartFrom old.files w.inputs w.output
    → (let r : Result Gathered SetupError = Err e in ComesTo (λ (x : Gathered). x) (merged_in inputs) (Contains inputs) old new r) → IsDueUnset e due line → IsDueFor (Merge w) old new due line
unread w inputs old new e due line same apart came told =
    let is = subst (λ (names : List (List ℕ)). let r : Result Gathered SetupError = Err e in ComesTo (λ (x : Gathered). x) (merged_in names) (Contains names) old new r) same came in
    unset {X = Gathered} (Merge w) (λ (x : Gathered). x) (merged_in w.inputs) (Contains w.inputs) old new e due line (reads_by w old.files apart) is told

pub united : (w : MergeWords) (inputs : List (List ℕ)) (old new : StoreView) (g : Gathered) → inputs ≡ w.inputs → IsApartFrom old.files w.inputs w.output
    → ComesTo (λ (x : Gathered). x) (merged_in inputs) (Contains inputs) old new (Ok g) → IsUnitedIn w old new g
united w inputs old new g same apart came = (apart, subst (λ (names : List (List ℕ)). ComesTo (λ (x : Gathered). x) (merged_in names) (Contains names) old new (Ok g)) same came)

-- ---- what is written

abbrev work_of : MergeWords → Gathered → Work
work_of w s = record {
  writes = kept_writes w.output s.met s.met.messages;
  text = messages_line (length s.met.messages) (codes ", records ") (length w.inputs);
}

is_work : (w : MergeWords) (g s : Gathered) → IsOrdered g s → IsKeptText w.output s.met s.met.messages → IsMergeWork w g (work_of w s)
is_work w g s ordered text = record {
  sorted = s.met.messages;
  in_time = ordered.in_time;
  written = subst (λ (channels : List Known). let met : Met = record { channels = channels; messages = s.met.messages } in WritesKept w.output met s.met.messages (work_of w s)) ordered.channels
      (writes_kept w.output s.met s.met.messages (work_of w s).text text);
  text = refl;
}

accepted : (w : MergeWords) (before mid : StoreView) (g s : Gathered) → IsUnitedIn w before mid g → IsOrdered g s → IsKeptText w.output s.met s.met.messages → IsAccepted (outcome_of (Merge w)) before.files (work_of w s)
accepted w before mid g s is ordered text =
    made_onward (merged_apart w.inputs w.output) (merged_in w.inputs) before.files is.0 (IsMergeWork w) (work_of w s)
    record { read = g; accepted = is.1.accepted.1; made = is_work w g s ordered text }

as_before : (w : MergeWords) (before mid : StoreView) (g : Gathered) → IsUnitedIn w before mid g → mid ≡ before
as_before w before mid g is = view_same before mid is.1.same is.1.accepted.0

-- there is no memory before the first write
pub starved_before : (w : MergeWords) (before mid : StoreView) (g : Gathered) (due : Status) (line : List ℕ) → IsUnitedIn w before mid g → IsStarved due line → IsDueFor (Merge w) before mid due line
starved_before w before mid g due line is s = starved (Merge w) before mid due line is.1.same s

pub merged : (w : MergeWords) (before mid new : StoreView) (g s : Gathered) (told records : ℕ) (due : Status) (line : List ℕ) → IsUnitedIn w before mid g → IsOrdered g s
    → (let r : Result ℕ WriteError = Ok told in MergeAnswer w.output s mid new r) → records ≡ length w.inputs → IsDueKept told (codes ", records ") records due line → IsDueFor (Merge w) before new due line
merged w before mid new g s told records due line is ordered answer many says =
    subst (λ (x : Status). IsDueFor (Merge w) before new x line) (sym says.0) record {
      work = work_of w s;
      accepted = accepted w before mid g s is ordered answer.text;
      written = answer.makes.done ∙ ap (option_map (after_writes (work_of w s).writes)) is.1.same;
      counts = same_since before mid new is.1.accepted.0 (answer.causes.quiet (λ e. cc));
      told = says.1 ∙ ap (λ (n : ℕ). messages_line n (codes ", records ") records) answer.counts ∙ ap (messages_line (length s.met.messages) (codes ", records ")) many;
    }

-- a write failed, or memory ran out
unwritten_by : (w : MergeWords) (before new : StoreView) (g s : Gathered) (e : WriteError) (due : Status) (line : List ℕ) → IsAccepted (outcome_of (Merge w)) before.files (work_of w s)
    → (let r : Result ℕ WriteError = Err e in MergeAnswer w.output s before new r) → IsDueUnwritten w.output e due line → IsDueFor (Merge w) before new due line
unwritten_by w before new g s write_error.Failed due line is answer says =
    let stopped = answer.makes.failed refl in
    let named = file_named w.output (record_puts (channels_with s.met s.met.messages) (chunks_with w.output s.met s.met.messages)) stopped.1.before stopped.1.later stopped.0 stopped.1.split in
    subst (λ (x : Status). IsDueFor (Merge w) before new x line) (sym says.0) (inr record {
      work = work_of w s;
      accepted = is;
      failed = stopped.0;
      rose = answer.causes.failed refl;
      stops = stopped.1;
      told = says.1 ∙ ap store_line (sym named);
    })
unwritten_by w before new g s write_error.Broken due line is answer says = absurd (answer.unbroken refl)
unwritten_by w before new g s write_error.Memory due line is answer says =
    subst (λ (x : Status). IsDueFor (Merge w) before new x line) (sym says.status) (
      inr record { work = work_of w s; accepted = is; stops = answer.makes.starved refl },
      says.told,
    )

pub unwritten : (w : MergeWords) (before mid new : StoreView) (g s : Gathered) (e : WriteError) (due : Status) (line : List ℕ) → IsUnitedIn w before mid g → IsOrdered g s
    → (let r : Result ℕ WriteError = Err e in MergeAnswer w.output s mid new r) → IsDueUnwritten w.output e due line → IsDueFor (Merge w) before new due line
unwritten w before mid new g s e due line is ordered answer says =
    unwritten_by w before new g s e due line (accepted w before mid g s is ordered answer.text)
    (subst (λ (v : StoreView). let r : Result ℕ WriteError = Err e in MergeAnswer w.output s v new r) (as_before w before mid g is) answer) says
