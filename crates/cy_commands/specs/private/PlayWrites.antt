-- The steps of `play` around its run: its files are read, and then its record and its trace are
-- written.
use Rattle.std.specs.Prelude.{ℕ, ◌≡◌, List, Result, OnOk, IsErrOf}
use Rattle.std.specs.List.{flat_map}
use Rattle.std.specs.Option.{option_map}
use Rattle.cy_store.specs.Store.{StoreView, SameCounts, HasWriteCauses}
use Rattle.cy_store.specs.Write.{Write, name_of, after_writes}
use Rattle.cy_writer.specs.declared.error.WriteError.{WriteError}
use Rattle.cy_writer.specs.declared.error.WriteError.TheVariants as write_error
use Rattle.cy_writer.specs.RecordWrites.{file_writes}
use Rattle.cy_writer.specs.Writes.{placed, puts_into, Makes, StopsAt, StopsBefore}
use Rattle.wake_core.specs.Plain.{Plain}
use Rattle.wake_core.specs.Rest.{run_shown}
use Rattle.cy_setup.specs.Comes.{ComesTo}
use Rattle.cy_setup.specs.Setup.{replayed, IsAsked}
use Rattle.cy_setup.specs.declared.error.SetupError.{SetupError}
use Rattle.cy_setup.specs.declared.setup.Replay.{Replay}
use Rattle.cy_args.specs.PlayWords.{PlayWords}
use Rattle.cy_commands.specs.declared.failure.Failure.{Failure}
use Rattle.cy_commands.specs.declared.failure.Failure.TheVariants as failure
use Rattle.cy_commands.specs.declared.failure.File.{File}
use Rattle.cy_commands.specs.declared.failure.File.TheVariants as file
use Rattle.cy_commands.specs.declared.status.Status.{Status}
use Rattle.cy_commands.specs.declared.status.Status.TheVariants.{StoreFault, Memory}
use Rattle.cy_commands.specs.Commands.PlayWork.{play_line, play_writes, replayed_in, run_trace}
use Rattle.cy_commands.specs.Lines.{store_line, memory_line}
use Rattle.cy_commands.specs.PlayEnds.{source_by}

-- What reading the files of a play comes to, whatever files are written: a replay, or an error.
abbrev pub ReadsReplay : PlayWords → StoreView → StoreView → Result Replay SetupError → Type 0
ReadsReplay w old new result =
    ComesTo replayed (replayed_in w) (IsAsked w.request old.files) old new result

-- All writes of a replay's run, its trace in these pieces.
abbrev pub writes_by : PlayWords → Replay → (pieces : List (List ℕ)) → Plain → List Write
writes_by w x pieces world = play_writes w (source_by x) pieces (run_shown world)

-- The line that tells of the run.
abbrev pub IsLine : Replay → Plain → List ℕ → Type 0
IsLine x w line = line ≡ play_line (source_by x) x.list (run_shown w)

-- What a call leaves that puts a text into an empty file piece by piece, cut where it likes.
pub record PutsPieces {T : Type 0} (name text : List ℕ) (old new : StoreView)
    (result : Result T WriteError) : Type 0 where
  pub pieces : List (List ℕ)
  pub cut : flat_map (λ piece. piece) pieces ≡ text
  pub makes : Makes (puts_into name (placed 0 pieces)) old new result
  pub unbroken : IsErrOf result write_error.Broken → ⊥
  pub causes : HasWriteCauses (IsErrOf result write_error.Failed) old new

-- The same of a call that makes the file first.
pub record WritesPieces {T : Type 0} (name text : List ℕ) (old new : StoreView)
    (result : Result T WriteError) : Type 0 where
  pub pieces : List (List ℕ)
  pub cut : flat_map (λ piece. piece) pieces ≡ text
  pub makes : Makes (file_writes name (placed 0 pieces)) old new result
  pub unbroken : IsErrOf result write_error.Broken → ⊥
  pub causes : HasWriteCauses (IsErrOf result write_error.Failed) old new

-- The files that `play` writes.
abbrev pub name_of_play : PlayWords → File → List ℕ
name_of_play w file.Output = w.output
name_of_play w file.Trace = w.trace

-- What writing the record and the trace of a replay's run leaves: after Ok all writes, of which
-- none failed, after a failed write of a file those before it, and without memory some of them.
pub record WritesPlay {T : Type 0} (w : PlayWords) (x : Replay) (world : Plain)
    (old new : StoreView) (result : Result T Failure) : Type 0 where
  pub pieces : List (List ℕ)
  pub cut : flat_map (λ piece. piece) pieces
      ≡ run_trace (source_by x) x.list.shadowed (run_shown world)
  pub done : OnOk result (new.files
      ≡ option_map (after_writes (writes_by w x pieces world)) old.files)
  pub counts : OnOk result (SameCounts old new)
  pub failed : (f : File) → IsErrOf result (failure.Store f) → ((v : Write)
      × (name_of v ≡ name_of_play w f)
      × StopsAt (writes_by w x pieces world) v old.files new.files)
  pub memory : IsErrOf result failure.Memory
      → StopsBefore (writes_by w x pieces world) old.files new.files

-- Why a play isn't done of which a file was not written.
abbrev pub unwritten : File → WriteError → Failure
unwritten f write_error.Failed = failure.Store f
unwritten f write_error.Broken = failure.Store f
unwritten f write_error.Memory = failure.Memory

-- The status that is due where a replay was not played and written, and its line.
abbrev pub IsDueAfterPlay : PlayWords → Failure → Status → List ℕ → Type 0
IsDueAfterPlay w (failure.Store f) due line = (due ≡ StoreFault)
    × (line ≡ store_line (name_of_play w f))
IsDueAfterPlay w failure.Memory due line = (due ≡ Memory) × (line ≡ memory_line)
