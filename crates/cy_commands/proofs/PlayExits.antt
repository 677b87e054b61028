-- How `play` ends, at each place where it may.
use Rattle.std.proofs.Common.{ℕ, ◌≡◌, List, [], Option, IfSome, Ok, Err, IsErrOf, refl, sym, ap, subst, ◌∙◌, inl, inr, arith}
use Rattle.std.specs.Option.{option_map}
use Rattle.std.specs.FinMap.{insert}
use Rattle.cy_store.specs.Files.{Files}
use Rattle.cy_store.specs.Reads.{Accepts, Reads}
use Rattle.cy_setup.specs.declared.error.Refusal.{Refusal}
use Rattle.cy_store.specs.Store.{StoreView, SameCounts, WriteRose}
use Rattle.cy_store.specs.Write.{after_writes}
use Rattle.cy_writer.specs.Writes.{placed, StopsAt, StopsBefore}
use Rattle.cy_writer.proofs.Puts.{rose_more, after_writes-append}
use Rattle.wake_core.specs.Plain.{Plain}
use Rattle.wake_core.specs.Rest.{run_shown}
use Rattle.cy_setup.specs.declared.error.SetupError.{SetupError}
use Rattle.cy_setup.specs.declared.setup.Replay.{Replay}
use Rattle.cy_writer.specs.RecordWrites.{file_writes, record_puts}
use Rattle.cy_recording.specs.Recording.{channels_of_tape, chunks_of_tape}
use Rattle.cy_setup.specs.Setup.{IsAsked, IsSetUp, Replayed, replayed}
use Rattle.cy_setup.specs.Stops.{stop_of}
use Rattle.cy_setup.specs.Wiring.{wired_by}
use Rattle.cy_msg.specs.declared.stop.Stop.{Stop}
use Rattle.cy_writer.proofs.RecordBytes.{after_record, after_file, after_placed}
use Rattle.cy_recording.proofs.TapeText.{record_text}
use Rattle.cy_commands.specs.declared.failure.File.{File}
use Rattle.cy_commands.specs.declared.failure.Failure.{Failure}
use Rattle.cy_commands.specs.declared.failure.Failure.TheVariants as failure
use Rattle.cy_commands.specs.declared.status.Status.{Status}
use Rattle.cy_commands.specs.declared.status.Status.TheVariants.{Done}
use Rattle.cy_commands.specs.private.Unset.{IsDueUnset}
use Rattle.cy_args.specs.Command.{Play}
use Rattle.cy_commands.specs.Work.{IsMadeOf, Work}
use Rattle.cy_commands.specs.Due.{IsDueFor}
use Rattle.cy_commands.specs.Lines.{store_line}
use Rattle.cy_commands.specs.PlayEnds.{SetsUp, HasRun, source_by}
use Rattle.cy_commands.specs.private.PlayWrites.{IsDueAfterPlay, IsLine, WritesPlay, writes_by}
use Rattle.cy_args.specs.PlayWords.{PlayWords}
use Rattle.cy_commands.specs.Commands.PlayWork.{IsPlayed, IsPlayWork, readied_in, play_line, tape_record, run_trace}
use Rattle.cy_commands.proofs.PiecesPut.{whole}
use Rattle.cy_commands.proofs.Refusing as refusing

-- the files are not accepted
pub unset : (w : PlayWords) (old new : StoreView) (e : SetupError) (due : Status) (line : List ℕ) → SetsUp w old new (Err e) → IsDueUnset e due line → IsDueFor (Play w) old new due line
unset w old new e due line came told =
    refusing.unset (Play w) replayed (readied_in w) (IsAsked w.request old.files) old new e due line record { asked = λ file a. a; refused = λ due line r. r; absent = λ file h. h } came told

-- what `play` makes of a replay
abbrev pub work_of : PlayWords → Replay → (pieces : List (List ℕ)) → Plain → Work
work_of w x pieces world = record { writes = writes_by w x pieces world; text = play_line (source_by x) x.list (run_shown world) }

-- what the writes leave
leaves : (w : PlayWords) (x : Replay) (pieces : List (List ℕ)) (world : Plain) → whole pieces ≡ run_trace (source_by x) x.list.shadowed (run_shown world) → (m : Files) → after_writes (writes_by w x pieces world) m
    ≡ insert (insert m w.output (tape_record w (source_by x) world.tape)) w.trace (run_trace (source_by x) x.list.shadowed (run_shown world))
leaves w x pieces world cut m =
    let s = source_by x in
    let record_writes = file_writes w.output (record_puts (channels_of_tape s world.tape) (chunks_of_tape w.output s world.tape)) in
    let puts = placed 0 pieces in
    after_writes-append record_writes (file_writes w.trace puts) m
    ∙ ap (after_writes (file_writes w.trace puts)) (after_record (channels_of_tape s world.tape) (chunks_of_tape w.output s world.tape) m w.output)
    ∙ after_file puts (insert m w.output (tape_record w s world.tape)) w.trace
    ∙ ap (insert (insert m w.output (tape_record w s world.tape)) w.trace) (after_placed pieces [] 0 refl ∙ cut)

-- a run with the stop of the replay is one with the stop that was asked for
played_as : (w : PlayWords) (x : Replay) (world : Plain) → IsSetUp w.request x → HasRun w.serial x world
    → IsPlayed w.serial (replayed x) x.list (stop_of w.request.stop (wired_by x.wiring) x.list.tokens) x.placement.contexts world
played_as w x world s h = subst (λ (stop : Option Stop). IsPlayed w.serial (replayed x) x.list stop x.placement.contexts world) s.stopped record { run = h.run; lawful = h.lawful; led = h.led }

pub accepted : (w : PlayWords) (reads : Files → Reads Refusal Replayed) (x : Replay) (pieces : List (List ℕ)) (world : Plain) (files : Option Files) → whole pieces ≡ run_trace (source_by x) x.list.shadowed (run_shown world) → IfSome files (λ m. reads m ≡ Accepts (replayed x)) → IsSetUp w.request x → HasRun w.serial x world
    → IsMadeOf reads (IsPlayWork w) files (work_of w x pieces world)
accepted w reads x pieces world files cut read s h = record {
  read = replayed x;
  accepted = read;
  made = record {
    list = x.list;
    listed = s.listed;
    contexts = x.placement.contexts;
    placed = s.placed;
    world = world;
    played = played_as w x world s h;
    record_text = record_text w.output (source_by x) world.tape s.once h.writable;
    read_back = h.read_back;
    pieces = pieces;
    cut = cut;
    writes = refl;
    leaves = leaves w x pieces world cut;
    text = refl;
  };
}

-- all was written
pub done : (w : PlayWords) (x : Replay) (world : Plain) (old mid new : StoreView) (line : List ℕ) → SetsUp w old mid (Ok x) → IsSetUp w.request x → HasRun w.serial x world → WritesPlay w x world mid new (Ok line)
    → IsLine x world line → IsDueFor (Play w) old new Done line
done w x world old mid new line came s h made told = record {
  work = work_of w x made.pieces world;
  accepted = accepted w (readied_in w) x made.pieces world old.files made.cut came.accepted.1 s h;
  written = made.done ∙ ap (option_map (after_writes (writes_by w x made.pieces world))) came.same;
  counts = refusing.same_since old mid new came.accepted.0 made.counts;
  told = told;
}

rose_since : (old mid new : StoreView) → mid.files ≡ old.files → SameCounts old mid → WriteRose mid new → WriteRose old new
rose_since old mid new same counts (inl rose) = inl (rose_more old.faults mid.faults new.faults (omega (arith, counts.faults)) rose)
rose_since old mid new same counts (inr (rose, untold)) = inr (rose_more old.misses mid.misses new.misses (omega (arith, counts.misses)) rose, sym same ∙ untold)

-- a write failed, or memory ran out between two
pub stopped : (w : PlayWords) (x : Replay) (world : Plain) (old mid new : StoreView) (found : Failure) (due : Status) (line : List ℕ) → SetsUp w old mid (Ok x) → IsSetUp w.request x → HasRun w.serial x world
    → WritesPlay {T = List ℕ} w x world mid new (Err found)
    → ((f : File) → IsErrOf {T = List ℕ} (Err found) (failure.Store f) → WriteRose mid new)
    → IsDueAfterPlay w found due line → IsDueFor (Play w) old new due line
stopped w x world old mid new (failure.Store f) due line came s h made rose is =
    let at = made.failed f refl in
    let Q : Option Files → Type 0 = λ files. StopsAt (writes_by w x made.pieces world) at.0 files new.files in
    subst (λ (d : Status). IsDueFor (Play w) old new d line) (sym is.0)
    (inr (record {
      work = work_of w x made.pieces world;
      accepted = accepted w (readied_in w) x made.pieces world old.files made.cut came.accepted.1 s h;
      failed = at.0;
      rose = rose_since old mid new came.same came.accepted.0 (rose f refl);
      stops = subst Q came.same at.2;
      told = is.1 ∙ ap store_line (sym at.1);
    }))
stopped w x world old mid new failure.Memory due line came s h made rose is =
    let Q : Option Files → Type 0 = λ files. StopsBefore (writes_by w x made.pieces world) files new.files in
    subst (λ (d : Status). IsDueFor (Play w) old new d line) (sym is.0) (
      inr (record {
        work = work_of w x made.pieces world;
        accepted = accepted w (readied_in w) x made.pieces world old.files made.cut came.accepted.1 s h;
        stops = subst Q came.same (made.memory refl);
      }),
      is.1,
    )
