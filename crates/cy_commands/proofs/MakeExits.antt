-- How `make` ends, at each place where it may.
use Rattle.std.proofs.Common.{ℕ, true, ◌≡◌, ◌<◌, List, [], ◌∷◌, ◌++◌, append-nil, Option, Some, Ok, Err, IsErrOf, IfSome, codes, refl, sym, ap, subst, ◌∙◌, inl, inr, arith, append_assoc}
use Rattle.std.specs.Option.{option_map}
use Rattle.std.specs.FinMap.{empty}
use Rattle.cy_store.specs.Files.{Files}
use Rattle.cy_store.specs.Reads.{Accepts}
use Rattle.cy_store.specs.Store.{StoreView, SameCounts, WriteRose}
use Rattle.cy_store.specs.Write.{Write, name_of, after_writes}
use Rattle.cy_writer.specs.Writes.{StopsAt, StopsBefore}
use Rattle.cy_writer.proofs.Puts.{rose_more, after_writes-append, map-after_writes, untold_map, StopsAt-first, StopsAt-then, StopsBefore-first, StopsBefore-then}
use Rattle.wake_core.specs.Plain.{Plain}
use Rattle.wake_core.specs.Rest.{run_shown}
use Rattle.cy_msg.specs.Request.{HasReader}
use Rattle.cy_setup.specs.Setup.{IsSetUp, replayed}
use Rattle.cy_setup.specs.declared.setup.Replay.{Replay}
use Rattle.cy_make.specs.declared.error.MakeError.{MakeError}
use Rattle.cy_make.specs.declared.error.MakeError.TheVariants as make_error
use Rattle.cy_make.specs.Inputs.{MakesFiles, input_writes}
use Rattle.cy_make.proofs.Leaving.{leaves}
use Rattle.cy_make.proofs.RecordText.{record_text}
use Rattle.cy_commands.specs.declared.failure.File.{File}
use Rattle.cy_commands.specs.declared.failure.File.TheVariants as file
use Rattle.cy_commands.specs.declared.failure.Failure.{Failure}
use Rattle.cy_commands.specs.declared.failure.Failure.TheVariants as failure
use Rattle.cy_commands.specs.declared.status.Status.{Status}
use Rattle.cy_commands.specs.declared.status.Status.TheVariants.{Done, StoreFault, Memory}
use Rattle.cy_args.specs.Command.{Make}
use Rattle.cy_commands.specs.Work.{Work}
use Rattle.cy_commands.specs.Due.{IsDueFor}
use Rattle.cy_commands.specs.Lines.{store_line, memory_line}
use Rattle.cy_commands.specs.private.MakeEnds.{IsMade, IsDueUnmade, IsDueUnplayed, result_suffix}
use Rattle.cy_args.specs.MakeWords.{MakeWords}
use Rattle.cy_commands.specs.Commands.MakeWork.{IsMakeWork, made_files, play_made}
use Rattle.cy_commands.specs.PlayEnds.{HasRun, source_by}
use Rattle.cy_commands.specs.private.PlayWrites.{IsLine, WritesPlay, name_of_play, writes_by}
use Rattle.cy_args.specs.PlayWords.{PlayWords}
use Rattle.cy_commands.specs.Commands.PlayWork.{play_line, replayed_in, run_trace}
use Rattle.cy_commands.proofs.PiecesPut.{whole}
use Rattle.cy_commands.proofs.PlayExits as play
use Rattle.cy_commands.proofs.Refusing.{same_since}

-- what `make` makes, its trace in these pieces
abbrev pub work_of : MakeWords → Replay → (pieces : List (List ℕ)) → Plain → Work
work_of w x pieces world = record { writes = input_writes w.count w.prefix ++ writes_by (play_made w) x pieces world; text = play_line (source_by x) x.list (run_shown world) }

-- the pieces are those of the trace
abbrev pub IsCut : Replay → List (List ℕ) → Plain → Type 0
IsCut x pieces world = whole pieces ≡ run_trace (source_by x) x.list.shadowed (run_shown world)

-- the run is the serial one, which the play by these names asks for
pub in_turn : (w : MakeWords) (p : PlayWords) (x : Replay) (world : Plain) → p ≡ play_made w → HasRun p.serial x world → HasRun true x world
in_turn w p x world same run = subst (λ b. HasRun b x world) (ap (λ (q : PlayWords). q.serial) same) run

pub makes : (w : MakeWords) (x : Replay) (pieces : List (List ℕ)) (world : Plain) → IsCut x pieces world → 0 < w.count → IsMade w x → HasRun true x world → IsMakeWork w (work_of w x pieces world)
makes w x pieces world cut some made run = record {
  played = play.work_of (play_made w) x pieces world;
  by_play = play.accepted (play_made w) (replayed_in (play_made w)) x pieces world (Some (made_files w)) cut made.read made.set_up run;
  record_text = record_text w.count w.prefix some;
  writes = refl;
  leaves = λ m. after_writes-append (input_writes w.count w.prefix) (writes_by (play_made w) x pieces world) m ∙ ap (after_writes (writes_by (play_made w) x pieces world)) (leaves w.count w.prefix m);
  text = refl;
}

-- memory ran out before anything was written
pub starved : (w : MakeWords) (old : StoreView) (due : Status) (line : List ℕ) → due ≡ Memory → line ≡ memory_line → IsDueFor (Make w) old old due line
starved w old due line status told = subst (λ (d : Status). IsDueFor (Make w) old old d line) (sym status) (inl refl, told)

-- a write failed or memory ran out, at a place among all writes
fails : (w : MakeWords) (x : Replay) (pieces : List (List ℕ)) (world : Plain) → IsCut x pieces world → (old new : StoreView) (v : Write) (name : List ℕ) (due : Status) (line : List ℕ) → 0 < w.count → IsMade w x → HasRun true x world
    → name_of v ≡ name → WriteRose old new → StopsAt (input_writes w.count w.prefix ++ writes_by (play_made w) x pieces world) v old.files new.files
    → due ≡ StoreFault → line ≡ store_line name → IsDueFor (Make w) old new due line
fails w x pieces world cut old new v name due line some made run named rose stops status told =
    subst (λ (d : Status). IsDueFor (Make w) old new d line) (sym status)
    (inr (record { work = work_of w x pieces world; accepted = makes w x pieces world cut some made run; failed = v; rose = rose; stops = stops; told = told ∙ ap store_line (sym named) }))

stops : (w : MakeWords) (x : Replay) (pieces : List (List ℕ)) (world : Plain) → IsCut x pieces world → (old new : StoreView) (due : Status) (line : List ℕ) → 0 < w.count → IsMade w x → HasRun true x world
    → StopsBefore (input_writes w.count w.prefix ++ writes_by (play_made w) x pieces world) old.files new.files
    → due ≡ Memory → line ≡ memory_line → IsDueFor (Make w) old new due line
stops w x pieces world cut old new due line some made run before status told =
    subst (λ (d : Status). IsDueFor (Make w) old new d line) (sym status)
    (inr (record { work = work_of w x pieces world; accepted = makes w x pieces world cut some made run; stops = before }), told)

-- the trace in one piece
abbrev trace_of : Replay → Plain → List (List ℕ)
trace_of x world = run_trace (source_by x) x.list.shadowed (run_shown world) ∷ []

in_one : (x : Replay) (world : Plain) → IsCut x (trace_of x world) world
in_one x world = append-nil (run_trace (source_by x) x.list.shadowed (run_shown world))

-- the files of the play were not all made
pub unmade : (w : MakeWords) (x : Replay) (world : Plain) (old new : StoreView) (e : MakeError) (due : Status) (line : List ℕ) → 0 < w.count → IsMade w x → HasRun true x world
    → MakesFiles {T = Unit {0}} w.prefix (input_writes w.count w.prefix) old new (Err e) → IsDueUnmade w e due line → IsDueFor (Make w) old new due line
unmade w x world old new (make_error.Config c) due line some made run stopped is =
    let at = stopped.stopped in
    fails w x (trace_of x world) world (in_one x world) old new at.failed _ due line some made run at.named (stopped.causes.failed tt)
    (StopsAt-first (input_writes w.count w.prefix) (writes_by (play_made w) x (trace_of x world) world) at.failed old.files new.files at.stops) is.0 is.1
unmade w x world old new make_error.Record due line some made run stopped is =
    let at = stopped.stopped in
    fails w x (trace_of x world) world (in_one x world) old new at.failed _ due line some made run at.named (stopped.causes.failed tt)
    (StopsAt-first (input_writes w.count w.prefix) (writes_by (play_made w) x (trace_of x world) world) at.failed old.files new.files at.stops) is.0 is.1
unmade w x world old new make_error.Memory due line some made run stopped is =
    stops w x (trace_of x world) world (in_one x world) old new due line some made run
    (StopsBefore-first (input_writes w.count w.prefix) (writes_by (play_made w) x (trace_of x world) world) old.files new.files stopped.stopped) is.0 is.1

-- they were, and so was what `play` writes
pub done : (w : MakeWords) (p : PlayWords) (x : Replay) (world : Plain) (old mid new : StoreView) (line : List ℕ) → p ≡ play_made w → 0 < w.count → IsMade w x → HasRun true x world
    → mid.files ≡ option_map (after_writes (input_writes w.count w.prefix)) old.files → SameCounts old mid → WritesPlay p x world mid new (Ok line)
    → IsLine x world line → IsDueFor (Make w) old new Done line
done w p x world old mid new line same some made run first counts second told =
    let play : WritesPlay (play_made w) x world mid new (Ok line) = subst (λ (q : PlayWords). WritesPlay q x world mid new (Ok line)) same second in
    let more = writes_by (play_made w) x play.pieces world in
    record {
      work = work_of w x play.pieces world;
      accepted = makes w x play.pieces world play.cut some made run;
      written = play.done ∙ ap (option_map (after_writes more)) first ∙ map-after_writes (input_writes w.count w.prefix) more old.files;
      counts = same_since old mid new counts play.counts;
      told = told;
    }

rose_since : (f : Files → Files) (old mid new : StoreView) → mid.files ≡ option_map f old.files → SameCounts old mid → WriteRose mid new → WriteRose old new
rose_since f old mid new first counts (inl rose) = inl (rose_more old.faults mid.faults new.faults (omega (arith, counts.faults)) rose)
rose_since f old mid new first counts (inr (rose, untold)) = inr (rose_more old.misses mid.misses new.misses (omega (arith, counts.misses)) rose, untold_map f old.files mid.files first untold)

result_name : (w : MakeWords) (f : File) → name_of_play (play_made w) f ≡ w.prefix ++ result_suffix f
result_name w file.Output = refl
result_name w file.Trace = refl

-- a file that `play` writes failed, or memory ran out
pub unplayed : (w : MakeWords) (p : PlayWords) (x : Replay) (world : Plain) (old mid new : StoreView) (found : Failure) (due : Status) (line : List ℕ) → p ≡ play_made w → 0 < w.count → IsMade w x → HasRun true x world
    → mid.files ≡ option_map (after_writes (input_writes w.count w.prefix)) old.files → SameCounts old mid → WritesPlay {T = List ℕ} p x world mid new (Err found)
    → ((f : File) → IsErrOf {T = List ℕ} (Err found) (failure.Store f) → WriteRose mid new)
    → IsDueUnplayed w found due line → IsDueFor (Make w) old new due line
unplayed w p x world old mid new (failure.Store f) due line same some made run first counts second rose is =
    let play : WritesPlay {T = List ℕ} (play_made w) x world mid new (Err (failure.Store f)) = subst (λ (q : PlayWords). WritesPlay {T = List ℕ} q x world mid new (Err (failure.Store f))) same second in
    let at = play.failed f refl in
    let writes = input_writes w.count w.prefix in
    let more = writes_by (play_made w) x play.pieces world in
    let Q : Option Files → Type 0 = λ files. StopsAt more at.0 files new.files in
    fails w x play.pieces world play.cut old new at.0 (w.prefix ++ result_suffix f) due line some made run (at.1 ∙ result_name w f) (rose_since (after_writes writes) old mid new first counts (rose f refl))
    (StopsAt-then writes more at.0 old.files new.files (subst Q first at.2)) is.0 is.1
unplayed w p x world old mid new failure.Memory due line same some made run first counts second rose is =
    let play : WritesPlay {T = List ℕ} (play_made w) x world mid new (Err failure.Memory) = subst (λ (q : PlayWords). WritesPlay {T = List ℕ} q x world mid new (Err failure.Memory)) same second in
    let writes = input_writes w.count w.prefix in
    let more = writes_by (play_made w) x play.pieces world in
    let Q : Option Files → Type 0 = λ files. StopsBefore more files new.files in
    stops w x play.pieces world play.cut old new due line some made run (StopsBefore-then writes more old.files new.files (subst Q first (play.memory refl))) is.0 is.1

-- what was set up is a play of the files that are made
pub made : (w : MakeWords) (p : PlayWords) (x : Replay) (old mid : Option Files) → p ≡ play_made w → old ≡ Some empty
    → mid ≡ option_map (after_writes (input_writes w.count w.prefix)) old → IfSome mid (λ m. replayed_in p m ≡ Accepts (replayed x)) → IsSetUp p.request x → IsMade w x
made w p x old mid same none first read set_up =
    let writes = after_writes (input_writes w.count w.prefix) in
    let told : mid ≡ Some (made_files w) = first ∙ ap (option_map writes) none ∙ ap (λ (m : Files). Some m) (leaves w.count w.prefix empty) in
    let reads : IfSome mid (λ m. replayed_in (play_made w) m ≡ Accepts (replayed x)) =
    subst (λ (q : PlayWords). IfSome mid (λ m. replayed_in q m ≡ Accepts (replayed x))) same read in
    record {
      read = subst (λ (files : Option Files). IfSome files (λ m. replayed_in (play_made w) m ≡ Accepts (replayed x))) told reads;
      set_up = subst (λ (q : PlayWords). IsSetUp q.request x) same set_up;
    }

-- and may be played by its names
pub set_up_by : (w : MakeWords) (p : PlayWords) (x : Replay) → p ≡ play_made w → IsMade w x → IsSetUp p.request x
set_up_by w p x same m = subst (λ (q : PlayWords). IsSetUp q.request x) (sym same) m.set_up

pub has_reader : (w : MakeWords) (p : PlayWords) → p ≡ play_made w → HasReader p.request.components
has_reader w p same = subst (λ (q : PlayWords). HasReader q.request.components) (sym same) tt

-- the line that tells of a file
pub line_of : (prefix suffix told : List ℕ) → told ≡ suffix ++ codes ": the store failed\n" → codes "cyber: " ++ prefix ++ told ≡ store_line (prefix ++ suffix)
line_of prefix suffix told e =
    ap (λ (l : List ℕ). codes "cyber: " ++ prefix ++ l) e
    ∙ ap (λ (l : List ℕ). codes "cyber: " ++ l) (sym (append_assoc prefix suffix (codes ": the store failed\n")))
