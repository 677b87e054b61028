-- The two files of a play, written one after the other.
use Rattle.std.proofs.Common.{◌≡◌, ℕ, List, [], ◌∷◌, ◌++◌, drop, Option, Result, Ok, Err, IsErrOf, refl, sym, ap, ◌∙◌, subst, append-nil}
use Rattle.std.specs.Prelude.{OnOk}
use Rattle.std.specs.Option.{option_map}
use Rattle.cy_msg.specs.declared.token.Token.{Token}
use Rattle.cy_store.specs.Files.{Files}
use Rattle.cy_store.specs.Write.{Write, Create, name_of, after_writes}
use Rattle.cy_store.specs.Store.{StoreView, SameCounts}
use Rattle.cy_writer.specs.declared.error.WriteError.{WriteError}
use Rattle.cy_writer.specs.declared.error.WriteError.TheVariants as write_error
use Rattle.cy_writer.specs.Writes.{placed, puts_into, Makes, StopsAt, StopsBefore}
use Rattle.cy_writer.proofs.Puts.{put_of, map-after_writes, StopsAt-first, StopsAt-then, StopsBefore-first, StopsBefore-then}
use Rattle.cy_recording.specs.Recording.{Source, channels_of_tape, chunks_of_tape}
use Rattle.cy_writer.specs.RecordWrites.{file_writes, record_puts}
use Rattle.cy_commands.specs.declared.failure.File.{File}
use Rattle.cy_commands.specs.declared.failure.File.TheVariants as file
use Rattle.cy_commands.specs.declared.failure.Failure.{Failure}
use Rattle.cy_commands.specs.declared.failure.Failure.TheVariants as failure
use Rattle.wake_core.specs.Plain.{Plain}
use Rattle.wake_core.specs.Rest.{run_shown}
use Rattle.cy_setup.specs.declared.setup.Replay.{Replay}
use Rattle.cy_commands.specs.Commands.PlayWork.{run_trace}
use Rattle.cy_commands.specs.PlayEnds.{source_by}
use Rattle.cy_commands.specs.private.PlayWrites.{name_of_play, unwritten, WritesPieces, WritesPlay}
use Rattle.cy_args.specs.PlayWords.{PlayWords}
use Rattle.cy_commands.proofs.Refusing.{same_since}

-- the puts of a record's tape
abbrev pub puts_of : PlayWords → Source → List Token → List (ℕ × List ℕ)
puts_of w s tape = record_puts (channels_of_tape s tape) (chunks_of_tape w.output s tape)

-- an answer to a failed write, by its file
abbrev pub Stops : PlayWords → File → List Write → Option Files → Option Files → Type 0
Stops w f writes old new = (v : Write) × (name_of v ≡ name_of_play w f) × StopsAt writes v old new

-- a failure is want of memory where the error was that, and that of the file otherwise
pub record Blames (f : File) (error : WriteError) (found : Failure) : Type 0 where
  pub failed : (error ≡ write_error.Memory → ⊥) → found ≡ failure.Store f
  pub memory : error ≡ write_error.Memory → found ≡ failure.Memory

-- all writes of a file name it
puts_named : (name : List ℕ) (puts : List (ℕ × List ℕ)) (before later : List Write) (w : Write) → before ++ w ∷ later ≡ puts_into name puts → name_of w ≡ name
puts_named name [] [] later w e = cc
puts_named name [] (x ∷ before) later w e = cc
puts_named name (put ∷ rest) [] later w e = let same : w ≡ put_of name put = cc in ap name_of same
puts_named name (put ∷ rest) (x ∷ before) later w e = puts_named name rest before later w (ap (drop 1) e)

pub file_named : (name : List ℕ) (puts : List (ℕ × List ℕ)) (before later : List Write) (w : Write) → before ++ w ∷ later ≡ file_writes name puts → name_of w ≡ name
file_named name puts [] later w e = let same : w ≡ Create name = cc in ap name_of same
file_named name puts (x ∷ before) later w e = puts_named name puts before later w (ap (drop 1) e)

same_file : (a b : File) → failure.Store a ≡ failure.Store b → b ≡ a
same_file a b e = cc

not_memory : write_error.Failed ≡ write_error.Memory → ⊥
not_memory e = cc

pub blames : (f : File) (error : WriteError) (found : Failure) → found ≡ unwritten f error → Blames f error found
blames f write_error.Failed found is = record { failed = λ _. is; memory = λ e. absurd (not_memory e) }
blames f write_error.Broken found is = record { failed = λ _. is; memory = λ e. cc }
blames f write_error.Memory found is = record { failed = λ other. absurd (other refl); memory = λ _. is }

-- a failure at a file comes of a failed write
fault : (error : WriteError) (found : Failure) (a f : File) → Blames a error found → (IsErrOf {T = Unit {0}} (Err error) write_error.Broken → ⊥)
    → IsErrOf {T = List ℕ} (Err found) (failure.Store f) → (error ≡ write_error.Failed) × (f ≡ a)
fault write_error.Failed found a f blames unbroken e =
    (refl, same_file a f (sym (blames.failed not_memory) ∙ (let g : found ≡ failure.Store f = cc in g)))
fault write_error.Broken found a f blames unbroken e = absurd (unbroken refl)
fault write_error.Memory found a f blames unbroken e = let m : found ≡ failure.Memory = blames.memory refl in cc

-- and want of memory of want of memory
starved : (error : WriteError) (found : Failure) (a : File) → Blames a error found → IsErrOf {T = List ℕ} (Err found) failure.Memory → error ≡ write_error.Memory
starved write_error.Failed found a blames e = let m : found ≡ failure.Store a = blames.failed not_memory in cc
starved write_error.Broken found a blames e = let m : found ≡ failure.Store a = blames.failed (λ h. cc) in cc
starved write_error.Memory found a blames e = refl

-- the writes of the record failed
first_fails : (w : PlayWords) (s : Source) (tape is : List Token) (puts : List (ℕ × List ℕ)) (old new : StoreView) (error : WriteError) (found : Failure) → tape ≡ is → Blames file.Output error found
    → (IsErrOf {T = Unit {0}} (Err error) write_error.Broken → ⊥) → Makes {T = Unit {0}} (file_writes w.output (puts_of w s tape)) old new (Err error)
    → (f : File) → IsErrOf {T = List ℕ} (Err found) (failure.Store f) → Stops w f (file_writes w.output (puts_of w s is) ++ file_writes w.trace puts) old.files new.files
first_fails w s tape is puts old new error found same blames unbroken made f e =
    let made_too = subst (λ (t : List Token). Makes {T = Unit {0}} (file_writes w.output (puts_of w s t)) old new (Err error)) same made in
    let at = fault error found file.Output f blames unbroken e in
    let stop = made_too.failed (rw at.0 refl) in
    rw at.1 (
      stop.0,
      file_named w.output (puts_of w s is) stop.1.before stop.1.later stop.0 stop.1.split,
      StopsAt-first (file_writes w.output (puts_of w s is)) (file_writes w.trace puts) stop.0 old.files new.files stop.1,
    )

first_starves : (w : PlayWords) (s : Source) (tape is : List Token) (puts : List (ℕ × List ℕ)) (old new : StoreView) (error : WriteError) (found : Failure) → tape ≡ is → Blames file.Output error found
    → Makes {T = Unit {0}} (file_writes w.output (puts_of w s tape)) old new (Err error)
    → IsErrOf {T = List ℕ} (Err found) failure.Memory → StopsBefore (file_writes w.output (puts_of w s is) ++ file_writes w.trace puts) old.files new.files
first_starves w s tape is puts old new error found same blames made e =
    let made_too = subst (λ (t : List Token). Makes {T = Unit {0}} (file_writes w.output (puts_of w s t)) old new (Err error)) same made in
    StopsBefore-first (file_writes w.output (puts_of w s is)) (file_writes w.trace puts) old.files new.files (made_too.starved (rw (starved error found file.Output blames e) refl))

-- the record was written
first_done : (w : PlayWords) (s : Source) (tape is : List Token) (old mid : StoreView) → tape ≡ is → mid.files ≡ option_map (after_writes (file_writes w.output (puts_of w s tape))) old.files
    → mid.files ≡ option_map (after_writes (file_writes w.output (puts_of w s is))) old.files
first_done w s tape is old mid same done = done ∙ ap (λ (t : List Token). option_map (after_writes (file_writes w.output (puts_of w s t))) old.files) same

-- and then those of the trace failed
second_fails : (w : PlayWords) (xs : List Write) (puts : List (ℕ × List ℕ)) (old mid new : StoreView) (error : WriteError) (found : Failure) → mid.files ≡ option_map (after_writes xs) old.files → Blames file.Trace error found
    → (IsErrOf {T = Unit {0}} (Err error) write_error.Broken → ⊥) → Makes {T = Unit {0}} (file_writes w.trace puts) mid new (Err error)
    → (f : File) → IsErrOf {T = List ℕ} (Err found) (failure.Store f) → Stops w f (xs ++ file_writes w.trace puts) old.files new.files
second_fails w xs puts old mid new error found done blames unbroken made f e =
    let at = fault error found file.Trace f blames unbroken e in
    let stop = made.failed (rw at.0 refl) in
    let P : Option Files → Type 0 = λ files. StopsAt (file_writes w.trace puts) stop.0 files new.files in
    rw at.1 (
      stop.0,
      file_named w.trace puts stop.1.before stop.1.later stop.0 stop.1.split,
      StopsAt-then xs (file_writes w.trace puts) stop.0 old.files new.files (subst P done stop.1),
    )

second_starves : (w : PlayWords) (xs : List Write) (puts : List (ℕ × List ℕ)) (old mid new : StoreView) (error : WriteError) (found : Failure) → mid.files ≡ option_map (after_writes xs) old.files → Blames file.Trace error found
    → Makes {T = Unit {0}} (file_writes w.trace puts) mid new (Err error)
    → IsErrOf {T = List ℕ} (Err found) failure.Memory → StopsBefore (xs ++ file_writes w.trace puts) old.files new.files
second_starves w xs puts old mid new error found done blames made e =
    let P : Option Files → Type 0 = λ files. StopsBefore (file_writes w.trace puts) files new.files in
    StopsBefore-then xs (file_writes w.trace puts) old.files new.files (subst P done (made.starved (rw (starved error found file.Trace blames e) refl)))

both_done : (xs ys : List Write) (old mid new : StoreView) → mid.files ≡ option_map (after_writes xs) old.files
    → new.files ≡ option_map (after_writes ys) mid.files → new.files ≡ option_map (after_writes (xs ++ ys)) old.files
both_done xs ys old mid new first second = second ∙ ap (option_map (after_writes ys)) first ∙ map-after_writes xs ys old.files

-- ---- ends

-- the writes of the record
abbrev pub record_writes : PlayWords → Source → List Token → List Write
record_writes w s tape = file_writes w.output (puts_of w s tape)

-- the record was not written
pub unrecorded : (w : PlayWords) (x : Replay) (world : Plain) (tape : List Token) (old new : StoreView) (error : WriteError) (found : Failure) → tape ≡ world.tape → Blames file.Output error found
    → (IsErrOf {T = Unit {0}} (Err error) write_error.Broken → ⊥) → Makes {T = Unit {0}} (record_writes w (source_by x) tape) old new (Err error)
    → WritesPlay {T = List ℕ} w x world old new (Err found)
unrecorded w x world tape old new error found same blames unbroken made =
    let text = run_trace (source_by x) x.list.shadowed (run_shown world) in
    record {
      pieces = text ∷ [];
      cut = append-nil text;
      done = tt;
      counts = tt;
      failed = first_fails w (source_by x) tape world.tape ((0, text) ∷ []) old new error found same blames unbroken made;
      memory = first_starves w (source_by x) tape world.tape ((0, text) ∷ []) old new error found same blames made;
    }

-- it was, and there was no memory for the line
pub untold : (w : PlayWords) (x : Replay) (world : Plain) (tape : List Token) (old mid : StoreView) (answer : Result (List ℕ) Failure) → tape ≡ world.tape
    → mid.files ≡ option_map (after_writes (record_writes w (source_by x) tape)) old.files → OnOk answer ⊥ → ((f : File) → IsErrOf answer (failure.Store f) → ⊥) → WritesPlay w x world old mid answer
untold w x world tape old mid answer same done err other =
    let text = run_trace (source_by x) x.list.shadowed (run_shown world) in
    record {
      pieces = text ∷ [];
      cut = append-nil text;
      done = none answer _ err;
      counts = none answer _ err;
      failed = λ f e. absurd (other f e);
      memory = λ e. record {
        before = record_writes w (source_by x) world.tape;
        later = file_writes w.trace ((0, text) ∷ []);
        split = refl;
        left = first_done w (source_by x) tape world.tape old mid same done;
      };
    }
  where
    none : (a : Result (List ℕ) Failure) (P : Type 0) → OnOk a ⊥ → OnOk a P
    none (Ok x) P h = absurd h
    none (Err e) P h = tt

-- it was, and the trace was not
pub untraced : (w : PlayWords) (x : Replay) (world : Plain) (tape : List Token) (text : List ℕ) (old mid new : StoreView) (error : WriteError) (found : Failure) → tape ≡ world.tape
    → text ≡ run_trace (source_by x) x.list.shadowed (run_shown world) → mid.files ≡ option_map (after_writes (record_writes w (source_by x) tape)) old.files
    → Blames file.Trace error found → WritesPieces {T = Unit {0}} w.trace text mid new (Err error) → WritesPlay {T = List ℕ} w x world old new (Err found)
untraced w x world tape text old mid new error found same is done blames p =
    let first = first_done w (source_by x) tape world.tape old mid same done in
    let before = record_writes w (source_by x) world.tape in
    record {
      pieces = p.pieces;
      cut = p.cut ∙ is;
      done = tt;
      counts = tt;
      failed = second_fails w before (placed 0 p.pieces) old mid new error found first blames p.unbroken p.makes;
      memory = second_starves w before (placed 0 p.pieces) old mid new error found first blames p.makes;
    }

-- both were written
pub written : (w : PlayWords) (x : Replay) (world : Plain) (tape : List Token) (text : List ℕ) (old mid new : StoreView) (line : List ℕ) → tape ≡ world.tape
    → text ≡ run_trace (source_by x) x.list.shadowed (run_shown world) → mid.files ≡ option_map (after_writes (record_writes w (source_by x) tape)) old.files
    → SameCounts old mid → WritesPieces {T = Unit {0}} w.trace text mid new (Ok tt) → WritesPlay w x world old new (Ok line)
written w x world tape text old mid new line same is done counts p = record {
  pieces = p.pieces;
  cut = p.cut ∙ is;
  done = both_done (record_writes w (source_by x) world.tape) (file_writes w.trace (placed 0 p.pieces)) old mid new (first_done w (source_by x) tape world.tape old mid same done) p.makes.done;
  counts = same_since old mid new counts (p.causes.quiet (λ e. cc));
  failed = λ f e. cc;
  memory = λ e. cc;
}
