-- Files that are made one after another, and where that stops.
use Rattle.std.proofs.Common.{◌≡◌, ℕ, ◌+◌, List, [], ◌∷◌, ◌++◌, take, drop, slice_get, Option, Some, None, Result, Ok, Err, IsErrOf, refl, sym, ap, ◌∙◌, subst, arith, append-nil}
use Rattle.std.specs.Prelude.{OnOk}
use Rattle.std.specs.List.{flat_map}
use Rattle.std.specs.Option.{option_map}
use Rattle.std.proofs.lemmas.Grind.{flat_map-append}
use Rattle.std.proofs.lemmas.List.{take-append-drop, take_more, drop_more}
use Rattle.std.proofs.lemmas.Option.{slice_get_within, get_or_from_slice_get}
use Rattle.cy_store.specs.Files.{Files}
use Rattle.cy_store.specs.Write.{Write, after_writes}
use Rattle.cy_store.specs.Store.{StoreView, SameCounts, HasWriteCauses}
use Rattle.cy_writer.specs.declared.error.WriteError.{WriteError}
use Rattle.cy_writer.specs.declared.error.WriteError.TheVariants as write_error
use Rattle.cy_writer.specs.Writes.{Makes, StopsAt, StopsBefore}
use Rattle.cy_section.specs.declared.types.BodyMessage.{BodyMessage}
use Rattle.cy_writer.specs.Record.{messages_on}
use Rattle.cy_writer.specs.RecordWrites.{file_writes, record_puts, chunks_given}
use Rattle.cy_writer.proofs.Puts.{file_named, map-after_writes, StopsAt-first, StopsAt-then, StopsBefore-first, StopsBefore-then, causes_same, causes_then, causes_none, untold_map}
use Rattle.cy_make.specs.declared.error.MakeError.{MakeError}
use Rattle.cy_make.specs.declared.error.MakeError.TheVariants as make_error
use Rattle.cy_make.specs.declared.config.Config.{Config}
use Rattle.cy_make.specs.Messages.{channels_of, messages_to}
use Rattle.cy_make.specs.private.Steps.{given_after}
use Rattle.cy_make.specs.Texts.{suffix_of, text_of}
use Rattle.cy_make.specs.Inputs.{record_name, config_writes, made_record_writes, Stops, IsAtFile, MakesFiles}
use Rattle.cy_make.proofs.RecordText.{messages_shown}

-- the file that an answer names
abbrev pub IsOf : MakeError → List ℕ → List ℕ → Type 0
IsOf (make_error.Config c) prefix name = name ≡ prefix ++ suffix_of c
IsOf make_error.Record prefix name = name ≡ record_name prefix
IsOf make_error.Memory prefix name = ⊥

-- a failure is want of memory where the error was that, and that of the file otherwise
pub record Blames (file : MakeError) (error : WriteError) (found : MakeError) : Type 0 where
  pub failed : (error ≡ write_error.Memory → ⊥) → found ≡ file
  pub memory : error ≡ write_error.Memory → found ≡ make_error.Memory

fails_in : (file : MakeError) (prefix name : List ℕ) (puts : List (ℕ × List ℕ)) (w : Write) (old new : StoreView) → IsOf file prefix name
    → StopsAt (file_writes name puts) w old.files new.files → Stops file prefix (file_writes name puts) old new
fails_in (make_error.Config c) prefix name puts w old new of s = record { failed = w; named = file_named name puts s.before s.later w s.split ∙ of; stops = s }
fails_in make_error.Record prefix name puts w old new of s = record { failed = w; named = file_named name puts s.before s.later w s.split ∙ of; stops = s }
fails_in make_error.Memory prefix name puts w old new of s = absurd of

at_file : (file : MakeError) (prefix name : List ℕ) → IsOf file prefix name → IsAtFile file
at_file (make_error.Config c) prefix name of = tt
at_file make_error.Record prefix name of = tt
at_file make_error.Memory prefix name of = absurd of

memory_failed : write_error.Memory ≡ write_error.Failed → ⊥
memory_failed e = cc

failed_memory : write_error.Failed ≡ write_error.Memory → ⊥
failed_memory e = cc

abbrev pub Answer : Type 0 → Type 0
Answer E = Result (Unit {0}) E

-- a file was not written
pub not_written : (file found : MakeError) (error : WriteError) (prefix name : List ℕ) (puts : List (ℕ × List ℕ)) (old new : StoreView) → IsOf file prefix name → Blames file error found
    → (IsErrOf {T = Unit {0}} (Err error) write_error.Broken → ⊥) → Makes {T = Unit {0}} (file_writes name puts) old new (Err error)
    → HasWriteCauses (IsErrOf {T = Unit {0}} (Err error) write_error.Failed) old new → MakesFiles {T = Unit {0}} prefix (file_writes name puts) old new (Err found)
not_written file found write_error.Failed prefix name puts old new of blames unbroken made causes =
    let s = made.failed refl in
    subst (λ (f : MakeError). MakesFiles {T = Unit {0}} prefix (file_writes name puts) old new (Err f)) (sym (blames.failed failed_memory)) (record {
      done = tt;
      stopped = fails_in file prefix name puts s.0 old new of s.1;
      causes = causes_same old new causes (λ _. refl) (λ _. at_file file prefix name of);
    })
not_written file found write_error.Broken prefix name puts old new of blames unbroken made causes = absurd (unbroken refl)
not_written file found write_error.Memory prefix name puts old new of blames unbroken made causes =
    subst (λ (f : MakeError). MakesFiles {T = Unit {0}} prefix (file_writes name puts) old new (Err f)) (sym (blames.memory refl)) (record {
      done = tt;
      stopped = made.starved refl;
      causes = causes_same old new causes (λ e. absurd e) (λ e. let same : write_error.Memory ≡ write_error.Failed = cc in absurd (memory_failed same));
    })

-- a file was written
pub written : (prefix : List ℕ) (writes : List Write) (old new : StoreView) → new.files ≡ option_map (after_writes writes) old.files → SameCounts old new → MakesFiles {T = Unit {0}} prefix writes old new (Ok tt)
written prefix writes old new files counts = record {
  done = files;
  stopped = tt;
  causes = record {
    faults_stay = omega (arith, counts.faults);
    misses_stay = omega (arith, counts.misses);
    failed = λ e. absurd e;
    quiet = λ _. counts;
  };
}

-- nothing was written for want of memory
pub not_begun : (answer : Answer MakeError) (prefix : List ℕ) (writes : List Write) (old : StoreView) → answer ≡ Err make_error.Memory → MakesFiles prefix writes old old answer
not_begun answer prefix writes old e =
    subst (λ (r : Answer MakeError). MakesFiles prefix writes old old r) (sym e) (record {
      done = tt;
      stopped = record { before = []; later = writes; split = refl; left = nothing old.files };
      causes = causes_none old (λ e. e);
    })
  where
    nothing : (files : Option Files) → files ≡ option_map (after_writes []) files
    nothing None = refl
    nothing (Some m) = refl

-- Files one after another.

stops_first : (e : MakeError) (prefix : List ℕ) (xs more : List Write) (old new : StoreView) → Stops e prefix xs old new → Stops e prefix (xs ++ more) old new
stops_first (make_error.Config c) prefix xs more old new s = record { failed = s.failed; named = s.named; stops = StopsAt-first xs more s.failed old.files new.files s.stops }
stops_first make_error.Record prefix xs more old new s = record { failed = s.failed; named = s.named; stops = StopsAt-first xs more s.failed old.files new.files s.stops }
stops_first make_error.Memory prefix xs more old new s = StopsBefore-first xs more old.files new.files s

stops_then : (e : MakeError) (prefix : List ℕ) (xs ys : List Write) (old mid new : StoreView) → mid.files ≡ option_map (after_writes xs) old.files → Stops e prefix ys mid new → Stops e prefix (xs ++ ys) old new
stops_then (make_error.Config c) prefix xs ys old mid new first s =
    let P : Option Files → Type 0 = λ files. StopsAt ys s.failed files new.files in
    record { failed = s.failed; named = s.named; stops = StopsAt-then xs ys s.failed old.files new.files (subst P first s.stops) }
stops_then make_error.Record prefix xs ys old mid new first s =
    let P : Option Files → Type 0 = λ files. StopsAt ys s.failed files new.files in
    record { failed = s.failed; named = s.named; stops = StopsAt-then xs ys s.failed old.files new.files (subst P first s.stops) }
stops_then make_error.Memory prefix xs ys old mid new first s =
    let P : Option Files → Type 0 = λ files. StopsBefore ys files new.files in
    StopsBefore-then xs ys old.files new.files (subst P first s)

-- the first files were not all made, and why is answered
pub first_stops : {T : Type 0} (r : Answer MakeError) (answer : Result T MakeError) (prefix : List ℕ) (xs more : List Write) (old new : StoreView) → MakesFiles prefix xs old new r
    → OnOk answer ⊥ → ((e : MakeError) → IsErrOf answer e → IsErrOf r e) → MakesFiles prefix (xs ++ more) old new answer
first_stops r (Ok x) prefix xs more old new made err passed_on = absurd err
first_stops r (Err e) prefix xs more old new made err passed_on =
    let is = subst (λ (s : Answer MakeError). MakesFiles prefix xs old new s) (passed_on e refl) made in
    record { done = tt; stopped = stops_first e prefix xs more old new is.stopped; causes = is.causes }

-- the first files were made, and then others are to be
pub then_made : (r : Answer MakeError) (prefix : List ℕ) (xs ys : List Write) (old mid new : StoreView) → mid.files ≡ option_map (after_writes xs) old.files → SameCounts old mid
    → MakesFiles prefix ys mid new r → MakesFiles prefix (xs ++ ys) old new r
then_made (Ok x) prefix xs ys old mid new first counts made = record {
  done = made.done ∙ ap (option_map (after_writes ys)) first ∙ map-after_writes xs ys old.files;
  stopped = tt;
  causes = causes_then old mid new counts (untold_map (after_writes xs) old.files mid.files first) made.causes;
}
then_made (Err e) prefix xs ys old mid new first counts made = record {
  done = tt;
  stopped = stops_then e prefix xs ys old mid new first made.stopped;
  causes = causes_then old mid new counts (untold_map (after_writes xs) old.files mid.files first) made.causes;
}

-- these writes were made
pub record AreMade (writes : List Write) (old new : StoreView) : Type 0 where
  pub files : new.files ≡ option_map (after_writes writes) old.files
  pub counts : SameCounts old new

-- the files of a list, up to one and from it on
pub all_split : {X : Type 0} (f : X → List Write) (xs : List X) (n : ℕ) (x : X) → slice_get xs n ≡ Some x
    → flat_map f (take n xs) ++ (f x ++ flat_map f (drop (n + 1) xs)) ≡ flat_map f xs
all_split {X = X} f xs n x here =
    sym (flat_map-append f (take n xs) (x ∷ drop (n + 1) xs))
    ∙ ap (flat_map f)
    (ap (λ (l : List X). take n xs ++ l)
    (sym (drop_more xs n x (slice_get_within xs n x here) ∙ ap (λ (y : X). y ∷ drop (n + 1) xs) (get_or_from_slice_get xs n x x here)))
    ∙ take-append-drop n xs)

-- and with one more
pub all_more : {X : Type 0} (f : X → List Write) (xs : List X) (n : ℕ) (x : X) → slice_get xs n ≡ Some x → flat_map f (take n xs) ++ f x ≡ flat_map f (take (n + 1) xs)
all_more {X = X} f xs n x here =
    ap (λ (l : List Write). flat_map f (take n xs) ++ l) (sym (append-nil (f x)))
    ∙ sym (flat_map-append f (take n xs) (x ∷ []))
    ∙ ap (flat_map f) (sym (take_more xs n x (slice_get_within xs n x here) ∙ ap (λ (y : X). take n xs ++ y ∷ []) (get_or_from_slice_get xs n x x here)))

pub made_more : (prefix : List ℕ) (xs ys : List Write) (old mid new : StoreView) → AreMade xs old mid → MakesFiles {T = Unit {0}} prefix ys mid new (Ok tt) → AreMade (xs ++ ys) old new
made_more prefix xs ys old mid new h made =
    let counts = made.causes.quiet (λ e. e) in
    record {
      files = made.done ∙ ap (option_map (after_writes ys)) h.files ∙ map-after_writes xs ys old.files;
      counts = record { faults = counts.faults ∙ h.counts.faults; misses = counts.misses ∙ h.counts.misses };
    }

-- The writes that are asked for.

pub config_same : (prefix name text : List ℕ) (c : Config) → name ≡ prefix ++ suffix_of c → text ≡ text_of prefix c → file_writes name ((0, text) ∷ []) ≡ config_writes prefix c
config_same prefix name text c named told =
    ap (λ (n : List ℕ). file_writes n ((0, text) ∷ [])) named
    ∙ ap (λ (t : List ℕ). file_writes (prefix ++ suffix_of c) ((0, t) ∷ [])) told

pub record_same : (n : ℕ) (prefix name : List ℕ) → name ≡ record_name prefix
    → file_writes name (record_puts (channels_of n) (chunks_given name (channels_of n) (messages_on (channels_of n) (given_after 0 n)))) ≡ made_record_writes n prefix
record_same n prefix name named =
    ap (λ (ms : List BodyMessage). file_writes name (record_puts (channels_of n) (chunks_given name (channels_of n) ms))) (messages_shown 0 n n (omega arith))
    ∙ ap (λ (m : List ℕ). file_writes m (record_puts (channels_of n) (chunks_given m (channels_of n) (messages_to n)))) named
