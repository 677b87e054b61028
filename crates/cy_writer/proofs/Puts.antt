-- A file into which pieces are put, one by one.
use Rattle.std.proofs.Common.{◌≡◌, ℕ, ◌+◌, ◌≤◌, Bool, cond, List, [], ◌∷◌, ◌++◌, length, drop, Option, Some, None, Result, Ok, Err, IsErrOf, refl, sym, ap, ◌∙◌, subst, inl, inr, arith, length-append, append-nil, append_assoc}
use Rattle.std.specs.Prelude.{IsSomeAnd, OnOk, OnErr}
use Rattle.std.specs.Option.{option_map, unwrap_or}
use Rattle.std.proofs.lemmas.List.{take_all, drop_all, length-take, length-drop}
use Rattle.std.proofs.lemmas.Option.{none-some}
use Rattle.std.specs.Cmp.{eq_by_cmp_equiv}
use Rattle.std.specs.Cmp.Lexicographic.{nat_list_cmp_total}
use Rattle.std.specs.FinMap.{get, insert, get-insert}
use Rattle.cy_store.specs.Files.{Files, Holds, Lacks}
use Rattle.cy_store.specs.Write.{Write, Create, Put, name_of, after_write, after_writes, written_at, LeavesIn}
use Rattle.cy_store.specs.Store.{StoreView, Rose, StoreRose, WriteRose, SameCounts, HasCause, HasFault, HasWriteCauses}
use Rattle.cy_store.specs.declared.error.StoreError.{StoreError}
use Rattle.cy_store.specs.declared.error.StoreError.TheVariants as store_error
use Rattle.cy_writer.specs.declared.error.WriteError.{WriteError}
use Rattle.cy_writer.specs.declared.error.WriteError.TheVariants as write_error
use Rattle.cy_writer.specs.Writes.{file_after, puts_into, StopsAt, StopsBefore, Makes}

-- a piece at its place, as a write
abbrev pub put_of : List ℕ → ℕ × List ℕ → Write
put_of name put = Put name put.0 put.1

-- Lists of writes.

pub after_writes-append : (xs ys : List Write) (m : Files) → after_writes (xs ++ ys) m ≡ after_writes ys (after_writes xs m)
after_writes-append [] ys m = refl
after_writes-append (x ∷ xs) ys m = after_writes-append xs ys (after_write x m)

pub map-after_writes : (xs ys : List Write) (files : Option Files) → option_map (after_writes ys) (option_map (after_writes xs) files) ≡ option_map (after_writes (xs ++ ys)) files
map-after_writes xs ys None = refl
map-after_writes xs ys (Some m) = ap (λ (n : Files). Some n) (sym (after_writes-append xs ys m))

-- all writes of a file name it
puts_named : (name : List ℕ) (puts : List (ℕ × List ℕ)) (before later : List Write) (w : Write) → before ++ w ∷ later ≡ puts_into name puts → name_of w ≡ name
puts_named name [] [] later w e = cc
puts_named name [] (x ∷ before) later w e = cc
puts_named name (put ∷ rest) [] later w e = let same : w ≡ put_of name put = cc in ap name_of same
puts_named name (put ∷ rest) (x ∷ before) later w e = puts_named name rest before later w (ap (drop 1) e)

pub file_named : (name : List ℕ) (puts : List (ℕ × List ℕ)) (before later : List Write) (w : Write) → before ++ w ∷ later ≡ Create name ∷ puts_into name puts → name_of w ≡ name
file_named name puts [] later w e = let same : w ≡ Create name = cc in ap name_of same
file_named name puts (x ∷ before) later w e = puts_named name puts before later w (ap (drop 1) e)

-- What an option holds.

pub held_some : {X : Type 0} (o : Option X) (P : X → Type 0) → IsSomeAnd o P → (x : X) × ((o ≡ Some x) × P x)
held_some (Some x) P h = (x, (refl, h))
held_some None P h = absurd h

pub some_held : {X : Type 0} (o : Option X) (P : X → Type 0) (x : X) → o ≡ Some x → P x → IsSomeAnd o P
some_held {X = X} o P x e h = subst (λ (p : Option X). IsSomeAnd p P) (sym e) h

-- A file under its name.

pub get-inserted : (m : Files) (name bytes : List ℕ) → get (insert m name bytes) name ≡ Some bytes
get-inserted m name bytes =
    get-insert nat_list_cmp_total m name bytes name
    ∙ ap (λ (b : Bool). cond b (Some bytes) (get m name)) ((eq_by_cmp_equiv nat_list_cmp_total).refl name)

pub get-after : (name : List ℕ) (puts : List (ℕ × List ℕ)) (m : Files) (bytes : List ℕ) → get m name ≡ Some bytes
    → get (after_writes (puts_into name puts) m) name ≡ Some (file_after bytes puts)
get-after name [] m bytes e = e
get-after name (put ∷ rest) m bytes e =
    get-after name rest (after_write (put_of name put) m) (written_at bytes put.0 put.1)
    (get-inserted m name (written_at (unwrap_or (get m name) []) put.0 put.1)
    ∙ ap (λ (o : Option (List ℕ)). Some (written_at (unwrap_or o []) put.0 put.1)) e)

-- what the store holds after pieces were put
pub holds-after : (name : List ℕ) (puts : List (ℕ × List ℕ)) (P Q : List ℕ → Type 0) (old new : Option Files)
    → ((bytes : List ℕ) → P bytes → Q (file_after bytes puts)) → new ≡ option_map (after_writes (puts_into name puts)) old
    → Holds old name P → Holds new name Q
holds-after name puts P Q None new step e h = rw e tt
holds-after name puts P Q (Some m) new step e h =
    let found = held_some (get m name) P h in
    let Held : Option Files → Type 0 = λ files. Holds files name Q in
    subst Held (sym e)
    (some_held (get (after_writes (puts_into name puts) m) name) Q (file_after found.0 puts) (get-after name puts m found.0 found.1.0) (step found.0 found.1.1))

-- One put.

nothing : (files : Option Files) → files ≡ option_map (after_writes []) files
nothing None = refl
nothing (Some m) = refl

-- what it makes of the store
pub makes_put : {T U : Type 0} {r : Result T StoreError} (answer : Result U WriteError) (w : Write) (old new : StoreView)
    → OnOk answer (new.files ≡ option_map (after_write w) old.files)
    → (IsErrOf r store_error.Failed → LeavesIn w old.files new.files) → (IsErrOf r store_error.Memory → new.files ≡ old.files)
    → (IsErrOf answer write_error.Failed → IsErrOf r store_error.Failed) → (IsErrOf answer write_error.Memory → IsErrOf r store_error.Memory)
    → (IsErrOf answer write_error.Broken → ⊥)
    → Makes (w ∷ []) old new answer
makes_put answer w old new put torn starved failed memory unbroken = record {
  done = put;
  failed = λ e. (
    w,
    record {
      before = [];
      later = [];
      split = refl;
      left = subst (λ (files : Option Files). LeavesIn w files new.files) (nothing old.files) (torn (failed e));
    },
  );
  starved = λ e. record { before = []; later = w ∷ []; split = refl; left = starved (memory e) ∙ nothing old.files };
  broken = λ e. absurd (unbroken e);
}

-- and of the file
pub holds_put : (name : List ℕ) (at : ℕ) (piece : List ℕ) (P Q : List ℕ → Type 0) (old new : Option Files)
    → ((bytes : List ℕ) → P bytes → Q (written_at bytes at piece)) → new ≡ option_map (after_write (Put name at piece)) old
    → Holds old name P → Holds new name Q
holds_put name at piece P Q old new step e h = holds-after name ((at, piece) ∷ []) P Q old new step (e ∙ one old) h
  where
    one : (files : Option Files) → option_map (after_write (Put name at piece)) files ≡ option_map (after_writes (Put name at piece ∷ [])) files
    one None = refl
    one (Some m) = refl

pub length-written_at : (before piece : List ℕ) (at : ℕ) → length before ≤ length (written_at before at piece)
length-written_at before piece at = simp (length-append, length-take, length-drop) (omega arith)

pub written_at-long : (before piece : List ℕ) (at : ℕ) → at ≤ length before → at + length piece ≤ length (written_at before at piece)
written_at-long before piece at h = simp (length-append, length-take, length-drop) (omega arith)

pub written_at-end : (bytes piece : List ℕ) (at : ℕ) → length bytes ≡ at → written_at bytes at piece ≡ bytes ++ piece
written_at-end bytes piece at e =
    rw (take_all at bytes (omega arith), drop_all (at + length piece) bytes (omega arith)) (append-nil (bytes ++ piece))

-- its causes
pub rose_more : (old mid new : ℕ) → old ≤ mid → Rose mid new → Rose old new
rose_more old mid new stays rose = omega arith

untold : (name : List ℕ) (P : List ℕ → Type 0) (files : Option Files) → Holds files name P → Lacks files name → files ≡ None
untold name P None h e = refl
untold name P (Some m) h e = let found = held_some (get m name) P h in absurd (none-some found.0 (sym e ∙ found.1.0))

pub causes_put : {T : Type 0} {F : Type 0} (r : Result T StoreError) (name : List ℕ) (P : List ℕ → Type 0) (old new : StoreView)
    → Holds old.files name P → HasCause old new name r → (F → IsErrOf r store_error.Failed) → (IsErrOf r store_error.Failed → F)
    → HasWriteCauses F old new
causes_put r name P old new h cause into from = record {
  faults_stay = cause.faults_stay;
  misses_stay = cause.misses_stay;
  failed = λ e. rose (cause.failed (into e));
  quiet = λ calm. cause.quiet (λ e. calm (from e));
}
  where
    rose : StoreRose old new name → WriteRose old new
    rose (inl faults) = inl faults
    rose (inr (misses, lacks)) = inr (misses, untold name P old.files h lacks)

-- those of a creation
pub causes_made : {T : Type 0} {F : Type 0} (r : Result T StoreError) (old new : StoreView) → HasFault old new r
    → (F → IsErrOf r store_error.Failed) → (IsErrOf r store_error.Failed → F) → HasWriteCauses F old new
causes_made r old new cause into from = record {
  faults_stay = cause.faults_stay;
  misses_stay = omega (arith, cause.misses_same);
  failed = λ e. inl (cause.failed (into e));
  quiet = λ calm. cause.quiet (λ e. calm (from e));
}

-- Calls one after another.

-- one of the first writes failed, and no later one was made
pub StopsAt-first : (xs more : List Write) (w : Write) (f g : Option Files) → StopsAt xs w f g → StopsAt (xs ++ more) w f g
StopsAt-first xs more w f g s = record {
  before = s.before;
  later = s.later ++ more;
  split = sym (append_assoc s.before (w ∷ s.later) more) ∙ ap (λ l. l ++ more) s.split;
  left = s.left;
}

-- the first writes were made, and then one of the others failed
pub StopsAt-then : (xs ys : List Write) (w : Write) (f g : Option Files) → StopsAt ys w (option_map (after_writes xs) f) g → StopsAt (xs ++ ys) w f g
StopsAt-then xs ys w f g s = record {
  before = xs ++ s.before;
  later = s.later;
  split = append_assoc xs s.before (w ∷ s.later) ∙ ap (λ l. xs ++ l) s.split;
  left = subst (λ (files : Option Files). LeavesIn w files g) (map-after_writes xs s.before f) s.left;
}

-- some of the first writes were made, and no later one
pub StopsBefore-first : (xs more : List Write) (f g : Option Files) → StopsBefore xs f g → StopsBefore (xs ++ more) f g
StopsBefore-first xs more f g s = record {
  before = s.before;
  later = s.later ++ more;
  split = sym (append_assoc s.before s.later more) ∙ ap (λ l. l ++ more) s.split;
  left = s.left;
}

-- the first writes were made, and then some of the others
pub StopsBefore-then : (xs ys : List Write) (f g : Option Files) → StopsBefore ys (option_map (after_writes xs) f) g → StopsBefore (xs ++ ys) f g
StopsBefore-then xs ys f g s = record {
  before = xs ++ s.before;
  later = s.later;
  split = append_assoc xs s.before s.later ∙ ap (λ l. xs ++ l) s.split;
  left = s.left ∙ map-after_writes xs s.before f;
}

-- the first call did all, and the second answers
pub makes_then : {T : Type 0} (r : Result T WriteError) (xs ys : List Write) (old mid new : StoreView)
    → mid.files ≡ option_map (after_writes xs) old.files → Makes ys mid new r
    → (IsErrOf r write_error.Broken → ⊥) → Makes (xs ++ ys) old new r
makes_then r xs ys old mid new first second unbroken = record {
  done = both r second.done;
  failed = λ e. let stopped = second.failed e in (stopped.0, StopsAt-then xs ys stopped.0 old.files new.files (subst (λ (files : Option Files). StopsAt ys stopped.0 files new.files) first stopped.1));
  starved = λ e. StopsBefore-then xs ys old.files new.files (subst (λ (files : Option Files). StopsBefore ys files new.files) first (second.starved e));
  broken = λ e. absurd (unbroken e);
}
  where
    both : {T : Type 0} (s : Result T WriteError) → OnOk s (new.files ≡ option_map (after_writes ys) mid.files) → OnOk s (new.files ≡ option_map (after_writes (xs ++ ys)) old.files)
    both (Ok x) done = done ∙ ap (option_map (after_writes ys)) first ∙ map-after_writes xs ys old.files
    both (Err e) done = tt

-- the first call did not do all, and its error is the answer
pub makes_first : {T U : Type 0} (r : Result T WriteError) (answer : Result U WriteError) (xs more : List Write) (old new : StoreView)
    → Makes xs old new r → OnOk answer ⊥ → ((e : WriteError) → IsErrOf answer e → IsErrOf r e) → Makes (xs ++ more) old new answer
makes_first r answer xs more old new made err passed_on = record {
  done = none answer _ err;
  failed = λ e. let stopped = made.failed (passed_on write_error.Failed e) in (stopped.0, StopsAt-first xs more stopped.0 old.files new.files stopped.1);
  starved = λ e. StopsBefore-first xs more old.files new.files (made.starved (passed_on write_error.Memory e));
  broken = λ e. made.broken (passed_on write_error.Broken e);
}
  where
    none : {U : Type 0} (a : Result U WriteError) (P : Type 0) → OnOk a ⊥ → OnOk a P
    none (Ok x) P h = absurd h
    none (Err e) P h = tt

-- nothing was written
pub makes_none : {U : Type 0} (answer : Result U WriteError) (writes : List Write) (old : StoreView) → OnOk answer ⊥ → (IsErrOf answer write_error.Failed → ⊥)
    → Makes writes old old answer
makes_none answer writes old err unfailed = record {
  done = none answer _ err;
  failed = λ e. absurd (unfailed e);
  starved = λ e. record { before = []; later = writes; split = refl; left = nothing old.files };
  broken = λ e. refl;
}
  where
    none : {U : Type 0} (a : Result U WriteError) (P : Type 0) → OnOk a ⊥ → OnOk a P
    none (Ok x) P h = absurd h
    none (Err e) P h = tt

-- the file could not be made
pub makes_uncreated : {U : Type 0} (answer : Result U WriteError) (name : List ℕ) (later : List Write) (old new : StoreView) → new.files ≡ old.files
    → OnOk answer ⊥ → (IsErrOf answer write_error.Broken → ⊥) → Makes (Create name ∷ later) old new answer
makes_uncreated answer name later old new same err unbroken = record {
  done = none answer _ err;
  failed = λ e. (Create name, record { before = []; later = later; split = refl; left = subst (λ (files : Option Files). LeavesIn (Create name) files new.files) (nothing old.files) (unmade old.files new.files same) });
  starved = λ e. record { before = []; later = Create name ∷ later; split = refl; left = same ∙ nothing old.files };
  broken = λ e. absurd (unbroken e);
}
  where
    none : {U : Type 0} (a : Result U WriteError) (P : Type 0) → OnOk a ⊥ → OnOk a P
    none (Ok x) P h = absurd h
    none (Err e) P h = tt

    unmade : (old new : Option Files) → new ≡ old → LeavesIn (Create name) old new
    unmade None new e = e
    unmade (Some m) new e = subst (λ (files : Option Files). IsSomeAnd files (λ n. n ≡ m)) (sym e) refl

-- a file that was made is there, and has nothing
pub created : (name : List ℕ) (old new : Option Files) → new ≡ option_map (after_write (Create name)) old → Holds new name (λ bytes. bytes ≡ [])
created name None new e = rw e tt
created name (Some m) new e =
    let Held : Option Files → Type 0 = λ files. Holds files name (λ bytes. bytes ≡ []) in
    subst Held (sym e) (some_held (get (insert m name []) name) (λ bytes. bytes ≡ []) [] (get-inserted m name []) refl)

pub as_writes : (w : Write) (old new : Option Files) → new ≡ option_map (after_write w) old → new ≡ option_map (after_writes (w ∷ [])) old
as_writes w None new e = e
as_writes w (Some m) new e = e

pub holds_weaker : (files : Option Files) (name : List ℕ) (P Q : List ℕ → Type 0) → ((bytes : List ℕ) → P bytes → Q bytes) → Holds files name P → Holds files name Q
holds_weaker None name P Q step h = tt
holds_weaker (Some m) name P Q step h = some (get m name) h
  where
    some : (o : Option (List ℕ)) → IsSomeAnd o P → IsSomeAnd o Q
    some None h = absurd h
    some (Some bytes) h = step bytes h

-- Causes of several calls.

pub causes_same : {F G : Type 0} (old new : StoreView) → HasWriteCauses F old new → (G → F) → (F → G) → HasWriteCauses G old new
causes_same old new cause into from = record {
  faults_stay = cause.faults_stay;
  misses_stay = cause.misses_stay;
  failed = λ e. cause.failed (into e);
  quiet = λ calm. cause.quiet (λ e. calm (from e));
}

-- the first call left the counts, and a store that tells its files
pub causes_then : {F : Type 0} (old mid new : StoreView) → SameCounts old mid → (mid.files ≡ None → old.files ≡ None)
    → HasWriteCauses F mid new → HasWriteCauses F old new
causes_then old mid new same told cause = record {
  faults_stay = omega (arith, same.faults, cause.faults_stay);
  misses_stay = omega (arith, same.misses, cause.misses_stay);
  failed = λ e. rose (cause.failed e);
  quiet = λ calm. let still = cause.quiet calm in record { faults = still.faults ∙ same.faults; misses = still.misses ∙ same.misses };
}
  where
    rose : WriteRose mid new → WriteRose old new
    rose (inl risen) = inl (rose_more old.faults mid.faults new.faults (omega (arith, same.faults)) risen)
    rose (inr (risen, gone)) = inr (rose_more old.misses mid.misses new.misses (omega (arith, same.misses)) risen, told gone)

-- nothing was called
pub causes_none : {F : Type 0} (old : StoreView) → (F → ⊥) → HasWriteCauses F old old
causes_none old calm = record {
  faults_stay = omega arith;
  misses_stay = omega arith;
  failed = λ e. absurd (calm e);
  quiet = λ c. record { faults = refl; misses = refl };
}

pub untold_map : (f : Files → Files) (old new : Option Files) → new ≡ option_map f old → new ≡ None → old ≡ None
untold_map f None new e none = refl
untold_map f (Some m) new e none = absurd (none-some (f m) (sym none ∙ e))

-- what follows where a call was answered by Ok
pub on_ok : {T E P Q : Type 0} (r : Result T E) → (P → Q) → OnOk r P → OnOk r Q
on_ok (Ok x) step h = step h
on_ok (Err e) step h = tt

pub always : {T E P : Type 0} (r : Result T E) → P → OnOk r P
always (Ok x) p = p
always (Err e) p = tt

-- an error that is handed on
pub makes_same : {T U : Type 0} (r : Result T WriteError) (answer : Result U WriteError) (xs : List Write) (old new : StoreView)
    → Makes xs old new r → OnOk answer ⊥ → ((e : WriteError) → IsErrOf answer e → IsErrOf r e) → Makes xs old new answer
makes_same r answer xs old new made err passed_on = record {
  done = none answer _ err;
  failed = λ e. made.failed (passed_on write_error.Failed e);
  starved = λ e. made.starved (passed_on write_error.Memory e);
  broken = λ e. made.broken (passed_on write_error.Broken e);
}
  where
    none : {U : Type 0} (a : Result U WriteError) (P : Type 0) → OnOk a ⊥ → OnOk a P
    none (Ok x) P h = absurd h
    none (Err e) P h = tt

-- all was written, and then no more
pub makes_done : {U : Type 0} (answer : Result U WriteError) (xs : List Write) (old new : StoreView) → new.files ≡ option_map (after_writes xs) old.files
    → (IsErrOf answer write_error.Failed → ⊥) → (IsErrOf answer write_error.Broken → ⊥) → Makes xs old new answer
makes_done answer xs old new done unfailed unbroken = record {
  done = always answer done;
  failed = λ e. absurd (unfailed e);
  starved = λ e. record { before = xs; later = []; split = append-nil xs; left = done };
  broken = λ e. absurd (unbroken e);
}

pub makes_nothing : {U : Type 0} (answer : Result U WriteError) (old : StoreView) → (IsErrOf answer write_error.Failed → ⊥) → (IsErrOf answer write_error.Broken → ⊥)
    → Makes [] old old answer
makes_nothing answer old unfailed unbroken = makes_done answer [] old old (nothing old.files) unfailed unbroken

pub err_part : {T P : Type 0} (r : Result T WriteError) (e : WriteError) → OnErr r P → IsErrOf r e → P
err_part (Ok x) e h is = cc
err_part (Err f) e h is = h
