-- A text that is put into a file piece by piece.
use Rattle.std.proofs.Common.{◌≡◌, ℕ, ◌+◌, ◌≤◌, List, [], ◌∷◌, ◌++◌, length, Option, Some, None, Result, Ok, Err, IsErrOf, refl, sym, ap, ◌∙◌, subst, arith, length-append, append-nil, append_assoc, flat_map}
use Rattle.std.specs.Prelude.{IfSome, IsSomeAnd, OnOk}
use Rattle.std.specs.Option.{option_map}
use Rattle.std.specs.FinMap.{get}
use Rattle.std.proofs.lemmas.Grind.{flat_map-append}
use Rattle.cy_store.specs.Files.{Files, Holds}
use Rattle.cy_store.specs.Write.{Write, Create, Put, after_write, after_writes, LeavesIn}
use Rattle.cy_store.specs.Store.{StoreView, SameCounts, HasCause, HasFault}
use Rattle.cy_store.specs.declared.error.StoreError.{StoreError}
use Rattle.cy_store.specs.declared.error.StoreError.TheVariants as store_error
use Rattle.cy_writer.specs.declared.error.WriteError.{WriteError}
use Rattle.cy_writer.specs.declared.error.WriteError.TheVariants as write_error
use Rattle.cy_writer.specs.Writes.{placed, file_after, puts_into, Makes}
use Rattle.cy_writer.specs.RecordWrites.{file_writes}
use Rattle.cy_writer.proofs.Puts.{as_writes, causes_made, causes_put, causes_then, causes_none, holds-after, makes_done, makes_first, makes_none, makes_put, makes_then, makes_uncreated, map-after_writes, untold_map}
use Rattle.cy_writer.proofs.RecordBytes.{after_placed}
use Rattle.cy_writer.proofs.Closing.{placed-append}
use Rattle.cy_commands.specs.private.PlayWrites.{PutsPieces, WritesPieces}

-- the bytes of pieces
abbrev pub whole : List (List ℕ) → List ℕ
whole pieces = flat_map (λ (piece : List ℕ). piece) pieces

-- pieces that were put so far, and the text that is still to be put
pub record IsPutSoFar (name text left : List ℕ) (at : ℕ) (old now : StoreView) : Type 0 where
  pub done : List (List ℕ)
  pub cut : whole done ++ left ≡ text
  pub place : at ≡ length (whole done)
  pub files : now.files ≡ option_map (after_writes (puts_into name (placed 0 done))) old.files
  pub counts : SameCounts old now

same_files : (files : Option Files) → files ≡ option_map (after_writes []) files
same_files None = refl
same_files (Some m) = refl

pub begun : (name text : List ℕ) (old : StoreView) → IsPutSoFar name text text 0 old old
begun name text old = record {
  done = [];
  cut = refl;
  place = refl;
  files = same_files old.files;
  counts = record { faults = refl; misses = refl };
}

-- what the file has so far
held : (name text left : List ℕ) (at : ℕ) (old now : StoreView) → Holds old.files name (λ bytes. bytes ≡ []) → (s : IsPutSoFar name text left at old now)
    → Holds now.files name (λ bytes. bytes ≡ whole s.done)
held name text left at old now empty s =
    holds-after name (placed 0 s.done) (λ bytes. bytes ≡ []) (λ bytes. bytes ≡ whole s.done) old.files now.files
    (λ bytes e. ap (λ (b : List ℕ). file_after b (placed 0 s.done)) e ∙ after_placed s.done [] 0 refl) s.files empty

may_put : (files : Option Files) (name : List ℕ) (at : ℕ) (P : List ℕ → Type 0) → ((bytes : List ℕ) → P bytes → at ≤ length bytes) → Holds files name P
    → IfSome files (λ m. IfSome (get m name) (λ before. at ≤ length before))
may_put None name at P long h = tt
may_put (Some m) name at P long h = by (get m name) h
  where
    by : (o : Option (List ℕ)) → IsSomeAnd o P → IfSome o (λ before. at ≤ length before)
    by None h = absurd h
    by (Some bytes) h = long bytes h

-- so the next piece can be put
pub has_place : (name text left : List ℕ) (at : ℕ) (old now : StoreView) → Holds old.files name (λ bytes. bytes ≡ []) → IsPutSoFar name text left at old now
    → IfSome now.files (λ m. IfSome (get m name) (λ before. at ≤ length before))
has_place name text left at old now empty s =
    may_put now.files name at (λ bytes. bytes ≡ whole s.done) (λ bytes e. omega (arith, s.place, ap (λ (b : List ℕ). length b) e)) (held name text left at old now empty s)

-- the text that is left begins with that of the parts that are taken from it
pub cut_after : {X : Type 0} (part : X → List ℕ) (rest some others : List X) (cleared made piece : List ℕ) → rest ≡ some ++ others → cleared ≡ [] → made ≡ cleared ++ flat_map part some → piece ≡ made
    → flat_map part rest ≡ piece ++ flat_map part others
cut_after part rest some others cleared made piece parts none text same =
    ap (flat_map part) parts
    ∙ flat_map-append part some others
    ∙ ap (λ (l : List ℕ). l ++ flat_map part others) (sym (same ∙ text ∙ ap (λ (l : List ℕ). l ++ flat_map part some) none))

pub no_more : {X : Type 0} (rest : List X) → length rest ≡ 0 → rest ≡ []
no_more [] e = refl
no_more (x ∷ rest) e = absurd (omega (arith, e))

-- puts of more pieces

map_append : (name : List ℕ) (xs ys : List (ℕ × List ℕ)) → puts_into name (xs ++ ys) ≡ puts_into name xs ++ puts_into name ys
map_append name [] ys = refl
map_append name (x ∷ xs) ys = ap (λ (ws : List Write). Put name x.0 x.1 ∷ ws) (map_append name xs ys)

puts_more : (name : List ℕ) (done more : List (List ℕ)) (at : ℕ) → at ≡ length (whole done)
    → puts_into name (placed 0 (done ++ more)) ≡ puts_into name (placed 0 done) ++ puts_into name (placed at more)
puts_more name done more at place =
    ap (puts_into name) (placed-append 0 done more ∙ ap (λ (n : ℕ). placed 0 done ++ placed n more) (omega (arith, place)))
    ∙ map_append name (placed 0 done) (placed at more)

one_more : (done : List (List ℕ)) (piece : List ℕ) → whole (done ++ piece ∷ []) ≡ whole done ++ piece
one_more done piece = flat_map-append (λ (p : List ℕ). p) done (piece ∷ []) ∙ ap (λ (l : List ℕ). whole done ++ l) (append-nil piece)

two_more : (done : List (List ℕ)) (piece last : List ℕ) → whole (done ++ piece ∷ last ∷ []) ≡ whole done ++ (piece ++ last)
two_more done piece last = flat_map-append (λ (p : List ℕ). p) done (piece ∷ last ∷ []) ∙ ap (λ (l : List ℕ). whole done ++ (piece ++ l)) (append-nil last)

pub put : (name text left piece later : List ℕ) (at end : ℕ) (old now new : StoreView) → IsPutSoFar name text left at old now → left ≡ piece ++ later → end ≡ at + length piece
    → new.files ≡ option_map (after_write (Put name at piece)) now.files → SameCounts now new → IsPutSoFar name text later end old new
put name text left piece later at end old now new s split sum written same = record {
  done = s.done ++ piece ∷ [];
  cut = ap (λ (l : List ℕ). l ++ later) (one_more s.done piece) ∙ append_assoc (whole s.done) piece later ∙ ap (λ (l : List ℕ). whole s.done ++ l) (sym split) ∙ s.cut;
  place = sum ∙ omega (arith, s.place, length-append (whole s.done) piece) ∙ ap (λ (l : List ℕ). length l) (sym (one_more s.done piece));
  files = as_writes (Put name at piece) now.files new.files written
      ∙ ap (option_map (after_writes (Put name at piece ∷ []))) s.files
      ∙ map-after_writes (puts_into name (placed 0 s.done)) (Put name at piece ∷ []) old.files
      ∙ ap (λ (ws : List Write). option_map (after_writes ws) old.files) (sym (puts_more name s.done (piece ∷ []) at s.place));
  counts = record { faults = same.faults ∙ s.counts.faults; misses = same.misses ∙ s.counts.misses };
}

-- ends

-- all was put
pub ended : (name text left : List ℕ) (at : ℕ) (old now : StoreView) → IsPutSoFar name text left at old now → left ≡ [] → PutsPieces {T = Unit {0}} name text old now (Ok tt)
ended name text left at old now s none = record {
  pieces = s.done;
  cut = sym (append-nil (whole s.done)) ∙ ap (λ (l : List ℕ). whole s.done ++ l) (sym none) ∙ s.cut;
  makes = makes_done {U = Unit {0}} (Ok tt) (puts_into name (placed 0 s.done)) old now s.files (λ e. cc) (λ e. cc);
  unbroken = λ e. cc;
  causes = causes_then {F = IsErrOf {T = Unit {0}} (Ok tt) write_error.Failed} old now now s.counts (untold_map (after_writes (puts_into name (placed 0 s.done))) old.files now.files s.files) (causes_none now (λ e. cc));
}

none : (answer : Result (Unit {0}) WriteError) (P : Type 0) → OnOk answer ⊥ → OnOk answer P
none (Ok x) P h = absurd h
none (Err e) P h = tt

-- memory ran out between two pieces
pub starved : (name text left : List ℕ) (at : ℕ) (old now : StoreView) (answer : Result (Unit {0}) WriteError) → IsPutSoFar name text left at old now
    → OnOk answer ⊥ → (IsErrOf answer write_error.Failed → ⊥) → (IsErrOf answer write_error.Broken → ⊥) → PutsPieces name text old now answer
starved name text left at old now answer s err unfailed unbroken =
    let before = puts_into name (placed 0 s.done) in
    record {
      pieces = s.done ++ left ∷ [];
      cut = one_more s.done left ∙ s.cut;
      makes = record {
        done = none answer (now.files ≡ option_map (after_writes (puts_into name (placed 0 (s.done ++ left ∷ [])))) old.files) err;
        failed = λ e. absurd (unfailed e);
        starved = λ e. record {
          before = before;
          later = puts_into name (placed at (left ∷ []));
          split = sym (puts_more name s.done (left ∷ []) at s.place);
          left = s.files;
        };
        broken = λ e. absurd (unbroken e);
      };
      unbroken = unbroken;
      causes = causes_then old now now s.counts (untold_map (after_writes before) old.files now.files s.files) (causes_none now unfailed);
    }

-- a piece was not put
pub stopped : (name text left piece later : List ℕ) (at : ℕ) (old now new : StoreView) (r : Result (Unit {0}) StoreError) (answer : Result (Unit {0}) WriteError)
    → Holds old.files name (λ bytes. bytes ≡ []) → IsPutSoFar name text left at old now → left ≡ piece ++ later
    → (IsErrOf r store_error.Failed → LeavesIn (Put name at piece) now.files new.files) → (IsErrOf r store_error.Memory → new.files ≡ now.files) → HasCause now new name r
    → OnOk answer ⊥ → (IsErrOf answer write_error.Failed → IsErrOf r store_error.Failed) → (IsErrOf r store_error.Failed → IsErrOf answer write_error.Failed)
    → (IsErrOf answer write_error.Memory → IsErrOf r store_error.Memory) → (IsErrOf answer write_error.Broken → ⊥)
    → PutsPieces name text old new answer
stopped name text left piece later at old now new r answer empty s split torn kept cause err failed fails memory unbroken =
    let w = Put name at piece in
    let before = puts_into name (placed 0 s.done) in
    let more = puts_into name (placed (at + length piece) (later ∷ [])) in
    let one : Makes (w ∷ []) now new answer = makes_put {r = r} answer w now new (none answer (new.files ≡ option_map (after_write w) now.files) err) torn kept failed memory unbroken in
    let so_far : Makes (before ++ w ∷ []) old new answer = makes_then answer before (w ∷ []) old now new s.files one unbroken in
    let all : Makes ((before ++ w ∷ []) ++ more) old new answer = makes_first answer answer (before ++ w ∷ []) more old new so_far err (λ f h. h) in
    record {
      pieces = s.done ++ piece ∷ later ∷ [];
      cut = two_more s.done piece later ∙ ap (λ (l : List ℕ). whole s.done ++ l) (sym split) ∙ s.cut;
      makes = subst (λ (ws : List Write). Makes ws old new answer) (append_assoc before (w ∷ []) more ∙ sym (puts_more name s.done (piece ∷ later ∷ []) at s.place)) all;
      unbroken = unbroken;
      causes = causes_then old now new s.counts (untold_map (after_writes before) old.files now.files s.files)
          (causes_put r name (λ bytes. bytes ≡ whole s.done) now new (held name text left at old now empty s) cause failed fails);
    }

-- A file that is made first.

-- there was no memory for the parts
pub unmade : (name text : List ℕ) (old : StoreView) (answer : Result (Unit {0}) WriteError) → OnOk answer ⊥ → (IsErrOf answer write_error.Failed → ⊥) → (IsErrOf answer write_error.Broken → ⊥)
    → WritesPieces name text old old answer
unmade name text old answer err unfailed unbroken = record {
  pieces = text ∷ [];
  cut = append-nil text;
  makes = makes_none answer (file_writes name ((0, text) ∷ [])) old err unfailed;
  unbroken = unbroken;
  causes = causes_none old unfailed;
}

pub uncreated : (name text : List ℕ) (old new : StoreView) (r : Result (Unit {0}) StoreError) (answer : Result (Unit {0}) WriteError) → new.files ≡ old.files → HasFault old new r
    → OnOk answer ⊥ → (IsErrOf answer write_error.Failed → IsErrOf r store_error.Failed) → (IsErrOf r store_error.Failed → IsErrOf answer write_error.Failed) → (IsErrOf answer write_error.Broken → ⊥)
    → WritesPieces name text old new answer
uncreated name text old new r answer kept cause err failed fails unbroken = record {
  pieces = text ∷ [];
  cut = append-nil text;
  makes = makes_uncreated answer name (puts_into name ((0, text) ∷ [])) old new kept err unbroken;
  unbroken = unbroken;
  causes = causes_made r old new cause failed fails;
}

-- it was made, and then its pieces were put or not
pub created_first : (name text is : List ℕ) (old mid new : StoreView) (r : Result (Unit {0}) WriteError) → text ≡ is → mid.files ≡ option_map (after_write (Create name)) old.files → SameCounts old mid
    → PutsPieces name text mid new r → WritesPieces name is old new r
created_first name text is old mid new r same made counts p = record {
  pieces = p.pieces;
  cut = p.cut ∙ same;
  makes = makes_then r (Create name ∷ []) (puts_into name (placed 0 p.pieces)) old mid new (as_writes (Create name) old.files mid.files made) p.makes p.unbroken;
  unbroken = p.unbroken;
  causes = causes_then old mid new counts (untold_map (after_write (Create name)) old.files mid.files made) p.causes;
}
