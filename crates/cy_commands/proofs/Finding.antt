-- What a call answers that judges files, one step after another.
use Rattle.std.proofs.Common.{ℕ, ◌≡◌, List, Option, Some, None, IfSome, Result, Ok, Err, sym, ap, subst, ◌∙◌, inl, inr}
use Rattle.std.specs.Prelude.{◌⊎◌, IfOk, IsSomeAnd}
use Rattle.std.specs.FinMap.{get}
use Rattle.cy_store.specs.Files.{Files, Holds}
use Rattle.cy_store.specs.Reads.{Reads, Refuses, Absent}
use Rattle.cy_store.specs.Store.{StoreView, SameCounts, Rose}
use Rattle.cy_setup.specs.declared.error.Refusal.{Refusal}
use Rattle.cy_setup.specs.declared.error.SetupError.{SetupError}
use Rattle.cy_setup.specs.declared.error.SetupError.TheVariants.{Refused, Store, Memory}
use Rattle.cy_setup.specs.Comes.{ComesTo}
use Rattle.cy_commands.specs.Work.{Work}
use Rattle.cy_commands.specs.private.VerifyEnds.{Finds}

-- both counts and all files stand
pub record Stands (old mid : StoreView) : Type 0 where
  pub same : mid.files ≡ old.files
  pub counts : SameCounts old mid

rose_since : (old mid new : StoreView) → SameCounts old mid → Rose mid.faults new.faults → Rose old.faults new.faults
rose_since old mid new counts rose = subst (λ (n : ℕ). Rose n new.faults) counts.faults rose

missed_since : (old mid new : StoreView) → SameCounts old mid → Rose mid.misses new.misses → Rose old.misses new.misses
missed_since old mid new counts rose = subst (λ (n : ℕ). Rose n new.misses) counts.misses rose

same_since : (old mid new : StoreView) → SameCounts old mid → SameCounts mid new → SameCounts old new
same_since old mid new first second = record { faults = second.faults ∙ first.faults; misses = second.misses ∙ first.misses }

module _ {X : Type 0} (IsFound : X → Type 0) (comes : Reads Refusal Work → Type 0) (IsAsked : List ℕ → Type 0) (old new : StoreView) where
  pub finds_ok : (x : X) → Stands old new → IsFound x → Finds IsFound comes IsAsked old new (Ok x)
  finds_ok x s is = record {
    found = (s.counts, is);
    refused = λ refusal e. absurd cc;
    failed = λ file e. absurd cc;
    same = s.same;
  }

  pub finds_memory : new.files ≡ old.files → (let r : Result X SetupError = Err Memory in Finds IsFound comes IsAsked old new r)
  finds_memory same = record {
    found = tt;
    refused = λ refusal e. absurd cc;
    failed = λ file e. absurd cc;
    same = same;
  }

  finds_refused : (refusal : Refusal) → Stands old new → comes (Refuses refusal) → (let r : Result X SetupError = Err (Refused refusal) in Finds IsFound comes IsAsked old new r)
  finds_refused refusal s is = record {
    found = tt;
    refused = λ other e. let same : refusal ≡ other = cc in (s.counts, subst (λ (r : Refusal). comes (Refuses r)) same is);
    failed = λ file e. absurd cc;
    same = s.same;
  }

  finds_lost : (file : List ℕ) → new.files ≡ old.files → IsAsked file → Rose old.faults new.faults ⊎ (Rose old.misses new.misses × comes (Absent file))
      → (let r : Result X SetupError = Err (Store file) in Finds IsFound comes IsAsked old new r)
  finds_lost file same asked rose = record {
    found = tt;
    refused = λ refusal e. absurd cc;
    failed = λ other e. let is : file ≡ other = cc in
        subst (λ (f : List ℕ). IsAsked f × (Rose old.faults new.faults ⊎ (Rose old.misses new.misses × comes (Absent f)))) is (asked, rose);
    same = same;
  }

  -- a fault, or want of memory
  pub finds_fault : (answer : SetupError) (refusal : Refusal) → Stands old new → (answer ≡ Memory) ⊎ (answer ≡ Refused refusal) → comes (Refuses refusal)
      → (let r : Result X SetupError = Err answer in Finds IsFound comes IsAsked old new r)
  finds_fault answer refusal s (inl none) is = subst (λ a. let r : Result X SetupError = Err a in Finds IsFound comes IsAsked old new r) (sym none) (finds_memory s.same)
  finds_fault answer refusal s (inr told) is = subst (λ a. let r : Result X SetupError = Err a in Finds IsFound comes IsAsked old new r) (sym told) (finds_refused refusal s is)

  -- the store failed, or want of memory
  pub finds_failure : (answer : SetupError) (file : List ℕ) → new.files ≡ old.files → (answer ≡ Memory) ⊎ (answer ≡ Store file) → IsAsked file
      → Rose old.faults new.faults ⊎ (Rose old.misses new.misses × comes (Absent file))
      → (let r : Result X SetupError = Err answer in Finds IsFound comes IsAsked old new r)
  finds_failure answer file same (inl none) asked rose = subst (λ a. let r : Result X SetupError = Err a in Finds IsFound comes IsAsked old new r) (sym none) (finds_memory same)
  finds_failure answer file same (inr told) asked rose = subst (λ a. let r : Result X SetupError = Err a in Finds IsFound comes IsAsked old new r) (sym told) (finds_lost file same asked rose)

-- what is in the way of the first step is in the way of all
pub finds_err : {X Y : Type 0} {F : X → Type 0} {comes : Reads Refusal Work → Type 0} {P : List ℕ → Type 0} (G : Y → Type 0) (others : Reads Refusal Work → Type 0) (Q : List ℕ → Type 0) (old new : StoreView) (e : SetupError)
    → ((r : Reads Refusal Work) → comes r → others r) → ((file : List ℕ) → P file → Q file) → (let r : Result X SetupError = Err e in Finds F comes P old new r)
    → (let r : Result Y SetupError = Err e in Finds G others Q old new r)
finds_err {X} {Y} G others Q old new e more asked f = record {
  found = tt;
  refused = λ refusal is. let was = f.refused refusal (same_err is) in (was.0, more (Refuses refusal) was.1);
  failed = λ file is. let was = f.failed file (same_err is) in (asked file was.0, elim was.1 [ inl rose ↦ inl rose | inr missed ↦ inr (missed.0, more (Absent file) missed.1) ]);
  same = f.same;
}
  where
    same_err : {a : SetupError} → (let r : Result Y SetupError = Err e in r ≡ Err a) → (let r : Result X SetupError = Err e in r ≡ Err a)
    same_err h = let is : e ≡ _ = cc in ap Err is

-- and behind a step in which the store stood, the next one
pub finds_then : {X : Type 0} {F : X → Type 0} {comes : Reads Refusal Work → Type 0} {P : List ℕ → Type 0} (G : X → Type 0) (others : Reads Refusal Work → Type 0) (Q : List ℕ → Type 0) (old mid new : StoreView) (result : Result X SetupError)
    → Stands old mid → ((x : X) → F x → G x) → ((r : Reads Refusal Work) → comes r → others r) → ((file : List ℕ) → P file → Q file) → Finds F comes P mid new result → Finds G others Q old new result
finds_then {X} {F} G others Q old mid new result s fits more asked f = record {
  found = was_ok result f.found;
  refused = λ refusal is. let was = f.refused refusal is in (same_since old mid new s.counts was.0, more (Refuses refusal) was.1);
  failed = λ file is. let was = f.failed file is in (asked file was.0, elim was.1 [ inl rose ↦ inl (rose_since old mid new s.counts rose) | inr missed ↦ inr (missed_since old mid new s.counts missed.0, more (Absent file) missed.1) ]);
  same = f.same ∙ s.same;
}
  where
    was_ok : (r : Result X SetupError) → IfOk r (λ x. SameCounts mid new × F x) → IfOk r (λ x. SameCounts old new × G x)
    was_ok (Ok x) h = (same_since old mid new s.counts h.0, fits x h.1)
    was_ok (Err e) h = tt

-- what is read in one function of files, with what follows it
pub finds_read : {X Y A : Type 0} {view : X → A} {reads : Files → Reads Refusal A} {P : List ℕ → Type 0} (G : Y → Type 0) (others : Reads Refusal Work → Type 0) (Q : List ℕ → Type 0) (old new : StoreView) (e : SetupError)
    → ((refusal : Refusal) → IfSome old.files (λ m. reads m ≡ Refuses refusal) → others (Refuses refusal)) → ((name : List ℕ) → IfSome old.files (λ m. reads m ≡ Absent name) → others (Absent name)) → ((file : List ℕ) → P file → Q file)
    → (let r : Result X SetupError = Err e in ComesTo view reads P old new r) → (let r : Result Y SetupError = Err e in Finds G others Q old new r)
finds_read {X} {Y} G others Q old new e refuses lacks asked f = record {
  found = tt;
  refused = λ refusal is. let was = f.refused refusal (same_err is) in (was.0, refuses refusal was.1);
  failed = λ file is. let was = f.failed file (same_err is) in (asked file was.0, elim was.1.rose [ inl rose ↦ inl rose | inr missed ↦ inr (missed.0, lacks file missed.1) ]);
  same = f.same;
}
  where
    same_err : {a : SetupError} → (let r : Result Y SetupError = Err e in r ≡ Err a) → (let r : Result X SetupError = Err e in r ≡ Err a)
    same_err h = let is : e ≡ _ = cc in ap Err is

-- ---- one file

-- what holds of a file's bytes
pub held_map : {P Q : List ℕ → Type 0} (files : Option Files) (name : List ℕ) → ((bytes : List ℕ) → P bytes → Q bytes) → Holds files name P → Holds files name Q
held_map None name h p = tt
held_map {P} {Q} (Some m) name h p = by (get m name) p
  where
    by : (found : Option (List ℕ)) → IsSomeAnd found P → IsSomeAnd found Q
    by None p = p
    by (Some bytes) p = h bytes p
