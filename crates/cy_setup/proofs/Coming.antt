-- One reading after another.
use Rattle.std.proofs.Common.{ℕ, ◌≡◌, ◌≤◌, List, Option, Some, None, IfSome, Result, Ok, Err, refl, sym, ap, subst, ◌∙◌, inl, inr, arith}
use Rattle.std.specs.Prelude.{IfOk}
use Rattle.cy_store.specs.Files.{Files}
use Rattle.cy_store.specs.Reads.{Reads, Accepts, Refuses, ◌>>=◌}
use Rattle.cy_store.specs.Store.{StoreView, SameCounts, Rose}
use Rattle.cy_setup.specs.declared.error.Fault.{Fault}
use Rattle.cy_setup.specs.declared.error.Refusal.{Refusal}
use Rattle.cy_setup.specs.declared.error.SetupError.{SetupError}
use Rattle.cy_setup.specs.declared.error.SetupError.TheVariants.{Refused, Memory}
use Rattle.cy_setup.specs.Steps.{IsFault}
use Rattle.cy_setup.specs.Comes.{ComesTo}

pub told_map : {P Q : Files → Type 0} (files : Option Files) → ((m : Files) → P m → Q m) → IfSome files P → IfSome files Q
told_map None h p = tt
told_map (Some m) h p = h m p

-- a reading, and what follows it
abbrev pub then : {A B : Type 0} → (Files → Reads Refusal A) → (A → Files → Reads Refusal B) → Files → Reads Refusal B
then reads next m = reads m >>= λ x. next x m

-- what is in the way of the first reading is in the way of both
pub comes_err : {X A Y B : Type 0} {v : X → A} (w : Y → B) (reads : Files → Reads Refusal A) (next : A → Files → Reads Refusal B) {P : List ℕ → Type 0} (Q : List ℕ → Type 0) (old new : StoreView) (e : SetupError)
    → ((file : List ℕ) → P file → Q file) → (let r : Result X SetupError = Err e in ComesTo v reads P old new r) → (let r : Result Y SetupError = Err e in ComesTo w (then reads next) Q old new r)
comes_err w reads next Q old new e more c = record {
  accepted = tt;
  refused = λ refusal is. let was = c.refused refusal (ap Err (err_is is)) in (was.0, told_map old.files (λ m is. ap (λ r. r >>= λ x. next x m) is) was.1);
  failed = λ file is. let was = c.failed file (ap Err (err_is is)) in (more file was.0, record { rose = elim was.1.rose [ inl rose ↦ inl rose | inr missed ↦ inr (missed.0, told_map old.files (λ m is. ap (λ r. r >>= λ x. next x m) is) missed.1) ] });
  same = c.same;
  faults_stay = c.faults_stay;
  misses_stay = c.misses_stay;
}
  where
    err_is : {T : Type 0} {a b : SetupError} → (let r : Result T SetupError = Err a in r ≡ Err b) → a ≡ b
    err_is e = cc

-- both counts and all files stand
pub record Stands (old mid : StoreView) : Type 0 where
  pub same : mid.files ≡ old.files
  pub counts : SameCounts old mid

-- the same files come to the same, and so do they before what was read
pub comes_same : {Y B : Type 0} (w : Y → B) (reads others : Files → Reads Refusal B) (P Q : List ℕ → Type 0) (old mid new : StoreView) (result : Result Y SetupError)
    → Stands old mid → IfSome old.files (λ m. reads m ≡ others m) → ((file : List ℕ) → P file → Q file) → ComesTo w others P mid new result → ComesTo w reads Q old new result
comes_same {Y} {B} w reads others P Q old mid new result s is more c = record {
  accepted = was_ok result c.accepted;
  refused = λ refusal e. let was = c.refused refusal e in (counts was.0, first _ was.1);
  failed = λ file e. let was = c.failed file e in (more file was.0, record { rose = elim was.1.rose [ inl rose ↦ inl (subst (λ n. Rose n new.faults) s.counts.faults rose) | inr missed ↦ inr (subst (λ n. Rose n new.misses) s.counts.misses missed.0, first _ missed.1) ] });
  same = c.same ∙ s.same;
  faults_stay = subst (λ n. n ≤ new.faults) s.counts.faults c.faults_stay;
  misses_stay = subst (λ n. n ≤ new.misses) s.counts.misses c.misses_stay;
}
  where
    counts : SameCounts mid new → SameCounts old new
    counts k = record { faults = k.faults ∙ s.counts.faults; misses = k.misses ∙ s.counts.misses }

    both : (r : Reads Refusal B) (files : Option Files) → IfSome files (λ m. reads m ≡ others m) → IfSome files (λ m. others m ≡ r) → IfSome files (λ m. reads m ≡ r)
    both r None a b = tt
    both r (Some m) a b = a ∙ b

    first : (r : Reads Refusal B) → IfSome mid.files (λ m. others m ≡ r) → IfSome old.files (λ m. reads m ≡ r)
    first r b = both r old.files is (subst (λ files. IfSome files (λ m. others m ≡ r)) s.same b)

    was_ok : (result : Result Y SetupError) → IfOk result (λ y. SameCounts mid new × IfSome mid.files (λ m. others m ≡ Accepts (w y)))
        → IfOk result (λ y. SameCounts old new × IfSome old.files (λ m. reads m ≡ Accepts (w y)))
    was_ok (Ok y) a = (counts a.0, first _ a.1)
    was_ok (Err e) a = tt

-- what follows a reading that was accepted is what both come to
pub comes_then : {Y A B : Type 0} (w : Y → B) (reads : Files → Reads Refusal A) (next : A → Files → Reads Refusal B) (P Q : List ℕ → Type 0) (old mid new : StoreView) (x : A) (result : Result Y SetupError)
    → Stands old mid → IfSome old.files (λ m. reads m ≡ Accepts x) → ((file : List ℕ) → P file → Q file) → ComesTo w (next x) P mid new result → ComesTo w (then reads next) Q old new result
comes_then w reads next P Q old mid new x result s is more c = comes_same w (then reads next) (next x) P Q old mid new result s (told_map old.files (λ m was. ap (λ q. q >>= λ x. next x m) was) is) more c

-- want of memory
pub comes_memory : {Y B : Type 0} (w : Y → B) (reads : Files → Reads Refusal B) (P : List ℕ → Type 0) (old new : StoreView) → Stands old new → (let r : Result Y SetupError = Err Memory in ComesTo w reads P old new r)
comes_memory w reads P old new s = record {
  accepted = tt;
  refused = λ refusal e. absurd cc;
  failed = λ file e. absurd cc;
  same = s.same;
  faults_stay = omega (arith, s.counts.faults);
  misses_stay = omega (arith, s.counts.misses);
}

-- a value with no further file
pub comes_ok : {Y B : Type 0} (w : Y → B) (reads : Files → Reads Refusal B) (P : List ℕ → Type 0) (old new : StoreView) (y : Y) → Stands old new → IfSome old.files (λ m. reads m ≡ Accepts (w y)) → ComesTo w reads P old new (Ok y)
comes_ok w reads P old new y s is = record {
  accepted = (s.counts, is);
  refused = λ refusal e. absurd cc;
  failed = λ file e. absurd cc;
  same = s.same;
  faults_stay = omega (arith, s.counts.faults);
  misses_stay = omega (arith, s.counts.misses);
}

-- a refusal with no further file
pub comes_refused : {Y B : Type 0} (w : Y → B) (reads : Files → Reads Refusal B) (P : List ℕ → Type 0) (old new : StoreView) (refusal : Refusal) → Stands old new → IfSome old.files (λ m. reads m ≡ Refuses refusal)
    → (let r : Result Y SetupError = Err (Refused refusal) in ComesTo w reads P old new r)
comes_refused w reads P old new refusal s is = record {
  accepted = tt;
  refused = λ other e. let same : refusal ≡ other = cc in (s.counts, told_map old.files (λ m was. was ∙ ap Refuses same) is);
  failed = λ file e. absurd cc;
  same = s.same;
  faults_stay = omega (arith, s.counts.faults);
  misses_stay = omega (arith, s.counts.misses);
}

-- a fault with no further file, or want of memory
pub comes_fault : {Y B : Type 0} (w : Y → B) (reads : Files → Reads Refusal B) (P : List ℕ → Type 0) (old new : StoreView) (name : List ℕ) (fault : Option Fault) (answer : SetupError) → Stands old new
    → IsFault name fault answer → ((f : Fault) → fault ≡ Some f → IfSome old.files (λ m. reads m ≡ Refuses record { file = name; fault = f })) → (let r : Result Y SetupError = Err answer in ComesTo w reads P old new r)
comes_fault {Y} w reads P old new name None answer s is told = subst (λ a. let r : Result Y SetupError = Err a in ComesTo w reads P old new r) (sym is) (comes_memory w reads P old new s)
comes_fault {Y} w reads P old new name (Some f) answer s (inl none) told = subst (λ a. let r : Result Y SetupError = Err a in ComesTo w reads P old new r) (sym none) (comes_memory w reads P old new s)
comes_fault {Y} w reads P old new name (Some f) answer s (inr is) told = subst (λ a. let r : Result Y SetupError = Err a in ComesTo w reads P old new r) (sym is) (comes_refused w reads P old new _ s (told f refl))

-- more names may be asked for
pub comes_more : {Y B : Type 0} (w : Y → B) (reads : Files → Reads Refusal B) (P Q : List ℕ → Type 0) (old new : StoreView) (result : Result Y SetupError) → ((file : List ℕ) → P file → Q file) → ComesTo w reads P old new result → ComesTo w reads Q old new result
comes_more w reads P Q old new result more c = record {
  accepted = c.accepted;
  refused = c.refused;
  failed = λ file e. (more file (c.failed file e).0, (c.failed file e).1);
  same = c.same;
  faults_stay = c.faults_stay;
  misses_stay = c.misses_stay;
}
