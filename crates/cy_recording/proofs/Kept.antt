-- What a store has become over several calls.
use Rattle.std.proofs.Common.{◌≡◌, ℕ, ◌≤◌, List, Option, Result, Ok, IsErrOf, ◌∙◌, subst, inl, inr, arith}
use Rattle.cy_store.specs.Files.{Files, Lacks}
use Rattle.cy_store.specs.Store.{StoreView, Rose, StoreRose, SameCounts, HasCause, HasCauses}
use Rattle.cy_store.specs.declared.error.StoreError.{StoreError}
use Rattle.cy_store.specs.declared.error.StoreError.TheVariants as store_error

-- the cause of an answer that is passed on
pub cause_passed : {T U : Type 0} (r : Result T StoreError) (s : Result U StoreError) (old new : StoreView) (name : List ℕ)
    → (IsErrOf s store_error.Failed → IsErrOf r store_error.Failed) → (IsErrOf r store_error.Failed → IsErrOf s store_error.Failed)
    → HasCause old new name r → HasCause old new name s
cause_passed r s old new name into from cause = record {
  faults_stay = cause.faults_stay;
  misses_stay = cause.misses_stay;
  failed = λ e. cause.failed (into e);
  missed = cause.missed;
  quiet = λ calm. cause.quiet (λ e. calm (from e));
}

pub cause_ok : {T U : Type 0} (x : T) (y : U) (old new : StoreView) (name : List ℕ) → HasCause old new name (Ok x) → HasCause old new name (Ok y)
cause_ok {T = T} {U = U} x y old new name cause = cause_passed {T = T} {U = U} (Ok x) (Ok y) old new name (λ e. cc) (λ e. cc) cause

-- a count that rose later, or earlier
pub rose_later : (old mid new : ℕ) → old ≤ mid → Rose mid new → Rose old new
rose_later old mid new stays rose = omega (arith, stays, rose)

pub rose_earlier : (old mid new : ℕ) → mid ≤ new → Rose old mid → Rose old new
rose_earlier old mid new stays rose = omega (arith, stays, rose)

pub store_rose_later : (old mid new : StoreView) (name : List ℕ) → mid.files ≡ old.files → old.faults ≤ mid.faults → old.misses ≤ mid.misses
    → StoreRose mid new name → StoreRose old new name
store_rose_later old mid new name files faults misses (inl rose) = inl (rose_later old.faults mid.faults new.faults faults rose)
store_rose_later old mid new name files faults misses (inr (rose, gone)) =
    inr (rose_later old.misses mid.misses new.misses misses rose, subst (λ (fs : Option Files). Lacks fs name) files gone)

pub store_rose_earlier : (old mid new : StoreView) (name : List ℕ) → mid.faults ≤ new.faults → mid.misses ≤ new.misses
    → StoreRose old mid name → StoreRose old new name
store_rose_earlier old mid new name faults misses (inl rose) = inl (rose_earlier old.faults mid.faults new.faults faults rose)
store_rose_earlier old mid new name faults misses (inr (rose, gone)) = inr (rose_earlier old.misses mid.misses new.misses misses rose, gone)

pub counts_on : (old mid new : StoreView) → SameCounts old mid → SameCounts mid new → SameCounts old new
counts_on old mid new first second = record { faults = second.faults ∙ first.faults; misses = second.misses ∙ first.misses }

-- calls that left the counts, and then one more
pub causes_on : {F G : Type 0} (old mid new : StoreView) (name : List ℕ) → mid.files ≡ old.files → SameCounts old mid → (F → G) → (G → F)
    → HasCauses G mid new name → HasCauses F old new name
causes_on old mid new name files same into from cause = record {
  faults_stay = omega (arith, same.faults, cause.faults_stay);
  misses_stay = omega (arith, same.misses, cause.misses_stay);
  failed = λ e. store_rose_later old mid new name files (omega (arith, same.faults)) (omega (arith, same.misses)) (cause.failed (into e));
  quiet = λ calm. counts_on old mid new same (cause.quiet (λ e. calm (from e)));
}

pub cause_causes : {T F : Type 0} (r : Result T StoreError) (old new : StoreView) (name : List ℕ) → (F → IsErrOf r store_error.Failed) → (IsErrOf r store_error.Failed → F)
    → HasCause old new name r → HasCauses F old new name
cause_causes r old new name into from cause = record {
  faults_stay = cause.faults_stay;
  misses_stay = cause.misses_stay;
  failed = λ e. cause.failed (into e);
  quiet = λ calm. cause.quiet (λ e. calm (from e));
}

pub causes_none : {F : Type 0} (old new : StoreView) (name : List ℕ) → SameCounts old new → (F → ⊥) → HasCauses F old new name
causes_none old new name same calm = record {
  faults_stay = omega (arith, same.faults);
  misses_stay = omega (arith, same.misses);
  failed = λ e. absurd (calm e);
  quiet = λ c. same;
}
