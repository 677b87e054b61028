-- What a store has become while a record was compared.
use Rattle.std.proofs.Common.{◌≡◌, ℕ, ◌+◌, ◌-◌, ◌^◌, Bool, true, false, List, Option, Some, None, refl, sym, ◌∙◌, inl, inr, arith, min}
use Rattle.std.specs.Prelude.{◌⊎◌, leb}
use Rattle.std.proofs.lemmas.Bool.{leb-true, leb-false}
use Rattle.std.specs.FinMap.{get}
use Rattle.std.specs.Coded.{coded_option}
use Rattle.std.proofs.Math.Logic.{∥∥₁_elim}
use Rattle.std.proofs.lemmas.Option.{none-some}
use base.Stored.{Coded-set}
use Rattle.cy_store.specs.Files.{Files, Lacks}
use Rattle.cy_store.specs.Store.{StoreView, Rose, StoreRose, SameCounts, HasCauses}
use Rattle.cy_recording.specs.private.Stored.{files_code}
use Rattle.cy_recording.specs.private.Keeping.{IsKept}
use Rattle.cy_recording.proofs.Kept.{store_rose_earlier, counts_on}

-- the files are the same
pub kept_files : (name : List ℕ) (start now : StoreView) (failed : Bool) → IsKept name start now failed → now.files ≡ start.files
kept_files name start now failed kept = ∥∥₁_elim kept.files (Coded-set (coded_option files_code) now.files start.files) (λ e. e)

pub kept_start : (name : List ℕ) (start : StoreView) → IsKept name start start false
kept_start name start = record {
  files = ∣ refl ∣₁;
  faults_stay = omega arith;
  misses_stay = omega arith;
  quiet = λ _. record { faults = refl; misses = refl };
  rose = λ e. cc;
}

-- a call that left the counts
pub kept_quiet : (name : List ℕ) (start mid new : StoreView) (failed : Bool) → IsKept name start mid failed → new.files ≡ mid.files → SameCounts mid new → IsKept name start new failed
kept_quiet name start mid new failed kept files same = record {
  files = ∣ files ∙ kept_files name start mid failed kept ∣₁;
  faults_stay = omega (arith, kept.faults_stay, same.faults);
  misses_stay = omega (arith, kept.misses_stay, same.misses);
  quiet = λ calm. counts_on start mid new (kept.quiet calm) same;
  rose = λ e no. kept.rose e (λ was. no (store_rose_earlier start mid new name (omega (arith, same.faults)) (omega (arith, same.misses)) was));
}

-- what is denied to be false holds, of counts and of names

stable_rose : (old new : ℕ) → (Rose old new → ⊥) ⊎ Rose old new
stable_rose old new = by (leb (min (old + 1) (2 ^ 64 - 1)) new) refl
  where
    by : (b : Bool) → leb (min (old + 1) (2 ^ 64 - 1)) new ≡ b → (Rose old new → ⊥) ⊎ Rose old new
    by true is = inr (leb-true (min (old + 1) (2 ^ 64 - 1)) new is)
    by false is = inl (λ rose. omega (arith, leb-false (min (old + 1) (2 ^ 64 - 1)) new is, rose))

is_none : (o : Option (List ℕ)) → (o ≡ None → ⊥) ⊎ (o ≡ None)
is_none None = inr refl
is_none (Some x) = inl (λ e. none-some x (sym e))

lacks_or : (files : Option Files) (name : List ℕ) → (Lacks files name → ⊥) ⊎ Lacks files name
lacks_or None name = inr tt
lacks_or (Some m) name = is_none (get m name)

pub rose_stands : (old new : StoreView) (name : List ℕ) → ((StoreRose old new name → ⊥) → ⊥) → StoreRose old new name
rose_stands old new name denied = by (stable_rose old.faults new.faults) (stable_rose old.misses new.misses) (lacks_or old.files name)
  where
    by : (Rose old.faults new.faults → ⊥) ⊎ Rose old.faults new.faults → (Rose old.misses new.misses → ⊥) ⊎ Rose old.misses new.misses
        → (Lacks old.files name → ⊥) ⊎ Lacks old.files name → StoreRose old new name
    by (inr faults) _ _ = inl faults
    by (inl calm) (inr misses) (inr lacks) = inr (misses, lacks)
    by (inl calm) (inl still) _ = absurd (denied (λ rose. none rose))
      where
        none : StoreRose old new name → ⊥
        none (inl faults) = calm faults
        none (inr (misses, lacks)) = still misses
    by (inl calm) (inr misses) (inl has) = absurd (denied (λ rose. none rose))
      where
        none : StoreRose old new name → ⊥
        none (inl faults) = calm faults
        none (inr (rose, lacks)) = has lacks

-- the causes of what is answered in the end
pub causes_kept : {F : Type 0} (name : List ℕ) (start now : StoreView) (failed : Bool) → IsKept name start now failed → (F → failed ≡ true) → ((F → ⊥) → failed ≡ false)
    → HasCauses F start now name
causes_kept name start now failed kept fails calm = record {
  faults_stay = kept.faults_stay;
  misses_stay = kept.misses_stay;
  failed = λ e. rose_stands start now name (kept.rose (fails e));
  quiet = λ c. kept.quiet (calm c);
}
