-- A text that was read, or why it wasn't.
use Rattle.std.proofs.Common.{ℕ, ◌≡◌, ◌≤◌, ◌<◌, List, length, Option, Some, None, IfSome, Result, Ok, Err, refl, sym, ap, subst, ◌∙◌, inl, inr, arith, lt-ltb}
use Rattle.std.specs.Prelude.{◌⊎◌, IsSomeAnd}
use Rattle.std.proofs.lemmas.Bool.{le-ltb}
use Rattle.std.specs.FinMap.{get}
use Rattle.cy_store.specs.Files.{Files, Holds}
use Rattle.cy_store.specs.Reads.{Reads, Refuses, judged, file_by, file_in}
use Rattle.cy_store.specs.Store.{StoreView, SameCounts}
use Rattle.cy_text.specs.Fields.{Fields}
use Rattle.cy_text.specs.Places.{fields_of_text}
use Rattle.cy_text.specs.declared.error.TextError.{TextError}
use Rattle.cy_setup.specs.declared.error.Fault.TheVariants as fault
use Rattle.cy_setup.specs.declared.error.Refusal.{Refusal}
use Rattle.cy_setup.specs.declared.error.SetupError.{SetupError}
use Rattle.cy_setup.specs.declared.error.SetupError.TheVariants.{Refused, Memory}
use Rattle.cy_setup.specs.Configuration.{fields_of, text_fault, refused_in, text_in, longest_config}
use Rattle.cy_setup.specs.Comes.{ComesTo}
use Rattle.cy_setup.specs.Steps.{IsParsed}

short_text : (text : List ℕ) (r : Result Fields TextError) → length text ≤ 16777216 → fields_of_text text ≡ r → fields_of text ≡ text_fault r
unfolding fields_of
short_text text r short is = rw (le-ltb longest_config (length text) short, is) refl

pub parsed : (name text : List ℕ) (fields : Fields) → length text ≤ 16777216 → fields_of_text text ≡ Ok fields → (let r : Result Fields SetupError = Ok fields in IsParsed name text r)
parsed name text fields short is = record {
  accepted = short_text text (Ok fields) short is;
  refused = λ refusal e. absurd cc;
  unread = λ file e. absurd cc;
}

pub memory_parsed : (name text : List ℕ) → (let r : Result Fields SetupError = Err Memory in IsParsed name text r)
memory_parsed name text = record { accepted = tt; refused = λ refusal e. absurd cc; unread = λ file e. absurd cc }

pub wrong_parsed : (name text : List ℕ) (e : TextError) (answer : SetupError) → length text ≤ 16777216 → fields_of_text text ≡ Err e
    → (answer ≡ Memory) ⊎ (answer ≡ Refused record { file = name; fault = fault.Text e }) → (let r : Result Fields SetupError = Err answer in IsParsed name text r)
wrong_parsed name text e answer short is (inl none) = subst (λ a. let r : Result Fields SetupError = Err a in IsParsed name text r) (sym none) (memory_parsed name text)
wrong_parsed name text e answer short is (inr told) = record {
  accepted = tt;
  refused = λ refusal r. let same : refusal ≡ record { file = name; fault = fault.Text e } = cc in rw (short_text text (Err e) short is, same) refl;
  unread = λ file r. absurd cc;
}

by_found : {A : Type 0} {r : Reads Refusal A} {P : List ℕ → Type 0} (name : List ℕ) (judge : List ℕ → Result A Refusal) (found : Option (List ℕ)) → ((bytes : List ℕ) → P bytes → judged (judge bytes) ≡ r) → IsSomeAnd found P → file_by name judge found ≡ r
by_found name judge None h p = absurd p
by_found name judge (Some bytes) h p = h bytes p

-- what is held under a name is what the file comes to
pub held_is_told : {A : Type 0} {r : Reads Refusal A} {P : List ℕ → Type 0} (name : List ℕ) (judge : List ℕ → Result A Refusal) (files : Option Files) → ((bytes : List ℕ) → P bytes → judged (judge bytes) ≡ r)
    → Holds files name P → IfSome files (λ m. file_in name judge m ≡ r)
held_is_told name judge None h p = tt
held_is_told name judge (Some m) h p = by_found name judge (get m name) h p

long_text : (name bytes : List ℕ) (size : ℕ) → 16777216 < size → size ≡ length bytes → refused_in name (fields_of bytes) ≡ Err record { file = name; fault = fault.ConfigTooLarge size }
unfolding fields_of
long_text name bytes size long is = rw (lt-ltb longest_config (length bytes) (omega arith), is) refl

-- a file that is too long
pub longer_text : (name : List ℕ) (size : ℕ) (old new : StoreView) (answer : SetupError) → 16777216 < size → Holds old.files name (λ file. size ≡ length file)
    → (answer ≡ Memory) ⊎ (answer ≡ Refused record { file = name; fault = fault.ConfigTooLarge size }) → new.files ≡ old.files → SameCounts old new
    → (let r : Result Fields SetupError = Err answer in ComesTo (λ tree. tree) (text_in name) (λ file. file ≡ name) old new r)
longer_text name size old new answer long held (inl none) same counts = record {
  accepted = tt;
  refused = λ refusal e. absurd cc;
  failed = λ file e. absurd cc;
  same = same;
  faults_stay = omega (arith, counts.faults);
  misses_stay = omega (arith, counts.misses);
}
longer_text name size old new answer long held (inr told) same counts = record {
  accepted = tt;
  refused = λ refusal e.
      let is : record { file = name; fault = fault.ConfigTooLarge size } ≡ refusal = cc in
      (counts, held_is_told name (λ bytes. refused_in name (fields_of bytes)) old.files (λ bytes b. ap judged (long_text name bytes size long b) ∙ ap Refuses is) held);
  failed = λ file e. absurd cc;
  same = same;
  faults_stay = omega (arith, counts.faults);
  misses_stay = omega (arith, counts.misses);
}
