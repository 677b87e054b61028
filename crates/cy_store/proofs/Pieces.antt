-- A part of a buffer that is read.
use Rattle.std.proofs.Common.{◌≡◌, ◌<◌, ◌≤◌, ◌++◌, ℕ, List, length, take, drop, min, Option, Some, None, Result, Ok, Err, sym, ap, ◌∙◌, arith, inl, inr, length-take, append_assoc}
use Rattle.std.specs.Prelude.{IsSomeAnd}
use Rattle.std.specs.FinMap.{get}
use Rattle.std.proofs.lemmas.List.{take-append-drop, drop-append-le}
use Rattle.cy_store.specs.Files.{Files, Holds}
use Rattle.cy_store.specs.Store.{StoreView, ReadAnswer}
use Rattle.cy_store.specs.declared.error.StoreError.{StoreError}

-- one fact of a file's bytes for another
found_by : {P Q : List ℕ → Type 0} (found : Option (List ℕ)) → ((bytes : List ℕ) → P bytes → Q bytes) → IsSomeAnd found P → IsSomeAnd found Q
found_by None h p = p
found_by (Some bytes) h p = h bytes p

pub held_by : {P Q : List ℕ → Type 0} (files : Option Files) (name : List ℕ) → ((bytes : List ℕ) → P bytes → Q bytes) → Holds files name P → Holds files name Q
held_by None name h p = tt
held_by (Some m) name h p = found_by (get m name) h p

-- a piece of a buffer that was read is a part of the whole buffer
piece : (n at size : ℕ) (rest part bytes : List ℕ) → n ≤ length (take size rest) → part ≡ take n (drop at bytes) ++ drop n (take size rest)
    → part ++ drop size rest ≡ take n (drop at bytes) ++ drop n rest
piece n at size rest part bytes few e =
    ap (λ (p : List ℕ). p ++ drop size rest) e ∙ append_assoc (take n (drop at bytes)) (drop n (take size rest)) (drop size rest)
    ∙ ap (λ (p : List ℕ). take n (drop at bytes) ++ p) (sym (drop-append-le n (take size rest) (drop size rest) few) ∙ ap (drop n) (take-append-drop size rest))

none_left : (size limit : ℕ) (rest : List ℕ) → 0 < limit → size ≡ min (length rest) limit → length (take size rest) ≡ 0 → length rest ≡ 0
none_left size limit rest some e none = omega (arith, length-take size rest)

pub piece_answer : (old new : StoreView) (name : List ℕ) (at size limit : ℕ) (rest part : List ℕ) (result : Result ℕ StoreError) → 0 < limit → size ≡ min (length rest) limit
    → ReadAnswer old new name at (take size rest) part result → ReadAnswer old new name at rest (part ++ drop size rest) result
piece_answer old new name at size limit rest part (Ok n) some e answer = record {
  within = omega (arith, answer.within, length-take size rest);
  value = held_by old.files name (λ bytes v. piece n at size rest part bytes answer.within v) answer.value;
  end = λ none. held_by old.files name (λ bytes ended. elim ended [ inl empty ↦ inl (none_left size limit rest some e empty) | inr past ↦ inr past ]) (answer.end none);
  same = answer.same;
  cause = answer.cause;
}
piece_answer old new name at size limit rest part (Err fault) some e answer = record {
  within = tt;
  value = tt;
  end = tt;
  same = answer.same;
  cause = answer.cause;
}
