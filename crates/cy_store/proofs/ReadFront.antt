-- A buffer that is filled with the bytes of a file from a place on.
use Rattle.std.proofs.Common.{◌≡◌, ℕ, ◌+◌, ◌-◌, ◌≤◌, List, ◌++◌, length, take, drop, Option, Some, None, refl, sym, ap, ◌∙◌, subst, inl, inr, arith, IfSome, length-append, length-drop, take-add}
use Rattle.std.specs.Prelude.{◌⊎◌, IsSomeAnd}
use Rattle.std.proofs.lemmas.List.{take_at, take_all, length-take-le, drop-drop}
use Rattle.std.specs.FinMap.{get}
use Rattle.cy_store.specs.Files.{Files, Holds}
use Rattle.cy_store.specs.Store.{StoreView, SameCounts}
use Rattle.cy_store.proofs.Filling.{take-filled}

-- Where the map is told and the name is there, its bytes have P.
abbrev pub MayHold : Option Files → List ℕ → (List ℕ → Type 0) → Type 0
MayHold files name P = IfSome files (λ m. IfSome (get m name) P)

both_found : {P Q R : List ℕ → Type 0} (found : Option (List ℕ)) → ((bytes : List ℕ) → P bytes → Q bytes → R bytes) → IfSome found P → IsSomeAnd found Q → IsSomeAnd found R
both_found None h p q = absurd q
both_found (Some bytes) h p q = h bytes p q

pub both_held : {P Q R : List ℕ → Type 0} (files : Option Files) (name : List ℕ) → ((bytes : List ℕ) → P bytes → Q bytes → R bytes) → MayHold files name P → Holds files name Q → Holds files name R
both_held None name h p q = tt
both_held (Some m) name h p q = both_found (get m name) h p q

may_found : (P : List ℕ → Type 0) (found : Option (List ℕ)) → IsSomeAnd found P → IfSome found P
may_found P None p = tt
may_found P (Some bytes) p = p

pub may_hold : (P : List ℕ → Type 0) (files : Option Files) (name : List ℕ) → Holds files name P → MayHold files name P
may_hold P None name p = tt
may_hold P (Some m) name p = may_found P (get m name) p

always_found : {P : List ℕ → Type 0} (found : Option (List ℕ)) → ((bytes : List ℕ) → P bytes) → IfSome found P
always_found None h = tt
always_found (Some bytes) h = h bytes

may_always : {P : List ℕ → Type 0} (files : Option Files) (name : List ℕ) → ((bytes : List ℕ) → P bytes) → MayHold files name P
may_always None name h = tt
may_always (Some m) name h = always_found (get m name) h

-- So many bytes were read of a file from a place on, and no file was changed.
pub record IsReadTo (name : List ℕ) (at n : ℕ) (buffer : List ℕ) (old new : StoreView) : Type 0 where
  pub within : n ≤ length buffer
  pub front : MayHold old.files name (λ bytes. take n buffer ≡ take n (drop at bytes))
  pub same : new.files ≡ old.files
  pub counts : SameCounts old new

pub nothing_read : (name : List ℕ) (at : ℕ) (buffer : List ℕ) (view : StoreView) → IsReadTo name at 0 buffer view view
nothing_read name at buffer view = record {
  within = omega arith;
  front = may_always view.files name (λ _. refl);
  same = refl;
  counts = record { faults = refl; misses = refl };
}

front_more : (n k : ℕ) (buffer was part rest bytes : List ℕ) → n ≤ length buffer → k ≤ length was → length part ≡ length was
    → take n buffer ≡ take n bytes → part ≡ take k (drop n bytes) ++ drop k was → take (n + k) (take n buffer ++ (part ++ rest)) ≡ take (n + k) bytes
front_more n k buffer was part rest bytes within few size front is =
    let read = take k (drop n bytes) in
    let whole : length part ≡ length read + (length was - k) =
    ap length is ∙ length-append read (drop k was) ∙ ap (λ (i : ℕ). length read + i) (length-drop k was) in
    take-filled n k buffer part rest within (omega arith)
    ∙ ap (λ l. l ++ take k part) front
    ∙ ap (λ l. take n bytes ++ l) (ap (take k) is ∙ take_at read (drop k was) k (omega arith))
    ∙ sym (take-add n k bytes)

front_behind : (at n k : ℕ) (buffer was part rest bytes : List ℕ) → n ≤ length buffer → k ≤ length was → length part ≡ length was
    → take n buffer ≡ take n (drop at bytes) → part ≡ take k (drop (at + n) bytes) ++ drop k was → take (n + k) (take n buffer ++ (part ++ rest)) ≡ take (n + k) (drop at bytes)
front_behind at n k buffer was part rest bytes within few size front is =
    front_more n k buffer was part rest (drop at bytes) within few size front (is ∙ ap (λ (l : List ℕ). take k l ++ drop k was) (sym (drop-drop n at bytes)))

-- a piece more was read into the part of the buffer that was left
pub front_read : (name : List ℕ) (at n k : ℕ) (buffer was part rest : List ℕ) (old mid : StoreView) → IsReadTo name at n buffer old mid → k ≤ length was → length part ≡ length was
    → Holds mid.files name (λ bytes. part ≡ take k (drop (at + n) bytes) ++ drop k was) → Holds old.files name (λ bytes. take (n + k) (take n buffer ++ (part ++ rest)) ≡ take (n + k) (drop at bytes))
front_read name at n k buffer was part rest old mid so_far few size value =
    both_held old.files name (λ bytes. front_behind at n k buffer was part rest bytes so_far.within few size) so_far.front
    (subst (λ (files : Option Files). Holds files name (λ bytes. part ≡ take k (drop (at + n) bytes) ++ drop k was)) so_far.same value)

pub read_more : (name : List ℕ) (at n k : ℕ) (buffer was part rest : List ℕ) (old mid new : StoreView) → IsReadTo name at n buffer old mid
    → k ≤ length was → length part ≡ length was → Holds mid.files name (λ bytes. part ≡ take k (drop (at + n) bytes) ++ drop k was)
    → new.files ≡ mid.files → SameCounts mid new → IsReadTo name at (n + k) (take n buffer ++ (part ++ rest)) old new
read_more name at n k buffer was part rest old mid new so_far few size value same counts = record {
  within = simp length-append (omega (arith, length-take-le n buffer so_far.within));
  front = may_hold (λ bytes. take (n + k) (take n buffer ++ (part ++ rest)) ≡ take (n + k) (drop at bytes)) old.files name (front_read name at n k buffer was part rest old mid so_far few size value);
  same = same ∙ so_far.same;
  counts = record { faults = counts.faults ∙ so_far.counts.faults; misses = counts.misses ∙ so_far.counts.misses };
}

short : (at n k size : ℕ) (was now bytes : List ℕ) → n + length was ≡ size → k ≡ 0 → now ≡ take (n + k) (drop at bytes) → (length was ≡ 0) ⊎ (length bytes ≤ at + n) → now ≡ take size (drop at bytes)
short at n k size was now bytes whole none e (inl full) = e ∙ ap (λ (i : ℕ). take i (drop at bytes)) (omega arith)
short at n k size was now bytes whole none e (inr all) =
    let few : length (drop at bytes) ≤ n = omega (arith, length-drop at bytes) in
    e ∙ take_all (n + k) (drop at bytes) (omega arith) ∙ sym (take_all size (drop at bytes) (omega arith))

-- the buffer is full, or nothing was read since the file has no more bytes
pub read_whole : {A : Type 0} (name : List ℕ) (at n k size full : ℕ) (was now : List ℕ) (files : Option Files) → n + length was ≡ size → full ≡ size
    → Holds files name (λ bytes. now ≡ take (n + k) (drop at bytes)) → (k ≡ 0) ⊎ (A × (n + k ≡ full)) → (k ≡ 0 → Holds files name (λ bytes. (length was ≡ 0) ⊎ (length bytes ≤ at + n)))
    → Holds files name (λ bytes. now ≡ take size (drop at bytes))
read_whole name at n k size full was now files whole size_is read (inl none) done =
    both_held files name (λ bytes. short at n k size was now bytes whole none) (may_hold (λ bytes. now ≡ take (n + k) (drop at bytes)) files name read) (done none)
read_whole name at n k size full was now files whole size_is read (inr (_, all)) done =
    subst (λ (i : ℕ). Holds files name (λ bytes. now ≡ take i (drop at bytes))) (all ∙ size_is) read
