-- What a store and a sink show of themselves, and the causes of their faults.
use Rattle.std.specs.Prelude.{ℕ, ◌≡◌, ◌≤◌, ◌<◌, ◌+◌, ◌-◌, ◌^◌, ◌⊎◌, ◌++◌, ⊤, min, List, length}
use Rattle.std.specs.Prelude.{take, drop, Option, None, Result, IfOk, IfSome, OnOk, OnErr, IsErrOf}
use Rattle.std.specs.Prelude.{Bool}
use Rattle.std.specs.Str.{bytes_eq}
use Rattle.std.specs.Option.{option_map}
use Rattle.cy_store.specs.Files.{Files, Holds, Lacks}
use Rattle.cy_store.specs.Write.{Create, Put, after_write, LeavesIn}
use Rattle.cy_store.specs.declared.error.StoreError.{StoreError}
use Rattle.cy_store.specs.declared.error.StoreError.TheVariants as store_error
use Rattle.cy_store.specs.declared.error.SinkError.{SinkError}
use Rattle.cy_store.specs.declared.error.SinkError.TheVariants as sink_error

-- What a store shows: the files that it holds, where it tells them, and two counts that never fall.
pub record StoreView : Type 0 where
  pub files : Option Files
  pub faults : ℕ
  pub misses : ℕ

-- What a sink shows: the bytes that were written to it, where it tells them, and a count that never
-- falls.
pub record SinkView : Type 0 where
  pub bytes : Option (List ℕ)
  pub faults : ℕ

-- A count of 64 bits is seen to have risen: it is higher, or it stands at its last value, from
-- which it can't rise.
abbrev pub Rose : ℕ → ℕ → Type 0
Rose before now = min (before + 1) (2 ^ 64 - 1) ≤ now

-- The store's count rose, for a call that has to read or write this name: its faults rose, or its
-- misses did and, where the store tells its map, the name wasn't there.
abbrev pub StoreRose : StoreView → StoreView → List ℕ → Type 0
StoreRose old new name = Rose old.faults new.faults ⊎ (Rose old.misses new.misses
    × Lacks old.files name)

-- The same for a call that writes a name which it made or found: in a store that tells its files
-- the name is there, and can't be missed.
abbrev pub WriteRose : StoreView → StoreView → Type 0
WriteRose old new = Rose old.faults new.faults ⊎ (Rose old.misses new.misses × (old.files ≡ None))

-- Both counts stand where they stood.
pub record SameCounts (old new : StoreView) : Type 0 where
  pub faults : new.faults ≡ old.faults
  pub misses : new.misses ≡ old.misses

-- The causes of what a call on a name answered: its counts never fall, it answers Failed only where
-- one of them rose, and leaves both where it doesn't. Its misses rise only where the name isn't
-- there, and then its faults stay.
pub record HasCause {T : Type 0} (old new : StoreView) (name : List ℕ)
    (result : Result T StoreError) : Type 0 where
  pub faults_stay : old.faults ≤ new.faults
  pub misses_stay : old.misses ≤ new.misses
  pub failed : IsErrOf result store_error.Failed → StoreRose old new name
  pub missed : old.misses < new.misses → (new.faults ≡ old.faults) × Lacks old.files name
  pub quiet : (IsErrOf result store_error.Failed → ⊥) → SameCounts old new

-- The causes of what a call answered that can't miss.
pub record HasFault {T : Type 0} (old new : StoreView) (result : Result T StoreError) : Type 0 where
  pub faults_stay : old.faults ≤ new.faults
  pub misses_same : new.misses ≡ old.misses
  pub failed : IsErrOf result store_error.Failed → Rose old.faults new.faults
  pub quiet : (IsErrOf result store_error.Failed → ⊥) → SameCounts old new

-- The causes of what several calls on one name came to, of which `Failed` says that one of them
-- failed.
pub record HasCauses (Failed : Type 0) (old new : StoreView) (name : List ℕ) : Type 0 where
  pub faults_stay : old.faults ≤ new.faults
  pub misses_stay : old.misses ≤ new.misses
  pub failed : Failed → StoreRose old new name
  pub quiet : (Failed → ⊥) → SameCounts old new

-- The same of calls that make a file and write it.
pub record HasWriteCauses (Failed : Type 0) (old new : StoreView) : Type 0 where
  pub faults_stay : old.faults ≤ new.faults
  pub misses_stay : old.misses ≤ new.misses
  pub failed : Failed → WriteRose old new
  pub quiet : (Failed → ⊥) → SameCounts old new

-- The causes of what a sink answered: its count never falls, it answers Failed only where that
-- rose, and leaves it where it doesn't.
pub record HasSinkFault {T : Type 0} (old new : SinkView) (result : Result T SinkError) : Type 0
  where
    pub faults_stay : old.faults ≤ new.faults
    pub failed : IsErrOf result sink_error.Failed → Rose old.faults new.faults
    pub quiet : (IsErrOf result sink_error.Failed → ⊥) → new.faults ≡ old.faults

-- What `size` answers: how many bytes the file has.
pub record SizeAnswer (old new : StoreView) (name : List ℕ) (result : Result ℕ StoreError) : Type 0
  where
    pub value : IfOk result (λ n. Holds old.files name (λ bytes. n ≡ length bytes))
    pub same : new.files ≡ old.files
    pub cause : HasCause old new name result

-- What `read_at` answers: how many bytes of a file, from a place on, the buffer begins with now;
-- none only where the buffer is empty or the file has no byte there.
pub record ReadAnswer (old new : StoreView) (name : List ℕ) (at : ℕ) (before after : List ℕ)
    (result : Result ℕ StoreError) : Type 0 where
  pub within : IfOk result (λ n. n ≤ length before)
  pub value : IfOk result (λ n. Holds old.files name (λ bytes. after ≡ take n (drop at bytes)
      ++ drop n before))
  pub end : IfOk result (λ n. n ≡ 0 → Holds old.files name (λ bytes. (length before ≡ 0)
      ⊎ (length bytes ≤ at)))
  pub same : new.files ≡ old.files
  pub cause : HasCause old new name result

-- What `create` leaves: an empty file, or all as it was.
pub record CreateAnswer {T : Type 0} (old new : StoreView) (name : List ℕ)
    (result : Result T StoreError) : Type 0 where
  pub made : OnOk result (new.files ≡ option_map (after_write (Create name)) old.files)
  pub err : OnErr result (new.files ≡ old.files)
  pub cause : HasFault old new result

-- What `put_at` leaves: the bytes over those that were there; after Failed what a torn put may
-- leave; and without memory all as it was.
pub record PutAnswer {T : Type 0} (old new : StoreView) (name : List ℕ) (at : ℕ) (bytes : List ℕ)
    (result : Result T StoreError) : Type 0 where
  pub there : OnOk result (Holds old.files name (λ _. ⊤))
  pub put : OnOk result (new.files ≡ option_map (after_write (Put name at bytes)) old.files)
  pub torn : IsErrOf result store_error.Failed → LeavesIn (Put name at bytes) old.files new.files
  pub memory : IsErrOf result store_error.Memory → new.files ≡ old.files
  pub cause : HasCause old new name result

-- What `same` answers: of a store that tells its files, whether the names are equal. The store
-- stays as it was.
pub record SameAnswer (old new : StoreView) (name other : List ℕ) (result : Bool) : Type 0 where
  pub same : new ≡ old
  pub told : IfSome old.files (λ _. result ≡ bytes_eq name other)

-- What `write` leaves: all bytes behind those that were written; after Failed a prefix of them; and
-- without memory none.
pub record WriteAnswer {T : Type 0} (old new : SinkView) (bytes : List ℕ)
    (result : Result T SinkError) : Type 0 where
  pub written : OnOk result (new.bytes ≡ option_map (λ b. b ++ bytes) old.bytes)
  pub prefix : IsErrOf result sink_error.Failed → (n : ℕ)
      × (new.bytes ≡ option_map (λ b. b ++ take n bytes) old.bytes)
  pub memory : IsErrOf result sink_error.Memory → new.bytes ≡ old.bytes
  pub cause : HasSinkFault old new result
