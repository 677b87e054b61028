-- What a tool answers where the file was not read, and where it was.
use Rattle.std.proofs.Common.{◌≡◌, ℕ, List, refl, subst, inl, inr, Result, Ok, Err}
use Rattle.std.specs.Prelude.{◌⊎◌}
use Rattle.cy_store.specs.Files.{Holds}
use Rattle.cy_store.specs.Store.{StoreView, HasCauses, SameCounts}
use Rattle.cy_reader.specs.declared.error.LoadError.{LoadError}
use Rattle.cy_reader.specs.declared.error.LoadError.TheVariants as load_error
use Rattle.cy_writer.specs.declared.error.WriteError.{WriteError}
use Rattle.cy_writer.specs.declared.error.WriteError.TheVariants as write_error
use Rattle.cy_tools.specs.declared.error.ToolError.{ToolError}
use Rattle.cy_tools.specs.Answer.{IsRead, ToolAnswer}
use Rattle.cy_tools.specs.Causes.{error_of_load, error_of_write}
use Rattle.cy_tools.specs.Tools.{Tool}
use Rattle.cy_tools.specs.private.Giving.{DoesWork}

-- a store that was only read, without a failure, is as it was
pub stays : (old new : StoreView) → new.files ≡ old.files → SameCounts old new → new ≡ old
stays old new same counts = λ i. record { files = same i; faults = counts.faults i; misses = counts.misses i }

-- a fault of its own: neither the want of memory nor the store's
abbrev IsOwn : LoadError → Type 0
IsOwn load_error.Memory = ⊥
IsOwn load_error.Store = ⊥
IsOwn other = Unit {0}

module _ {A T : Type 0} (reads : List ℕ → Result A LoadError) (tool : Tool A T) (from to : List ℕ) (old new : StoreView) where
  own_held : (e : LoadError) → IsOwn e → (e ≡ load_error.Memory) ⊎ ((e ≡ load_error.Store) ⊎ Holds old.files from (λ file. reads file ≡ Err e)) → Holds old.files from (λ file. reads file ≡ Err e)
  own_held e own (inl is) = absurd (subst IsOwn is own)
  own_held e own (inr (inl is)) = absurd (subst IsOwn is own)
  own_held e own (inr (inr held)) = held

  -- the file was not read
  pub not_read : (Failed : Type 0) (e : LoadError) → (e ≡ load_error.Store → Failed) → (Failed → e ≡ load_error.Store)
      → (e ≡ load_error.Memory) ⊎ ((e ≡ load_error.Store) ⊎ Holds old.files from (λ file. reads file ≡ Err e)) → new.files ≡ old.files → HasCauses Failed old new from
      → (let r : Result T ToolError = Err (error_of_load e) in ToolAnswer reads tool from to old new r)
  not_read Failed load_error.Memory is only refused same causes = inl same
  not_read Failed load_error.Store is only refused same causes = record { rose = causes.failed (is refl); same = same }
  not_read Failed e is only refused same causes = record {
    refused = own_held e tt refused;
    same = stays old new same (causes.quiet (λ failed. absurd (subst IsOwn (only failed) tt)));
    own = (λ same. subst IsOwn same tt, λ same. subst IsOwn same tt);
  }

  -- it was, and what is kept was written, or was not
  pub done : (was : A) (told : T) → IsRead reads tool from to old.files was → (let r : Result T WriteError = Ok told in DoesWork tool to was old new r)
      → (let r : Result T ToolError = Ok told in ToolAnswer reads tool from to old new r)
  done was told read works = record { was = was; read = read; written = works.makes.done; counts = works.causes.quiet (λ e. cc); tells = works.tells }

  pub not_done : (was : A) (e : WriteError) → IsRead reads tool from to old.files was → (let r : Result T WriteError = Err e in DoesWork tool to was old new r)
      → (let r : Result T ToolError = Err (error_of_write e) in ToolAnswer reads tool from to old new r)
  not_done was write_error.Failed read works =
      let stopped = works.makes.failed refl in
      record { was = was; read = read; failed = stopped.0; rose = works.causes.failed refl; stops = stopped.1 }
  not_done was write_error.Broken read works = absurd (works.unbroken refl)
  not_done was write_error.Memory read works = inr record { was = was; read = read; stops = works.makes.starved refl }
