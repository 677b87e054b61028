-- How a writer starts, by how its file was begun.
use Rattle.std.proofs.Common.{◌≡◌, ℕ, ◌≤◌, List, ◌∷◌, length, Result, Ok, Err, Some, sym, ap, subst, ◌∙◌, arith, length-append}
use Rattle.cy_store.specs.Files.{Holds}
use Rattle.cy_store.specs.Write.{Create}
use Rattle.cy_store.specs.Store.{StoreView}
use Rattle.cy_writer.specs.declared.error.WriteError.{WriteError}
use Rattle.cy_writer.specs.declared.error.WriteError.TheVariants as write_error
use Rattle.cy_writer.specs.declared.writer.RecordWriter.{RecordWriter}
use Rattle.cy_writer.specs.declared.writing.Writing.{Writing}
use Rattle.cy_writer.specs.Calls.{Begins, Starts}
use Rattle.cy_writer.specs.Given.{nothing_given, start_puts, front_of, IsAsLeft}
use Rattle.cy_writer.specs.Stands.{StandsFor}
use Rattle.cy_writer.specs.Writes.{puts_into}
use Rattle.cy_writer.proofs.Giving.{same_error}
use Rattle.cy_writer.proofs.Puts.{causes_none, causes_same, holds_weaker, makes_none, makes_same}

-- nothing was begun
pub starts_nothing : (name : List ℕ) (old : StoreView) (r : Result RecordWriter WriteError) (e : WriteError) → r ≡ Err e → e ≡ write_error.Memory
    → Starts name old old r
starts_nothing name old r e is memory = let known : r ≡ Err write_error.Memory = is ∙ ap (λ x. Err x) memory in rw known (unbegun name old)
  where
    unbegun : (name : List ℕ) (old : StoreView) → (let r : Result RecordWriter WriteError = Err write_error.Memory in Starts name old old r)
    unbegun name old =
        let r : Result RecordWriter WriteError = Err write_error.Memory in
        record {
          given = tt;
          there = tt;
          begins = record {
            makes = makes_none r (Create name ∷ puts_into name start_puts) old tt (λ e. cc);
            left = tt;
            unbroken = λ e. cc;
            causes = causes_none old (λ e. cc);
          };
        }

-- the file could not be begun
pub starts_failed : {T : Type 0} (name other : List ℕ) (old new : StoreView) (r : Result RecordWriter WriteError) (e d : WriteError) → r ≡ Err e → e ≡ d
    → other ≡ name → (let b : Result T WriteError = Err d in Begins other old new b) → Starts name old new r
starts_failed {T = T} name other old new r e d is same named begins =
    let known : r ≡ Err d = is ∙ ap (λ x. Err x) same in
    rw known (failed name old new d (subst (λ (n : List ℕ). let b : Result T WriteError = Err d in Begins n old new b) named begins))
  where
    failed : (name : List ℕ) (old new : StoreView) (d : WriteError) → (let b : Result T WriteError = Err d in Begins name old new b)
        → (let r : Result RecordWriter WriteError = Err d in Starts name old new r)
    failed name old new d begins =
        let b : Result T WriteError = Err d in
        let r : Result RecordWriter WriteError = Err d in
        record {
          given = tt;
          there = tt;
          begins = record {
            makes = makes_same b r (Create name ∷ puts_into name start_puts) old new begins.makes tt (λ f same. same_error d f same);
            left = tt;
            unbroken = λ broken. begins.unbroken (same_error d write_error.Broken broken);
            causes = causes_same old new begins.causes (λ failed. same_error d write_error.Failed failed) (λ failed. same_error d write_error.Failed failed);
          };
        }

-- a file as it was left has all that was put
pub as_long : (o : Writing) (name bytes : List ℕ) → StandsFor o (nothing_given name) → IsAsLeft (nothing_given name) bytes → o.place ≤ length bytes
as_long o name bytes held left = omega (arith, held.place, ap length left.split, length-append (front_of (nothing_given name)) left.rest)

-- the file was begun
pub starts_begun : {T : Type 0} (name : List ℕ) (o : Writing) (t : T) (old new : StoreView) → StandsFor o (nothing_given name)
    → (let b : Result T WriteError = Ok t in Begins o.name old new b)
    → (let r : Result RecordWriter WriteError = Ok record { writing = Some o } in Starts name old new r)
starts_begun {T = T} name o t old new held begun =
    let b : Result T WriteError = Ok t in
    let begins : Begins name old new b = subst (λ (n : List ℕ). Begins n old new b) held.name begun in
    record {
      given = held;
      there = holds_weaker new.files o.name (IsAsLeft (nothing_given name)) (λ bytes. o.place ≤ length bytes) (λ bytes left. as_long o name bytes held left)
          (subst (λ (n : List ℕ). Holds new.files n (IsAsLeft (nothing_given name))) (sym held.name) begins.left);
      begins = record {
        makes = record { done = begins.makes.done; failed = λ e. cc; starved = λ e. cc; broken = λ e. cc };
        left = begins.left;
        unbroken = λ e. cc;
        causes = causes_same old new begins.causes (λ e. cc) (λ e. cc);
      };
    }
