-- What is answered where records that are joined are written as one.
use Rattle.std.specs.Prelude.{ℕ, ◌≡◌, List, length, Result, IfOk, IsErrOf}
use Rattle.cy_store.specs.Store.{StoreView, HasWriteCauses}
use Rattle.cy_salvage.specs.Joined.{Gathered}
use Rattle.cy_tools.specs.Kept.{IsKeptText, kept_writes}
use Rattle.cy_writer.specs.Writes.{Makes}
use Rattle.cy_writer.specs.declared.error.WriteError.{WriteError}
use Rattle.cy_writer.specs.declared.error.WriteError.TheVariants as write_error

-- The record of all messages, as they stand, is written under a name: it is their record text. The
-- number of messages is answered.
pub record MergeAnswer (to : List ℕ) (g : Gathered) (old new : StoreView)
    (result : Result ℕ WriteError) : Type 0 where
  pub text : IsKeptText to g.met g.met.messages
  pub makes : Makes (kept_writes to g.met g.met.messages) old new result
  pub counts : IfOk result (λ n. n ≡ length g.met.messages)
  pub unbroken : IsErrOf result write_error.Broken → ⊥
  pub causes : HasWriteCauses (IsErrOf result write_error.Failed) old new
