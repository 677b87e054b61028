-- Answers of calls that may fail, and the counts of a store.
use Rattle.std.proofs.Common.{◌≡◌, Err, Result, Ok, ◌∙◌}
use Rattle.cy_store.specs.Store.{StoreView, SameCounts}

pub err_is : {T E : Type 0} (a b : E) → (let r : Result T E = Err a in r ≡ Err b) → a ≡ b
err_is a b e = cc

pub no_err : {T E : Type 0} (x : T) (b : E) → (let r : Result T E = Ok x in r ≡ Err b) → ⊥
no_err x b e = cc

pub same_counts : (old mid new : StoreView) → SameCounts old mid → SameCounts mid new → SameCounts old new
same_counts old mid new a b = record { faults = b.faults ∙ a.faults; misses = b.misses ∙ a.misses }
