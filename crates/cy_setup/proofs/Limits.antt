-- Numbers that are limited.
use Rattle.std.proofs.Common.{ℕ, ◌≡◌, ◌≤◌, List, refl, if◌then◌else◌, nat_lt, ltb-false, Bool, true, false}
use Rattle.cy_store.specs.Reads.{Reads, Accepts, Refuses}
use Rattle.cy_setup.specs.declared.error.Fault.{Fault}
use Rattle.cy_setup.specs.declared.error.Refusal.{Refusal}
use Rattle.cy_setup.specs.Listing.{limited}

-- a number that passes no limit
pub limited_fits : (file : List ℕ) (most : ℕ) (over : ℕ → Fault) (count n : ℕ) → limited file most over count ≡ Accepts n → (count ≤ most) × (count ≡ n)
limited_fits file most over count n e = by (nat_lt most count) refl e
  where
    by : (b : Bool) → nat_lt most count ≡ b → (let stopped : Reads Refusal ℕ = Refuses record { file = file; fault = over count } in if b then stopped else Accepts count) ≡ Accepts n → (count ≤ most) × (count ≡ n)
    by true is e = absurd cc
    by false is e = (ltb-false most count is, cc)
