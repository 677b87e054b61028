-- Lists of one item.
use Rattle.std.proofs.Common.{◌≡◌, ℕ, zero, suc, [], ◌∷◌, slice_get, Some, refl, arith}
use Rattle.std.proofs.lemmas.Grind.{common_steps}

-- whatever such a list has, it has at 0
pub record IsAlone {X : Type 0} (x : X) (i : ℕ) (a : X) : Type 0 where
  pub first : i ≡ 0
  pub same : a ≡ x

pub alone : {X : Type 0} (x : X) (i : ℕ) (a : X) → slice_get (x ∷ []) i ≡ Some a → IsAlone x i a
alone x zero a e = record { first = refl; same = cc }
alone x (suc i) a e = absurd (grind (arith, common_steps))
