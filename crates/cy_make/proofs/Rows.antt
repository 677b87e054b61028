-- Worked rows: the first values, and the fields of a DAG file.
use Rattle.std.proofs.Common.{◌≡◌, ℤ, List, [], ◌∷◌, map, refl}
use Rattle.std.specs.Prelude.{negsuc}
use Rattle.cy_make.specs.Messages.{value_of}

-- -980, -946, -898, -836: negsuc n is -(n + 1)
first_values : map value_of (1 ∷ 2 ∷ 3 ∷ 4 ∷ []) ≡ negsuc 979 ∷ negsuc 945 ∷ negsuc 897 ∷ negsuc 835 ∷ []
unfolding value_of
first_values = refl
