-- Signed numbers as unsigned ones.
use Rattle.std.proofs.Common.{◌≡◌, ℤ, pos, negsuc, ◌<◌, ◌^◌, FitsSigned, w64, arith}
use Rattle.std.proofs.lemmas.Grind.{common_steps}
use Rattle.std.proofs.lemmas.Int.{ints}
use Rattle.cy_wire.specs.Wire.{zigzag}
use Rattle.cy_wire.specs.Zigzag.{unzigzag}

-- nothing is lost
pub unzigzag-zigzag : (value : ℤ) → unzigzag (zigzag value) ≡ value
unzigzag-zigzag (pos n) = grind (arith, common_steps)
unzigzag-zigzag (negsuc n) = grind (arith, common_steps)

-- 64 bits are enough
pub zigzag_fits : (value : ℤ) → FitsSigned w64 value → zigzag value < 2 ^ 64
zigzag_fits (pos n) h = omega (arith, ints)
zigzag_fits (negsuc n) h = omega (arith, ints)
