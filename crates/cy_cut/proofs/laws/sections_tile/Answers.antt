use Rattle.std.proofs.Common.{suc, length, refl, sym, arith}
use Rattle.cy_cut.proofs.Tiled.{tiles, tiling_read}
use Rattle.cy_cut.proofs.laws.sections_tile.Goals as goal

pub returns : goal.returns
returns c file at inside =
    (tiles (suc (length file)) file at inside (omega arith), λ other are. sym (tiling_read are (suc (length file)) file inside (omega arith) refl))
