-- What may stand as a name isn't empty.
use Rattle.std.proofs.Common.{ℕ, ◌≡◌, ◌≤◌, true, List, [], ◌∷◌, length, arith}
use Rattle.cy_args.specs.Words.{is_word}

pub named : (text : List ℕ) → is_word text ≡ true → 1 ≤ length text
named [] e = cc
named (b ∷ rest) e = omega arith
