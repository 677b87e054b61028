-- What may stand as a word.
use Rattle.std.specs.Prelude.{ℕ, ◌==◌, ◌&&◌, nat_le, not, Bool, false, List, [], ◌∷◌, length}

-- The most bytes of a word.
abbrev pub longest_word : ℕ
longest_word = 16777216

-- Whether a text may stand as a name: it is not empty, does not begin with `-` and is not too long.
abbrev pub is_word : List ℕ → Bool
is_word [] = false
is_word (b ∷ rest) = not (b == 45) && nat_le (length (b ∷ rest)) longest_word
