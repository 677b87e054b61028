-- Columns byte by byte.
use Rattle.std.proofs.Common.{ℕ, ◌≡◌, ◌+◌, ◌<◌, ◌≤◌, ◌==◌, cond, List, length, drop, get_or, refl}
use Rattle.std.proofs.lemmas.List.{drop_more}
use Rattle.std.proofs.Math.ListN.{drop_of_length-le}
use Rattle.cy_text.specs.Places.{column_behind}

-- the next byte
pub next_column : (column place : ℕ) (bytes : List ℕ) → place < length bytes
    → column_behind column (drop place bytes) ≡ cond (get_or bytes place 0 == 10) (column_behind 1 (drop (place + 1) bytes)) (column_behind (column + 1) (drop (place + 1) bytes))
next_column column place bytes h = rw (drop_more bytes place 0 h) refl

-- no byte is left
pub last_column : (column place : ℕ) (bytes : List ℕ) → length bytes ≤ place → column_behind column (drop place bytes) ≡ column
last_column column place bytes h = rw (drop_of_length-le bytes h) refl
