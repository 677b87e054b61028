-- How the parts of a fault's text are spelled, and the line that tells it.
use Rattle.std.specs.Prelude.{ℕ, List, ◌++◌, true, codes}
use Rattle.std.specs.Fmt.{decimal}
use Rattle.std.specs.List.{flat_map}
use Rattle.cy_msg.specs.Quoted.{quoted}

-- A limit that was passed, by the name of its refusal and the number that passed it.
unfoldable pub limit_text : List ℕ → ℕ → List ℕ
limit_text what count = codes "limit " ++ what ++ codes " passed: " ++ decimal count

-- A name, and numbers behind it.
unfoldable pub numbers_text : List ℕ → List ℕ → List ℕ
numbers_text what numbers = what ++ flat_map (λ n. codes " " ++ decimal n) numbers

-- The same with a text in quotes at the end.
unfoldable pub named_text : List ℕ → List ℕ → List ℕ → List ℕ
named_text what numbers name = numbers_text what numbers ++ codes " " ++ quoted true name

-- What befell a file: the program's name and the file's stand before it.
abbrev pub file_front : List ℕ → List ℕ
file_front name = codes "cyber: " ++ name ++ codes ": "

abbrev pub file_line : List ℕ → List ℕ → List ℕ
file_line name text = file_front name ++ text ++ codes "\n"
