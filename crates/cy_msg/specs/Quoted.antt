-- Texts in quotes, as the Protocol Buffers text form prints them.
use Rattle.std.specs.Prelude.{ℕ, ◌+◌, ◌/◌, ◌%◌, ◌==◌, nat_lt, ◌||◌, Bool, if◌then◌else◌, List, []}
use Rattle.std.specs.Prelude.{◌∷◌, ◌++◌}
use Rattle.std.specs.List.{flat_map}

-- A byte as a backslash and three octal digits.
abbrev pub octal : ℕ → List ℕ
octal b = 92 ∷ (48 + b / 64) ∷ (48 + b / 8 % 8) ∷ (48 + b % 8) ∷ []

-- A byte as it stands in quotes: a quote and a backslash get a backslash, newline, tab and carriage
-- return are \n, \t and \r, other control bytes are octal, and so are the bytes from 128 on of what
-- is no text in UTF-8.
unfoldable pub escaped : Bool → ℕ → List ℕ
escaped is_text b =
    if b == 34 || b == 92 then 92 ∷ b ∷ []
    else (if b == 10 then 92 ∷ 110 ∷ [] else (if b == 9 then 92 ∷ 116 ∷ [] else (if b == 13 then 92
    ∷ 114 ∷ []
    else (if nat_lt b 32 || b == 127 then octal b
    else (if nat_lt b 128 then b ∷ [] else (if is_text then b ∷ [] else octal b))))))

-- The bytes in quotes.
unfoldable pub quoted : Bool → List ℕ → List ℕ
quoted is_text bytes = 34 ∷ flat_map (escaped is_text) bytes ++ 34 ∷ []
