-- What single bytes may be.
use Rattle.std.specs.Prelude.{ℕ, ◌-◌, ◌==◌, nat_le, ◌||◌, ◌&&◌, Bool, false, List, [], ◌∷◌}
use Rattle.std.specs.Prelude.{if◌then◌else◌}

abbrev pub is_between : ℕ → ℕ → ℕ → Bool
is_between low high b = nat_le low b && nat_le b high

-- Space, tab, newline, vertical tab, form feed and carriage return.
abbrev pub is_blank : ℕ → Bool
is_blank b = b == 32 || is_between 9 13 b

abbrev pub is_digit : ℕ → Bool
is_digit b = is_between 48 57 b

abbrev pub is_octal : ℕ → Bool
is_octal b = is_between 48 55 b

abbrev pub is_hex : ℕ → Bool
is_hex b = is_digit b || is_between 65 70 b || is_between 97 102 b

-- A letter or `_`.
abbrev pub is_letter : ℕ → Bool
is_letter b = is_between 65 90 b || is_between 97 122 b || b == 95

-- A letter, `_` or a digit.
abbrev pub is_word : ℕ → Bool
is_word b = is_letter b || is_digit b

-- The number that a digit, or a hexadecimal digit, stands for.
abbrev pub digit_of : ℕ → ℕ
digit_of b = if is_digit b then b - 48 else (if is_between 65 70 b then b - 55 else
    (if is_between 97 102 b then b - 87 else 0))

-- Whether the first byte is of a kind.
abbrev pub starts : (ℕ → Bool) → List ℕ → Bool
starts test [] = false
starts test (b ∷ bytes) = test b
