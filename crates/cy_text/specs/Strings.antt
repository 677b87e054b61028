-- The strings of the text form.
use Rattle.std.specs.Prelude.{ℕ, zero, suc, ◌+◌, ◌==◌, nat_lt, ◌||◌, Bool, List, [], ◌∷◌, ◌++◌}
use Rattle.std.specs.Prelude.{take, Option, Some, None, Result, Ok, Err, if◌then◌else◌}
use Rattle.std.specs.List.{prefix_len}
use Rattle.std.specs.Char.{encode_utf8}
use Rattle.cy_text.specs.Letters.{is_octal, is_hex, is_between}
use Rattle.cy_text.specs.Numbers.{value_of}
use Rattle.cy_text.specs.declared.escape.Escape.{Escape}
use Rattle.cy_text.specs.declared.escape.Escape.TheVariants.{Byte, Char}
use Rattle.cy_text.specs.declared.error.BadKind.TheVariants as kind
use Rattle.cy_text.specs.declared.fault.Fault.{Fault}
use Rattle.cy_text.specs.declared.fault.Fault.TheVariants.{Bad}

-- A letter or a mark behind a backslash, and the byte that it stands for.
unfoldable pub simple_escape : ℕ → Option ℕ
simple_escape b =
    if b == 97 then Some 7 else (if b == 98 then Some 8 else (if b == 102 then Some 12 else
    (if b == 110 then Some 10
    else (if b == 114 then Some 13 else (if b == 116 then Some 9 else (if b == 118 then Some 11
    else (if b == 63 then Some 63 else (if b == 92 then Some 92 else (if b == 39 then Some 39 else
    (if b == 34 then Some 34 else None))))))))))

abbrev pub one_byte : Option ℕ → ℕ → Option (Escape × ℕ)
one_byte None len = None
one_byte (Some n) len = if nat_lt n 256 then Some (Byte n, len) else None

-- A character's code is below the surrogates or above them, and at most 10FFFF.
abbrev pub is_char : ℕ → Bool
is_char n = nat_lt n 0xD800 || is_between 0xE000 0x10FFFF n

abbrev pub one_char : Option ℕ → ℕ → Option (Escape × ℕ)
one_char None len = None
one_char (Some n) len = if is_char n then Some (Char n, len) else None

-- One to three octal digits, of value at most 255.
unfoldable pub octal_escape : List ℕ → Option (Escape × ℕ)
octal_escape bytes = let count = prefix_len is_octal (take 3 bytes) in one_byte
    (value_of 8 (take count bytes)) count

-- One or two hexadecimal digits behind an `x`.
unfoldable pub hex_escape : List ℕ → Option (Escape × ℕ)
hex_escape bytes =
    let count = prefix_len is_hex (take 2 bytes) in
    if count == 0 then None else one_byte (value_of 16 (take count bytes)) (1 + count)

-- So many hexadecimal digits behind a `u`: a character, which no surrogate is, and nothing above
-- 10FFFF.
unfoldable pub char_escape : ℕ → List ℕ → Option (Escape × ℕ)
char_escape count bytes =
    if prefix_len is_hex (take count bytes) == count then one_char (value_of 16 (take count bytes))
    (1 + count) else None

-- The escape whose backslash stands before these bytes, and how many of them it takes.
unfoldable pub escape_at : List ℕ → Option (Escape × ℕ)
escape_at [] = None
escape_at (b ∷ bytes) =
    if is_octal b then octal_escape (b ∷ bytes)
    else (if b == 120 then hex_escape bytes
    else (if b == 117 then char_escape 4 bytes
    else (if b == 85 then char_escape 8 bytes
    else one_byte (simple_escape b) 1)))

-- The bytes that an escape stands for: a character as UTF-8.
abbrev pub escape_bytes : Escape → List ℕ
escape_bytes (Byte b) = b ∷ []
escape_bytes (Char c) = encode_utf8 c

-- What has come, with what an escape adds, and how many bytes stand behind its backslash, which
-- stands at `at`.
abbrev pub with_escape : List ℕ → ℕ → Option (Escape × ℕ) → Result (List ℕ × ℕ) Fault
with_escape out at None = Err (Bad kind.Escape at)
with_escape out at (Some found) = Ok (out ++ escape_bytes found.0, found.1)

unfoldable pub escaped : List ℕ → ℕ → List ℕ → Result (List ℕ × ℕ) Fault
escaped out at bytes = with_escape out at (escape_at bytes)

-- Goes on where there is no fault.
abbrev pub and_then : {A B : Type 0} → Result A Fault → (A → Result B Fault) → Result B Fault
and_then (Ok x) go = go x
and_then (Err fault) go = Err fault

-- The rest of a string that began at `start` with `quote`, and has given `out` so far: its bytes
-- and the place behind it, or its first fault. The bytes stand at `at`, and the first `passed` of
-- them belong to an escape that was read.
unfoldable pub string_from : ℕ → ℕ → List ℕ → ℕ → ℕ → List ℕ → Result (List ℕ × ℕ) Fault
string_from start quote out at passed [] = Err (Bad kind.Quote start)
string_from start quote out at (suc passed) (b ∷ bytes) = string_from start quote out
    (at + 1) passed bytes
string_from start quote out at zero (b ∷ bytes) =
    if b == quote then Ok (out, at + 1)
    else (if b == 10 then Err (Bad kind.Quote start)
    else (if b == 92
    then and_then (escaped out at bytes) (λ found. string_from start quote found.0
    (at + 1) found.1 bytes)
    else string_from start quote (out ++ b ∷ []) (at + 1) 0 bytes))

-- The string that begins with these bytes, which stand at `start`.
unfoldable pub string_at : ℕ → List ℕ → Result (List ℕ × ℕ) Fault
string_at start [] = Err (Bad kind.Quote start)
string_at start (quote ∷ bytes) = string_from start quote [] (start + 1) 0 bytes
