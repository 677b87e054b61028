-- What values stand for.
use Rattle.std.specs.Prelude.{ℕ, zero, suc, ℤ, pos, negsuc, Bool, true, false, List, codes, ◌||◌}
use Rattle.std.specs.Prelude.{Option, Some, None, if◌then◌else◌}
use Rattle.std.specs.Str.{bytes_eq, is_utf8}
use Rattle.cy_text.specs.declared.tree.Value.{Value}
use Rattle.cy_text.specs.declared.tree.Value.TheVariants.{Whole, Literal, Word, Quote, Message}

-- A number by its sign and its size.
abbrev pub signed : Bool → ℕ → ℤ
signed false size = pos size
signed true zero = pos 0
signed true (suc n) = negsuc n

-- The whole number that a value is.
abbrev pub whole_of : Value → Option ℤ
whole_of (Whole negative size) = Some (signed negative size)
whole_of (Literal text) = None
whole_of (Word negative text) = None
whole_of (Quote bytes) = None
whole_of (Message fields) = None

-- Whether a word is one of three.
abbrev pub is_one_of : List ℕ → List ℕ → List ℕ → List ℕ → Bool
is_one_of word a b c = bytes_eq word a || bytes_eq word b || bytes_eq word c

-- The truth value that a word is.
abbrev pub truth_word : List ℕ → Option Bool
truth_word word =
    if is_one_of word (codes "true") (codes "True") (codes "t") then Some true
    else (if is_one_of word (codes "false") (codes "False") (codes "f") then Some false else None)

-- The truth value that a number is.
abbrev pub truth_number : ℕ → Option Bool
truth_number zero = Some false
truth_number (suc zero) = Some true
truth_number (suc (suc n)) = None

-- The truth value that a value is: nothing with a sign is one.
abbrev pub truth_of : Value → Option Bool
truth_of (Whole negative size) = if negative then None else truth_number size
truth_of (Literal text) = None
truth_of (Word negative text) = if negative then None else truth_word text
truth_of (Quote bytes) = None
truth_of (Message fields) = None

-- The text that a value is.
abbrev pub text_of : Value → Option (List ℕ)
text_of (Whole negative size) = None
text_of (Literal text) = None
text_of (Word negative text) = None
text_of (Quote bytes) = if is_utf8 bytes then Some bytes else None
text_of (Message fields) = None
