-- Whether bytes are a text.
use Rattle.std.proofs.Common.{ℕ, ◌≡◌, List, Bool, true, false, cond, Some, None, refl}
use Rattle.std.specs.Str.{IsUtf8, is_utf8}
use Rattle.std.proofs.lemmas.Str.{IsUtf8-from_is_utf8, is_utf8-from_IsUtf8}

-- A test of it is true of a text
pub text_found : (bs : List ℕ) → IsUtf8 bs → Some bs ≡ cond (is_utf8 bs) (Some bs) None
text_found bs h = rw (is_utf8-from_IsUtf8 bs h) refl

not_true : (b : Bool) → (b ≡ true → ⊥) → b ≡ false
not_true true h = absurd (h refl)
not_true false h = refl

-- and false of anything else.
pub is_no_text : (bs : List ℕ) → ¬ (IsUtf8 bs) → is_utf8 bs ≡ false
is_no_text bs h = not_true (is_utf8 bs) (λ e. h (IsUtf8-from_is_utf8 bs e))

pub no_text_found : (bs : List ℕ) → ¬ (IsUtf8 bs) → None ≡ cond (is_utf8 bs) (Some bs) None
no_text_found bs h = rw (is_no_text bs h) refl

pub is_a_text : (bs : List ℕ) → IsUtf8 bs → is_utf8 bs ≡ true
is_a_text bs h = is_utf8-from_IsUtf8 bs h
