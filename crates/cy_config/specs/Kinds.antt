-- What values are of a kind.
use Rattle.std.specs.Prelude.{◌^◌, nat_lt, ℕ, ℤ, int_le, Bool, true, false, ◌&&◌, List, Option}
use Rattle.std.specs.Prelude.{Some, None, is_some, if◌then◌else◌, negsuc, pos}
use Rattle.std.specs.Str.{is_utf8}
use Rattle.cy_text.specs.Fields.{Fields, Held}
use Rattle.cy_text.specs.Fields.{Whole, Literal, Word, Quote, Message}
use Rattle.cy_text.specs.Reads.{signed}
use Rattle.cy_config.specs.declared.field.Kind.{Kind}
use Rattle.cy_config.specs.declared.field.Kind.TheVariants as kind

-- The text that a value is: a string in UTF-8.
abbrev pub text_of : Held → Option (List ℕ)
text_of (Whole negative size) = None
text_of (Literal text) = None
text_of (Word negative text) = None
text_of (Quote bytes) = if is_utf8 bytes then Some bytes else None
text_of (Message fields) = None

-- The whole number that a value is.
abbrev pub whole_of : Held → Option ℤ
whole_of (Whole negative size) = Some (signed negative size)
whole_of (Literal text) = None
whole_of (Word negative text) = None
whole_of (Quote bytes) = None
whole_of (Message fields) = None

-- A whole number as a u32, and as an i32, where it is one.
abbrev pub u32_of : ℤ → Option ℕ
u32_of (pos n) = if nat_lt n (2 ^ 32) then Some n else None
u32_of (negsuc n) = None

abbrev pub i32_of : ℤ → Option ℤ
i32_of (pos n) = if nat_lt n (2 ^ 31) then Some (pos n) else None
i32_of (negsuc n) = if nat_lt n (2 ^ 31) then Some (negsuc n) else None

-- The fields of the message that a value is.
abbrev pub message_of : Held → Option Fields
message_of (Whole negative size) = None
message_of (Literal text) = None
message_of (Word negative text) = None
message_of (Quote bytes) = None
message_of (Message fields) = Some fields

-- Whether a number, where there is one, is in a range.
abbrev pub is_within : ℤ → ℤ → Option ℤ → Bool
is_within least most None = false
is_within least most (Some n) = int_le least n && int_le n most

-- Whether a value is of a kind. A message is of the kind of any message, whatever stands in it.
abbrev pub is_of_kind : {M : Type 0} → Kind M → Held → Bool
is_of_kind (kind.Message m) held = is_some (message_of held)
is_of_kind kind.AnyMessage held = is_some (message_of held)
is_of_kind kind.Text held = is_some (text_of held)
is_of_kind (kind.Whole least most) held = is_within least most (whole_of held)
is_of_kind kind.Anything held = true

-- The message that is looked into, where a value of a kind is one: what may stand in it, and what
-- does.
abbrev pub inside_of : {M : Type 0} → Kind M → Held → Option (M × Fields)
inside_of (kind.Message m) (Message fields) = Some (m, fields)
inside_of k held = None
