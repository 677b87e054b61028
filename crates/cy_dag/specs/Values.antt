-- Where a component file says that the values of messages are: a message `value` for each channel
-- that it names.
use Rattle.std.specs.Prelude.{ℕ, zero, suc, ◌==◌, ◌^◌, ◌&&◌, ◌||◌, nat_le, nat_lt, Bool}
use Rattle.std.specs.Prelude.{true, false, if◌then◌else◌, List, [], ◌∷◌, codes, length, map}
use Rattle.std.specs.Prelude.{slice_get, Option, Some, None, is_none, unwrap_or, option_and_then}
use Rattle.std.specs.List.{list_any}
use Rattle.cy_text.specs.Fields.{Fields, Held, Whole, Literal, Word, Quote, Message}
use Rattle.cy_config.specs.Lookups.{all_under, last_under, messages_under}
use Rattle.cy_config.specs.Refusals.{first_of}
use Rattle.cy_value.specs.Names.{kind_named}
use Rattle.cy_value.specs.declared.form.ValueForm.{ValueForm}
use Rattle.cy_value.specs.declared.kind.ScalarKind.{ScalarKind}
use Rattle.cy_value.specs.declared.kind.ScalarKind.TheVariants.{Float, Double}
use Rattle.cy_value.specs.declared.values.ChannelValue.{ChannelValue}
use Rattle.cy_dag.specs.DagFile.{count_of, is_empty, refuse_if, text_in}
use Rattle.cy_dag.specs.DagFile.{first_found}
use Rattle.cy_dag.specs.declared.error.DagError.{DagError}
use Rattle.cy_dag.specs.declared.error.DagError.TheVariants.{Missing, NotKind, NotScale}
use Rattle.cy_dag.specs.declared.error.DagError.TheVariants.{PathLength, PathNumber, TooManyValues}

-- The whole number that a value is, where it has no sign.
abbrev pub unsigned_of : Held → Option ℕ
unsigned_of (Whole negative size) = if negative then None else Some size
unsigned_of (Literal text) = None
unsigned_of (Word negative text) = None
unsigned_of (Quote bytes) = None
unsigned_of (Message fields) = None

-- The number of a field: 1 to 2 ^ 29 - 1, as in the Protocol Buffers.
abbrev pub as_field : ℕ → Option ℕ
as_field n = if nat_le 1 n && nat_le n 536870911 then Some n else None

abbrev pub field_number : Held → Option ℕ
field_number held = option_and_then as_field (unsigned_of held)

-- The numbers of a path, in the order of the file.
abbrev pub path_in : Fields → List ℕ
path_in value = map (λ held. unwrap_or (field_number held) 0) (all_under (codes "path") value)

-- The kind that a value of `kind` names: it is a word with no sign.
abbrev pub kind_of_held : Held → Option ScalarKind
kind_of_held (Whole negative size) = None
kind_of_held (Literal text) = None
kind_of_held (Word negative text) = if negative then None else kind_named text
kind_of_held (Quote bytes) = None
kind_of_held (Message fields) = None

abbrev pub kind_given : Fields → Option ScalarKind
kind_given value = option_and_then kind_of_held (last_under (codes "kind") value)

abbrev pub scalar_in : Fields → ScalarKind
scalar_in value = unwrap_or (kind_given value) Double

-- Whether a number is a power of ten with an exponent below a bound.
abbrev pub is_power_below : (bound n : ℕ) → Bool
is_power_below zero n = false
is_power_below (suc exponent) n = is_power_below exponent n || 10 ^ exponent == n

-- The powers of ten from 1 to 10 ^ 19, which are those that 64 bits have room for.
unfoldable pub is_power_of_ten : ℕ → Bool
is_power_of_ten n = is_power_below 20 n

-- The scales of a kind: powers of ten for numbers with a point, and 1 alone for all others.
abbrev pub has_point : ScalarKind → Bool
has_point Float = true
has_point Double = true
has_point _ = false

abbrev pub is_scale : ScalarKind → ℕ → Bool
is_scale kind n = if has_point kind then is_power_of_ten n else n == 1

-- The scale that a file gives a kind: it is 1 where the file has none.
abbrev pub scale_by : Option Held → Option ℕ
scale_by None = Some 1
scale_by (Some held) = unsigned_of held

abbrev pub scale_given : ScalarKind → Fields → Option ℕ
scale_given kind value = option_and_then (λ n. if is_scale kind n then Some n else None)
    (scale_by (last_under (codes "scale") value))

abbrev pub scale_in : Fields → ℕ
scale_in value = unwrap_or (scale_given (scalar_in value) value) 1

-- What a message says of a channel.
abbrev pub form_in : Fields → ValueForm
form_in value = record {
  path = path_in value;
  kind = scalar_in value;
  scale = scale_in value;
}

abbrev pub channel_value : Fields → ChannelValue
channel_value value = record { channel = text_in (codes "channel") value; form = form_in value }

-- What a file says of channels, in its order.
abbrev pub values_in : Fields → List ChannelValue
values_in file = map channel_value (messages_under (codes "value") file)

-- Why the path of a value is refused, by the number of its component and its place in the file: it
-- has not 1 to 16 numbers, or one is not the number of a field.
abbrev pub is_path_length : ℕ → Bool
is_path_length count = nat_le 1 count && nat_le count 16

abbrev pub path_refusal : (component place : ℕ) → List Held → Option DagError
path_refusal component place path = first_of (
    (if is_path_length (length path) then None
    else Some (PathLength component place (count_of (length path))))
    ∷ refuse_if (list_any (λ held. is_none (field_number held)) path) (PathNumber component place)
    ∷ [])

-- Why a value has no channel, or no kind.
abbrev pub named_refusal : (component : ℕ) → Fields → Option DagError
named_refusal component value = first_of (
    refuse_if (is_empty (text_in (codes "channel") value)) (Missing component (codes "channel"))
    ∷ refuse_if (is_none (last_under (codes "kind") value)) (Missing component (codes "kind"))
    ∷ [])

-- The first cause for which a value is refused.
abbrev pub value_refusal : (component place : ℕ) → Fields → Option DagError
value_refusal component place value = first_of (
    named_refusal component value
    ∷ path_refusal component place (all_under (codes "path") value)
    ∷ refuse_if (is_none (kind_given value)) (NotKind component place)
    ∷ refuse_if (is_none (scale_given (scalar_in value) value)) (NotScale component place)
    ∷ [])

-- The first cause for which one of some values is refused.
abbrev pub refusal_at : (component : ℕ) → List Fields → ℕ → Option DagError
refusal_at component values place =
    option_and_then (value_refusal component place) (slice_get values place)

unfoldable pub each_refusal : (component : ℕ) → List Fields → Option DagError
each_refusal component values = first_found (refusal_at component values) (length values)

-- The first cause for which the values of a file are refused: there are more than 256, or one is
-- refused.
abbrev pub messages_refusal : (component : ℕ) → List Fields → Option DagError
messages_refusal component values = first_of (
    refuse_if (nat_lt 256 (length values)) (TooManyValues (count_of (length values)))
    ∷ each_refusal component values
    ∷ [])

abbrev pub file_refusal : (component : ℕ) → Fields → Option DagError
file_refusal component file = messages_refusal component (messages_under (codes "value") file)
