-- The options that say which messages are let through, and the numbers and lists that stand there.
use Rattle.std.specs.Prelude.{ℕ, ◌+◌, ◌*◌, ◌-◌, ◌^◌, ◌==◌, ◌&&◌, ◌||◌, nat_le, nat_lt, not}
use Rattle.std.specs.Prelude.{Bool, true, if◌then◌else◌, List, [], ◌∷◌, length, Option, Some}
use Rattle.std.specs.Prelude.{None, unwrap_or, codes}
use Rattle.std.specs.List.{list_all, slice_split}
use Rattle.std.specs.Option.{option_map}
use Rattle.cy_msg.specs.declared.filter.Filter.{Filter}
use Rattle.cy_args.specs.Options.{Options}

-- One step after another: the first that fails stands.
infixl 10 ◌>>=◌
abbrev pub ◌>>=◌ : {A B : Type 0} → Option A → (A → Option B) → Option B
(Some x) >>= f = f x
None >>= f = None

-- A number: 1 to 20 decimal digits of a value below 2 ^ 64. The value of digits behind ones of some
-- value.
abbrev pub is_digit : ℕ → Bool
is_digit b = nat_le 48 b && nat_le b 57

abbrev pub with_digit : ℕ → ℕ → Option ℕ
with_digit value d =
    if is_digit d && nat_lt (value * 10 + (d - 48)) (2 ^ 64) then Some (value * 10 + (d - 48))
    else None

abbrev pub digits_from : ℕ → List ℕ → Option ℕ
digits_from value [] = Some value
digits_from value (d ∷ digits) = with_digit value d >>= λ v. digits_from v digits

unfoldable pub spelled_number : List ℕ → Option ℕ
spelled_number text =
    if length text == 0 || nat_lt 20 (length text) then None else digits_from 0 text

abbrev pub number_or : ℕ → Option (List ℕ) → Option ℕ
number_or absent None = Some absent
number_or absent (Some text) = spelled_number text

-- A list of names: these stand with single commas between, and none is empty.
abbrev pub names_in : List ℕ → List (List ℕ)
names_in text = slice_split (λ b. b == 44) text

unfoldable pub is_list : List ℕ → Bool
is_list text = list_all (λ name. not (length name == 0)) (names_in text)

abbrev pub is_list_or_none : Option (List ℕ) → Bool
is_list_or_none None = true
is_list_or_none (Some text) = is_list text

-- All messages.
abbrev pub all_messages : Filter
all_messages = record { only = None; drop = []; begin = 0; end = 2 ^ 64 - 1 }

-- What the options say, where their times are numbers. Where none is given all messages are let
-- through.
abbrev pub filter_given : Options → Option Filter
filter_given o = do
  begin ← number_or 0 (o (codes "begin"))
  end ← number_or (2 ^ 64 - 1) (o (codes "end"))
  Some record {
    only = option_map names_in (o (codes "channels"));
    drop = unwrap_or (option_map names_in (o (codes "drop"))) [];
    begin = begin;
    end = end;
  }

-- What they ask for, with lists that are lists.
abbrev pub are_lists : Options → Bool
are_lists o = is_list_or_none (o (codes "channels")) && is_list_or_none (o (codes "drop"))

unfoldable pub filter_asked : Options → Option Filter
filter_asked o = if are_lists o then filter_given o else None
