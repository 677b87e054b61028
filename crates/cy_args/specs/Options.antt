-- Words behind the name of a command, by a table of what it knows: words at their places, and
-- options.
use Rattle.std.specs.Prelude.{ℕ, ◌≡◌, ◌&&◌, Bool, true, false, if◌then◌else◌, List, [], ◌∷◌}
use Rattle.std.specs.Prelude.{◌++◌, find, flat_map, length, take, Option, Some, option_map}
use Rattle.std.specs.Prelude.{option_to_list}
use Rattle.std.specs.List.{list_all}
use Rattle.std.specs.Str.{bytes_eq}
use Rattle.cy_args.specs.Words.{is_word}

-- How a command knows a word: by its place, or as an option, with a value or without one, which is
-- a flag.
pub data Kind : Type 0 where
  Place : Kind
  Value : Kind
  Flag : Kind

-- A row of the table. The places stand first, in their order.
pub record Known : Type 0 where
  pub name : List ℕ
  pub kind : Kind

abbrev pub placed : List ℕ → Known
placed name = record { name = name; kind = Place }

abbrev pub valued : List ℕ → Known
valued name = record { name = name; kind = Value }

abbrev pub flagged : List ℕ → Known
flagged name = record { name = name; kind = Flag }

-- What a name is, where the command knows it.
abbrev pub kind_of : List Known → List ℕ → Option Kind
kind_of known name = option_map (λ k. k.kind) (find (λ k. bytes_eq k.name name) known)

abbrev pub is_place : Option Kind → Bool
is_place (Some Place) = true
is_place has = false

abbrev pub is_valued : Option Kind → Bool
is_valued (Some Value) = true
is_valued has = false

abbrev pub is_flag : Option Kind → Bool
is_flag (Some Flag) = true
is_flag has = false

-- What the words give: the value under a name. That of a flag is empty.
abbrev pub Options : Type 0
Options = List ℕ → Option (List ℕ)

-- What stands among the words: a value at its place; a flag; a name, and its value as the next
-- word; or both in one word, with a `=` between.
pub data Given : Type 0 where
  Filled : (name value : List ℕ) → Given
  Alone : (name : List ℕ) → Given
  Apart : (name value : List ℕ) → Given
  Joined : (name value : List ℕ) → Given

abbrev pub hyphened : List ℕ → List ℕ
hyphened name = 45 ∷ 45 ∷ name

abbrev pub spelled : Given → List (List ℕ)
spelled (Filled name value) = value ∷ []
spelled (Alone name) = hyphened name ∷ []
spelled (Apart name value) = hyphened name ∷ value ∷ []
spelled (Joined name value) = (hyphened name ++ 61 ∷ value) ∷ []

abbrev pub name_in : Given → List ℕ
name_in (Filled name value) = name
name_in (Alone name) = name
name_in (Apart name value) = name
name_in (Joined name value) = name

abbrev pub value_in : Given → List ℕ
value_in (Filled name value) = value
value_in (Alone name) = []
value_in (Apart name value) = value
value_in (Joined name value) = value

-- Whether the command knows what is given as that, with a value that may stand as a word.
abbrev pub is_known : List Known → Given → Bool
is_known known (Filled name value) = is_place (kind_of known name) && is_word value
is_known known (Alone name) = is_flag (kind_of known name)
is_known known (Apart name value) = is_valued (kind_of known name) && is_word value
is_known known (Joined name value) = is_valued (kind_of known name) && is_word value

-- The names of the places, and of those that are filled.
abbrev pub places : List Known → List (List ℕ)
places [] = []
places (k ∷ known) = if is_place (Some k.kind) then k.name ∷ places known else []

abbrev pub filled_in : Given → List (List ℕ)
filled_in (Filled name value) = name ∷ []
filled_in (Alone name) = []
filled_in (Apart name value) = []
filled_in (Joined name value) = []

abbrev pub is_filled : Given → Bool
is_filled (Filled name value) = true
is_filled (Alone name) = false
is_filled (Apart name value) = false
is_filled (Joined name value) = false

-- The values that are given under a name, in their order.
abbrev pub values_under : List ℕ → Given → List (List ℕ)
values_under name given = if bytes_eq (name_in given) name then value_in given ∷ [] else []

-- The words are what a command knows: all places in their order, which stand first, and options in
-- any order behind them. Each name that has a value here is given once, with this value, and no
-- other is given.
pub record AreOptions (known : List Known) (words : List (List ℕ)) (o : Options) : Type 0 where
  pub given : List Given
  pub are_known : list_all (is_known known) given ≡ true
  pub are_spelled : words ≡ flat_map spelled given
  pub are_placed : flat_map filled_in given ≡ places known
  pub stand_first : list_all is_filled (take (length (places known)) given) ≡ true
  pub values : (name : List ℕ) → flat_map (values_under name) given ≡ option_to_list (o name)
