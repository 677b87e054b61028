-- How the code reads words: what they give, one after another, and then the command that they ask
-- for.
use Rattle.std.specs.Prelude.{ℕ, ◌+◌, ◌==◌, Bool, true, if◌then◌else◌, not, List, [], ◌∷◌}
use Rattle.std.specs.Prelude.{take, drop, Option, Some, None, is_some, option_and_then}
use Rattle.std.specs.List.{position}
use Rattle.std.specs.Option.{option_map}
use Rattle.std.specs.Str.{bytes_eq}
use Rattle.clap.specs.Lexer.{strip_byte}
use Rattle.cy_args.specs.Command.{Command, Play, form_of}
use Rattle.cy_args.specs.Options.{Alone, Apart, Given, Joined, Known, Options, Filled, is_known}
use Rattle.cy_args.specs.Options.{is_place, is_valued, kind_of, name_in, value_in}
use Rattle.cy_args.specs.FilterWords.{◌>>=◌}

abbrev pub no_options : Options
no_options = λ name. None

-- One more value, and one where there was none.
abbrev pub put : List ℕ → List ℕ → Options → Options
put name value o = λ other. if bytes_eq name other then Some value else o other

unfoldable pub put_once : List ℕ → List ℕ → Options → Option Options
put_once name value o = if is_some (o name) then None else Some (put name value o)

unfoldable pub put_known : List Known → List ℕ → List ℕ → Options → Option Options
put_known known name value o =
    if is_some (kind_of known name) then put_once name value o else None

-- What was given, with one thing more.
unfoldable pub given_met : List Known → Given → Options → Option Options
given_met known given o =
    if is_known known given then put_once (name_in given) (value_in given) o else None

-- Words one after another: what they give, the name whose value is the next word, where there is
-- such a name, and the rows of the table from the next place on.
pub record Reading : Type 0 where
  pub options : Options
  pub pending : Option (List ℕ)
  pub left : List Known

abbrev pub settled : List Known → Option Options → Option Reading
settled left options =
    option_map (λ o. record { options = o; pending = None; left = left }) options

-- A word that is an option, behind its hyphens: a name, alone or before its value; or a name and a
-- value with `=` between.
unfoldable pub name_met : List Known → List ℕ → List Known → Options → Option Reading
name_met known name left o =
    if is_valued (kind_of known name)
    then Some record { options = o; pending = Some name; left = left }
    else settled left (given_met known (Alone name) o)

abbrev pub parts_met : List Known → List ℕ → Option ℕ → List Known → Options → Option Reading
parts_met known rest None left o = name_met known rest left o
parts_met known rest (Some i) left o =
    settled left (given_met known (Joined (take i rest) (drop (i + 1) rest)) o)

abbrev pub behind_hyphens : List ℕ → Option (List ℕ)
behind_hyphens word = option_and_then (strip_byte 45) (strip_byte 45 word)

-- Any other word stands at the next place.
unfoldable pub place_met : List Known → List ℕ → List Known → Options → Option Reading
place_met known word [] o = None
place_met known word (k ∷ left) o =
    if is_place (Some k.kind) then settled left (given_met known (Filled k.name word) o) else None

-- No place is left.
abbrev pub is_full : List Known → Bool
is_full [] = true
is_full (k ∷ left) = not (is_place (Some k.kind))

-- An option stands behind all places.
abbrev pub rest_met : List Known → List ℕ → Option (List ℕ) → List Known → Options → Option Reading
rest_met known word None left o = place_met known word left o
rest_met known word (Some rest) left o =
    if is_full left then parts_met known rest (position (λ b. b == 61) rest) left o else None

unfoldable pub option_met : List Known → List ℕ → List Known → Options → Option Reading
option_met known word left o = rest_met known word (behind_hyphens word) left o

abbrev pub read_word : List Known → List ℕ → Options → Option (List ℕ) → List Known → Option Reading
read_word known word o None left = option_met known word left o
read_word known word o (Some name) left = settled left (given_met known (Apart name word) o)

abbrev pub read_words : List Known → List (List ℕ) → Reading → Option Reading
read_words known [] r = Some r
read_words known (word ∷ words) r =
    read_word known word r.options r.pending r.left >>= read_words known words

-- What the words give, if they are what the command knows: no value and no place is wanting.
abbrev pub options_at_end : Options → Option (List ℕ) → List Known → Option Options
options_at_end o None left = if is_full left then Some o else None
options_at_end o (Some name) left = None

abbrev pub options_read : Reading → Option Options
options_read r = options_at_end r.options r.pending r.left

abbrev pub read_options : List Known → List (List ℕ) → Option Options
read_options known words =
    read_words known words (record { options = no_options; pending = None; left = known })
    >>= options_read

-- What values ask for behind a name, by what its form knows.
abbrev pub asked_of : List ℕ → (List Known → Options) → Option Command
asked_of name values = form_of name >>= λ f. f.asked (values f.known)

-- What the words ask for: by the form that the first one names.
abbrev pub command_of : List (List ℕ) → Option Command
command_of [] = None
command_of (name ∷ words) = form_of name >>= λ f. read_options f.known words >>= f.asked

-- What they ask for where there are no threads: a `play` is then serial.
abbrev pub still_one : Command → Option Command
still_one (Play words) = if words.serial then Some (Play words) else None
still_one c = Some c

abbrev pub still_command_of : List (List ℕ) → Option Command
still_command_of words = option_and_then still_one (command_of words)
