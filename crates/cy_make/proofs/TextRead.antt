-- The texts that are made are read.
use Rattle.std.proofs.Common.{◌≡◌, ◌≤◌, ◌<◌, ℕ, List, [], ◌∷◌, ◌++◌, Bool, true, false, if◌then◌else◌, refl, codes, arith, map, Ok, All}
use Rattle.std.specs.Prelude.{nat_lt}
use Rattle.std.specs.List.{AllByRecursion}
use Rattle.std.proofs.lemmas.Bool.{ltb-true}
use Rattle.std.proofs.lemmas.List.Elements.{All-append, All-cons, All-nil}
use Rattle.cy_text.specs.Fields.{Fields, Nothing, And}
use Rattle.cy_text.specs.Grammar.{depth_of}
use Rattle.cy_text.specs.Letters.{is_letter, is_word}
use Rattle.cy_text.specs.Form.{read_text, read, after_token, at_field, after_name, after_colon, at_value, placed, after_value, after_string, after_sign, finish, ends_value, all_closed}
use Rattle.cy_text.specs.Tokens.{mark_of, word_at, token_at, tokens_from}
use Rattle.cy_text.specs.Strings.{string_from, string_at}
use Rattle.cy_text.specs.Numbers.{number_at, decimal_at, zero_at, whole_at, pointed_at, value_of, exponent_len, tail_len}
use Rattle.cy_text.specs.Places.{fields_of_text}
use Rattle.cy_text.specs.Pieces.{AreAll, IsWord, letters}
use Rattle.cy_text.specs.Printable.{IsPrintable, IsPrintableHeld, SameButSpans}
use Rattle.cy_text.proofs.PrintedText.{printed_read}
use Rattle.cy_make.specs.declared.config.Config.{Config}
use Rattle.cy_make.specs.declared.config.Config.TheVariants.{Adder, Band, Last8, Late, Dag}
use Rattle.cy_make.specs.Texts.{TextsAreRead, Said, and_said, component, components, config_said, dag_fields, holds, nowhere, reader, said_by, says, suffix_of, text_of}

abbrev IsRead : List ℕ → Config → Type 0
IsRead prefix c = (fields : Fields) × (fields_of_text (text_of prefix c) ≡ Ok fields) × SameButSpans (said_by prefix c) fields

-- those that are the same for each prefix, by reading them
adder_read : (prefix : List ℕ) → IsRead prefix Adder
unfolding read_text read after_token at_field after_name after_colon at_value placed after_value after_string after_sign finish ends_value all_closed mark_of word_at token_at tokens_from string_from string_at number_at decimal_at zero_at whole_at pointed_at value_of exponent_len tail_len
adder_read prefix = (_, refl, refl)

band_read : (prefix : List ℕ) → IsRead prefix Band
unfolding read_text read after_token at_field after_name after_colon at_value placed after_value after_string after_sign finish ends_value all_closed mark_of word_at token_at tokens_from string_from string_at number_at decimal_at zero_at whole_at pointed_at value_of exponent_len tail_len
band_read prefix = (_, refl, refl)

last8_read : (prefix : List ℕ) → IsRead prefix Last8
unfolding read_text read after_token at_field after_name after_colon at_value placed after_value after_string after_sign finish ends_value all_closed mark_of word_at token_at tokens_from string_from string_at number_at decimal_at zero_at whole_at pointed_at value_of exponent_len tail_len
last8_read prefix = (_, refl, refl)

late_read : (prefix : List ℕ) → IsRead prefix Late
unfolding read_text read after_token at_field after_name after_colon at_value placed after_value after_string after_sign finish ends_value all_closed mark_of word_at token_at tokens_from string_from string_at number_at decimal_at zero_at whole_at pointed_at value_of exponent_len tail_len
late_read prefix = (_, refl, refl)

-- names and texts, each by a test of its bytes
abbrev all_pass : (ℕ → Bool) → List ℕ → Bool
all_pass test [] = true
all_pass test (b ∷ bytes) = if test b then all_pass test bytes else false

all_by : (test : ℕ → Bool) (bytes : List ℕ) → all_pass test bytes ≡ true → AreAll test bytes
all_by test [] e = tt
all_by test (b ∷ bytes) e = by_first (test b) refl e (all_by test bytes)
  where
    by_first : (t : Bool) → test b ≡ t → (if t then all_pass test bytes else false) ≡ true → (all_pass test bytes ≡ true → AreAll test bytes) → AreAll test (b ∷ bytes)
    by_first true is left rest = (is, rest left)
    by_first false is left rest = absurd cc

word_by : (b : ℕ) (bytes : List ℕ) → is_letter b ≡ true → all_pass is_word bytes ≡ true → IsWord (b ∷ bytes)
word_by b bytes first rest = letters first (all_by is_word bytes rest)

abbrev AreBytes : List ℕ → Type 0
AreBytes text = All (λ byte. byte < 256) text

bytes_by : (text : List ℕ) → all_pass (λ b. nat_lt b 256) text ≡ true → AreBytes text
bytes_by [] e = All-nil (λ b. b < 256)
bytes_by (b ∷ text) e = by_first (nat_lt b 256) refl e (bytes_by text)
  where
    by_first : (t : Bool) → nat_lt b 256 ≡ t → (if t then all_pass (λ c. nat_lt c 256) text else false) ≡ true
        → (all_pass (λ c. nat_lt c 256) text ≡ true → AreBytes text) → AreBytes (b ∷ text)
    by_first true is left rest = All-cons (λ c. c < 256) b text (ltb-true b 256 is) (rest left)
    by_first false is left rest = absurd cc

-- the DAG is printed so that it is read back
abbrev IsSaid : Said → Type 0
IsSaid s = IsWord s.name × IsPrintableHeld s.held

printable : (before : Fields) (all : List Said) → IsPrintable before → AllByRecursion IsSaid all → IsPrintable (and_said before all)
printable before [] so_far said = so_far
printable before (s ∷ rest) so_far said = printable (And before s.name nowhere s.held) rest (so_far, said.0.0, said.0.1) said.1

held : (name : List ℕ) (all : List Said) → IsWord name → AllByRecursion IsSaid all → IsSaid (holds name all)
held name all word said = (word, printable Nothing all tt said)

reader_said : (channel : List ℕ) → AreBytes channel → IsSaid (reader channel)
reader_said channel bytes = held (codes "readers") (says (codes "channel") channel ∷ []) (word_by _ _ refl refl) ((word_by _ _ refl refl, bytes), tt)

readers_said : (channels : List (List ℕ)) → AllByRecursion AreBytes channels → AllByRecursion IsSaid (map reader channels)
readers_said [] bytes = tt
readers_said (channel ∷ rest) bytes = (reader_said channel bytes.0, readers_said rest bytes.1)

component_said : (name class file : List ℕ) (channels : List (List ℕ)) → AreBytes name → AreBytes class → AreBytes file → AllByRecursion AreBytes channels → IsSaid (component name class file channels)
component_said name class file channels named classed filed bytes =
    let settings = config_said name file channels in
    let said : AllByRecursion IsSaid settings = ((word_by _ _ refl refl, named), ((word_by _ _ refl refl, filed), readers_said channels bytes)) in
    held (codes "components") (says (codes "class_name") class ∷ holds (codes "config") settings ∷ []) (word_by _ _ refl refl)
    ((word_by _ _ refl refl, classed), (held (codes "config") settings (word_by _ _ refl refl) said, tt))

components_said : (prefix : List ℕ) → AreBytes prefix → AllByRecursion IsSaid (components prefix)
components_said prefix bytes =
    let file = λ (c : Config) (e : all_pass (λ b. nat_lt b 256) (suffix_of c) ≡ true). All-append (λ b. b < 256) prefix (suffix_of c) bytes (bytes_by (suffix_of c) e) in
    let adder = component_said (codes "adder") (codes "SumComponent") (prefix ++ suffix_of Adder) (codes "/a" ∷ codes "/b" ∷ []) (bytes_by (codes "adder") refl) (bytes_by (codes "SumComponent") refl) (file Adder refl) (bytes_by (codes "/a") refl, (bytes_by (codes "/b") refl, tt)) in
    let band = component_said (codes "band") (codes "FilterComponent") (prefix ++ suffix_of Band) (codes "/sum" ∷ []) (bytes_by (codes "band") refl) (bytes_by (codes "FilterComponent") refl) (file Band refl) (bytes_by (codes "/sum") refl, tt) in
    let last8 = component_said (codes "last8") (codes "WindowComponent") (prefix ++ suffix_of Last8) (codes "/band" ∷ []) (bytes_by (codes "last8") refl) (bytes_by (codes "WindowComponent") refl) (file Last8 refl) (bytes_by (codes "/band") refl, tt) in
    let late = component_said (codes "late") (codes "HoldComponent") (prefix ++ suffix_of Late) (codes "/a" ∷ []) (bytes_by (codes "late") refl) (bytes_by (codes "HoldComponent") refl) (file Late refl) (bytes_by (codes "/a") refl, tt) in
    (adder, (band, (last8, (late, tt))))

dag_printable : (prefix : List ℕ) → AreBytes prefix → IsPrintable (dag_fields prefix)
unfolding dag_fields
dag_printable prefix bytes =
    let inside = says (codes "module_library") (codes "own") ∷ components prefix in
    let said : AllByRecursion IsSaid inside = ((word_by _ _ refl refl, bytes_by (codes "own") refl), components_said prefix bytes) in
    printable Nothing (holds (codes "module_config") inside ∷ []) tt (held (codes "module_config") inside (word_by _ _ refl refl) said, tt)

dag_flat : (prefix : List ℕ) → depth_of (dag_fields prefix) ≤ 64
unfolding dag_fields
dag_flat prefix = omega arith

dag_read : (prefix : List ℕ) → AreBytes prefix → IsRead prefix Dag
dag_read prefix bytes = printed_read (dag_fields prefix) (dag_printable prefix bytes) (dag_flat prefix)

pub texts_read : TextsAreRead
texts_read prefix Adder bytes = adder_read prefix
texts_read prefix Band bytes = band_read prefix
texts_read prefix Last8 bytes = last8_read prefix
texts_read prefix Late bytes = late_read prefix
texts_read prefix Dag bytes = dag_read prefix bytes
