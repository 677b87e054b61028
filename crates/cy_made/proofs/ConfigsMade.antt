-- The component files that are made are accepted, and what they say.
use Rattle.std.proofs.Common.{◌≡◌, ℕ, pos, List, [], Ok, codes, refl}
use Rattle.std.specs.Prelude.{negsuc}
use Rattle.cy_text.specs.Fields.{Fields}
use Rattle.cy_text.specs.Form.{read_text, read, after_token, at_field, after_name, after_colon, at_value, placed, after_value, after_string, after_sign, finish, ends_value, all_closed}
use Rattle.cy_text.specs.Tokens.{mark_of, word_at, token_at, tokens_from}
use Rattle.cy_text.specs.Strings.{string_from, string_at}
use Rattle.cy_text.specs.Numbers.{number_at, decimal_at, zero_at, whole_at, pointed_at, value_of, exponent_len, tail_len}
use Rattle.cy_text.specs.Places.{fields_of_text}
use Rattle.cy_fuse.specs.declared.overflow.Overflow.TheVariants.{Newest}
use Rattle.cy_comp.specs.Options.{options_with}
use Rattle.cy_comp.specs.declared.kind.Kind.{Kind}
use Rattle.cy_comp.specs.declared.kind.Kind.TheVariants as kind
use Rattle.cy_dag.specs.Values.{each_refusal}
use Rattle.cy_dag.specs.Classes.{class_named}
use Rattle.cy_dag.specs.declared.config.Config as dag
use Rattle.cy_setup.specs.Configuration.{config_by}
use Rattle.cy_make.specs.declared.config.Config.TheVariants.{Adder, Band, Last8, Late}
use Rattle.cy_make.specs.Texts.{text_of}
use Rattle.std.specs.Str.{is_utf8, chars}

abbrev pub says_of : Kind → List ℕ → dag.Config
says_of k out = record { kind = k; overflow = Newest; out = out; options = options_with []; unknown = [] }

abbrev pub sums : dag.Config
sums = says_of kind.Sum (codes "/sum")

abbrev pub filters : dag.Config
filters = says_of (kind.Filter (negsuc 1999) (pos 500)) (codes "/band")

abbrev pub averages : dag.Config
averages = says_of (kind.Window 8) (codes "/win")

abbrev pub holds_back : dag.Config
holds_back = says_of (kind.Hold 5000000) (codes "/late")

-- by reading each, and judging its fields
abbrev pub IsTaken : (component : ℕ) (class text : List ℕ) → dag.Config → Type 0
IsTaken component class text config = (fields : Fields) × (fields_of_text text ≡ Ok fields) × (config_by component (class_named class) fields ≡ Ok config)

pub adder_taken : (prefix : List ℕ) → IsTaken 0 (codes "SumComponent") (text_of prefix Adder) sums
unfolding each_refusal is_utf8 chars lib.Utf8.encode read_text read after_token at_field after_name after_colon at_value placed after_value after_string after_sign finish ends_value all_closed mark_of word_at token_at tokens_from string_from string_at number_at decimal_at zero_at whole_at pointed_at value_of exponent_len tail_len
adder_taken prefix = (_, refl, refl)

pub band_taken : (prefix : List ℕ) → IsTaken 1 (codes "FilterComponent") (text_of prefix Band) filters
unfolding each_refusal is_utf8 chars lib.Utf8.encode read_text read after_token at_field after_name after_colon at_value placed after_value after_string after_sign finish ends_value all_closed mark_of word_at token_at tokens_from string_from string_at number_at decimal_at zero_at whole_at pointed_at value_of exponent_len tail_len
band_taken prefix = (_, refl, refl)

pub last8_taken : (prefix : List ℕ) → IsTaken 2 (codes "WindowComponent") (text_of prefix Last8) averages
unfolding each_refusal is_utf8 chars lib.Utf8.encode read_text read after_token at_field after_name after_colon at_value placed after_value after_string after_sign finish ends_value all_closed mark_of word_at token_at tokens_from string_from string_at number_at decimal_at zero_at whole_at pointed_at value_of exponent_len tail_len
last8_taken prefix = (_, refl, refl)

pub late_taken : (prefix : List ℕ) → IsTaken 3 (codes "HoldComponent") (text_of prefix Late) holds_back
unfolding each_refusal is_utf8 chars lib.Utf8.encode read_text read after_token at_field after_name after_colon at_value placed after_value after_string after_sign finish ends_value all_closed mark_of word_at token_at tokens_from string_from string_at number_at decimal_at zero_at whole_at pointed_at value_of exponent_len tail_len
late_taken prefix = (_, refl, refl)
