-- The texts of the configuration files are short where their prefix is.
use Rattle.std.proofs.Common.{◌≡◌, ℕ, ◌+◌, ◌*◌, ◌≤◌, ◌==◌, ◌||◌, List, [], ◌∷◌, ◌++◌, length, codes, Bool, true, false, if◌then◌else◌, flat_map, ap, arith, length-append, nat_lt, lit≤}
use Rattle.std.specs.Str.{is_utf8}
use Rattle.cy_msg.specs.Quoted.{octal, escaped, quoted}
use Rattle.cy_text.specs.Fields.{Fields, Held, Nothing, And, Whole, Literal, Word, Quote, Message}
use Rattle.cy_text.specs.Printed.{fields_text, held_text}
use Rattle.cy_make.specs.declared.config.Config.{Config}
use Rattle.cy_make.specs.declared.config.Config.TheVariants.{Adder, Band, Last8, Late, Dag}
use Rattle.cy_make.specs.Texts.{dag_fields, longest_config, longest_prefix, suffix_of, text_of}

chosen_short : (t : Bool) (x y : List ℕ) → length x ≤ 4 → length y ≤ 4 → length (if t then x else y) ≤ 4
chosen_short true x y one other = one
chosen_short false x y one other = other

-- a byte takes four at most
escaped_short : (is_text : Bool) (b : ℕ) → length (escaped is_text b) ≤ 4
unfolding escaped
escaped_short is_text b =
    let plain : length (b ∷ []) ≤ 4 = omega arith in
    let marked : (c : ℕ) → length (92 ∷ c ∷ []) ≤ 4 = λ c. omega arith in
    let digits : length (octal b) ≤ 4 = omega arith in
    let high = chosen_short is_text (b ∷ []) (octal b) plain digits in
    let shown = chosen_short (nat_lt b 128) (b ∷ []) (if is_text then b ∷ [] else octal b) plain high in
    let control = chosen_short (nat_lt b 32 || b == 127) (octal b) (if nat_lt b 128 then b ∷ [] else (if is_text then b ∷ [] else octal b)) digits shown in
    chosen_short (b == 34 || b == 92) (92 ∷ b ∷ []) _ (marked b)
    (chosen_short (b == 10) (92 ∷ 110 ∷ []) _ (marked 110)
    (chosen_short (b == 9) (92 ∷ 116 ∷ []) _ (marked 116)
    (chosen_short (b == 13) (92 ∷ 114 ∷ []) _ (marked 114) control)))

all_short : (is_text : Bool) (bytes : List ℕ) → length (flat_map (escaped is_text) bytes) ≤ 4 * length bytes
all_short is_text [] = omega arith
all_short is_text (b ∷ bytes) =
    let one = escaped_short is_text b in
    let others = all_short is_text bytes in
    omega (arith, length-append (escaped is_text b) (flat_map (escaped is_text) bytes))

quoted_short : (is_text : Bool) (bytes : List ℕ) → length (quoted is_text bytes) ≤ 4 * length bytes + 2
unfolding quoted
quoted_short is_text bytes =
    let all = all_short is_text bytes in
    omega (arith, length-append (flat_map (escaped is_text) bytes) (34 ∷ []))

-- the most bytes that fields take behind a margin of so many, and what they hold
abbrev mutual
  weight : ℕ → Fields → ℕ
  weight margin Nothing = 0
  weight margin (And before name span held) = weight margin before + (margin + length name + held_weight margin held + 1)

  held_weight : ℕ → Held → ℕ
  held_weight margin (Whole negative size) = length (held_text [] (Whole negative size))
  held_weight margin (Literal text) = length (held_text [] (Literal text))
  held_weight margin (Word negative text) = length (held_text [] (Word negative text))
  held_weight margin (Quote bytes) = 4 * length bytes + 4
  held_weight margin (Message fields) = 3 + weight (margin + 2) fields + margin + 1

mutual
  fields_short : (margin : List ℕ) (f : Fields) → length (fields_text margin f) ≤ weight (length margin) f
  fields_short margin Nothing = omega arith
  fields_short margin (And before name span held) =
      let first = fields_short margin before in
      let value = held_short margin held in
      omega (
        arith,
        length-append (fields_text margin before) (margin ++ name ++ held_text margin held ++ codes "\n"),
        length-append (margin ++ name ++ held_text margin held) (codes "\n"),
        length-append (margin ++ name) (held_text margin held),
        length-append margin name,
      )

  held_short : (margin : List ℕ) (h : Held) → length (held_text margin h) ≤ held_weight (length margin) h
  held_short margin (Whole negative size) = omega arith
  held_short margin (Literal text) = omega arith
  held_short margin (Word negative text) = omega arith
  held_short margin (Quote bytes) =
      let text = quoted_short (is_utf8 bytes) bytes in
      omega (arith, length-append (codes ": ") (quoted (is_utf8 bytes) bytes))
  held_short margin (Message fields) =
      let inner = margin ++ codes "  " in
      let wider : length inner ≡ length margin + 2 = length-append margin (codes "  ") in
      let within = fields_short inner fields in
      let same = ap (λ (m : ℕ). weight m fields) wider in
      omega (
        arith,
        length-append (codes " {\n" ++ fields_text inner fields ++ margin) (codes "}"),
        length-append (codes " {\n" ++ fields_text inner fields) margin,
        length-append (codes " {\n") (fields_text inner fields),
      )

dag_weight : (prefix : List ℕ) → length prefix ≤ longest_prefix → weight 0 (dag_fields prefix) ≤ longest_config
unfolding dag_fields
dag_weight prefix small = omega (arith, length-append prefix (suffix_of Adder), length-append prefix (suffix_of Band), length-append prefix (suffix_of Last8), length-append prefix (suffix_of Late))

pub short : (prefix : List ℕ) (c : Config) → length prefix ≤ longest_prefix → length (text_of prefix c) ≤ longest_config
short prefix Adder small = lit≤ tt
short prefix Band small = lit≤ tt
short prefix Last8 small = lit≤ tt
short prefix Late small = lit≤ tt
short prefix Dag small =
    let within = fields_short [] (dag_fields prefix) in
    let light = dag_weight prefix small in
    omega arith
