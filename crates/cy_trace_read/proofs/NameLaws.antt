-- Names in quotes are read as they are written.
use Rattle.std.proofs.Common.{ℕ, ◌≡◌, ◌+◌, ◌*◌, ◌/◌, ◌%◌, ◌<◌, ◌≤◌, ◌==◌, ◌&&◌, ◌||◌, nat_lt, Bool, true, false, cond, List, [], ◌∷◌, ◌++◌, Some, refl, ap, sym, ◌∙◌, arith, append_assoc, ◌⊎◌, inl, inr}
use Rattle.std.proofs.lemmas.Bool.{and_parts, eqb-true, eqb-false, ne_eqb, lt-ltb, le-ltb, or_parts}
use Rattle.std.proofs.lemmas.Bool.Decides.{nat_tests}
use Rattle.std.proofs.lemmas.List.{append-nil}
use Rattle.std.proofs.lemmas.Option.{cond_some}
use Rattle.std.proofs.lemmas.Slice.Eq.{bytes_eq-Decides}
use Rattle.std.proofs.lemmas.Str.{IsUtf8-from_is_utf8}
use Rattle.std.specs.List.{flat_map}
use Rattle.std.specs.Str.{IsUtf8, is_utf8, bytes_eq}
use Rattle.cy_msg.specs.Quoted.{quoted, escaped, octal}
use Rattle.cy_trace_read.specs.LineReading.{escape_after, byte_at, unquoted_from, unquoted, name}
use Rattle.cy_trace_read.specs.declared.name.Escape.TheVariants.{Outside, Backslash, First}
use Rattle.cy_trace_read.proofs.ReadingSteps.{name_is}
use Rattle.cy_trace_read.proofs.Readers.{IsReader}

-- a byte that stands for itself
plain_read : (b : ℕ) (rest : List ℕ) → (b ≡ 92 → ⊥) → (b ≡ 34 → ⊥) → unquoted_from Outside (b ∷ rest) ≡ b ∷ unquoted_from Outside rest
unfolding escape_after byte_at
plain_read b rest no_slash no_quote = rw (ne_eqb b 92 no_slash, ne_eqb b 34 no_quote) refl

-- the first of three octal digits
first_read : (d : ℕ) (rest : List ℕ) → 48 ≤ d → d < 50 → unquoted_from Backslash (d ∷ rest) ≡ unquoted_from (First d) rest
unfolding escape_after byte_at
first_read d rest low high =
    let no_n : d ≡ 110 → ⊥ = λ e. omega arith in
    let no_t : d ≡ 116 → ⊥ = λ e. omega arith in
    let no_r : d ≡ 114 → ⊥ = λ e. omega arith in
    rw (ne_eqb d 110 no_n, ne_eqb d 116 no_t, ne_eqb d 114 no_r, le-ltb d 48 low, lt-ltb d 50 high) refl

-- a byte as three octal digits
octal_read : (b : ℕ) (rest : List ℕ) → b < 128 → unquoted_from Outside (octal b ++ rest) ≡ b ∷ unquoted_from Outside rest
unfolding escape_after byte_at
octal_read b rest small =
    let back : (48 + b / 64) % 2 * 64 + (48 + b / 8 % 8) % 8 * 8 + (48 + b % 8) % 8 ≡ b = omega arith in
    first_read (48 + b / 64) ((48 + b / 8 % 8) ∷ (48 + b % 8) ∷ rest) (omega arith) (omega arith) ∙ ap (λ (c : ℕ). c ∷ unquoted_from Outside rest) back

marked_read : (b : ℕ) (rest : List ℕ) → (b ≡ 34) ⊎ (b ≡ 92) → unquoted_from Outside (92 ∷ b ∷ rest) ≡ b ∷ unquoted_from Outside rest
unfolding escape_after byte_at
marked_read b rest (inl e) = rw e refl
marked_read b rest (inr e) = rw e refl

module _ (b : ℕ) (rest : List ℕ) where
  escaped_by : (quote newline tab return control plain : Bool) → (quote ≡ true → (b ≡ 34) ⊎ (b ≡ 92)) → (quote ≡ false → (b ≡ 34 → ⊥) × (b ≡ 92 → ⊥))
      → (newline ≡ true → b ≡ 10) → (tab ≡ true → b ≡ 9) → (return ≡ true → b ≡ 13) → (control ≡ true → b < 128)
      → unquoted_from Outside (cond quote (92 ∷ b ∷ []) (cond newline (92 ∷ 110 ∷ []) (cond tab (92 ∷ 116 ∷ []) (cond return (92 ∷ 114 ∷ []) (cond control (octal b) (cond plain (b ∷ []) (b ∷ [])))))) ++ rest)
      ≡ b ∷ unquoted_from Outside rest
  unfolding escape_after byte_at
  escaped_by true newline tab return control plain q nq n t r c = marked_read b rest (q refl)
  escaped_by false true tab return control plain q nq n t r c = let e = n refl in rw e refl
  escaped_by false false true return control plain q nq n t r c = let e = t refl in rw e refl
  escaped_by false false false true control plain q nq n t r c = let e = r refl in rw e refl
  escaped_by false false false false true plain q nq n t r c = octal_read b rest (c refl)
  escaped_by false false false false false true q nq n t r c = plain_read b rest (nq refl).1 (nq refl).0
  escaped_by false false false false false false q nq n t r c = plain_read b rest (nq refl).1 (nq refl).0

  escaped_read : unquoted_from Outside (escaped true b ++ rest) ≡ b ∷ unquoted_from Outside rest
  unfolding escaped
  escaped_read =
      escaped_by (b == 34 || b == 92) (b == 10) (b == 9) (b == 13) (nat_lt b 32 || b == 127) (nat_lt b 128)
      (λ e. grind (arith, nat_tests)) (λ e. let p = or_parts (b == 34) (b == 92) e in (eqb-false b 34 p.0, eqb-false b 92 p.1))
      (eqb-true b 10) (eqb-true b 9) (eqb-true b 13) (λ e. grind (arith, nat_tests))

all_read : (text rest : List ℕ) → unquoted_from Outside (flat_map (escaped true) text ++ rest) ≡ text ++ unquoted_from Outside rest
all_read [] rest = refl
all_read (b ∷ text) rest =
    ap (unquoted_from Outside) (append_assoc (escaped true b) (flat_map (escaped true) text) rest)
    ∙ escaped_read b (flat_map (escaped true) text ++ rest) ∙ ap (λ (xs : List ℕ). b ∷ xs) (all_read text rest)

unquoted_back : (text : List ℕ) → unquoted (quoted true text) ≡ text
unfolding unquoted quoted escape_after byte_at
unquoted_back text = all_read text (34 ∷ []) ∙ append-nil text

name_spells : (bs text : List ℕ) → name bs ≡ Some text → IsUtf8 text × (bs ≡ quoted true text)
unfolding name
name_spells bs text h =
    let found = unquoted bs in
    let c = cond_some (is_utf8 found && bytes_eq bs (quoted true found)) found text h in
    let p = and_parts (is_utf8 found) (bytes_eq bs (quoted true found)) c.0 in
    rw (← c.1) (IsUtf8-from_is_utf8 found p.0, (bytes_eq-Decides bs (quoted true found)).0 p.1)

pub name_reader : IsReader (quoted true) IsUtf8 name
name_reader = record {
  sound = name_spells;
  complete = λ text fits. name_is (quoted true text) text (sym (unquoted_back text)) fits ((bytes_eq-Decides (quoted true text) (quoted true text)).1 refl);
}
