-- Strings byte by byte.
use Rattle.std.proofs.Common.{ℕ, zero, suc, ◌≡◌, ◌+◌, ◌<◌, ◌≤◌, List, [], ◌∷◌, ◌++◌, length, drop, drop-drop, get_or, Result, Ok, Err, refl, ap, sym, ◌∙◌, arith}
use Rattle.std.proofs.lemmas.Grind.{common_steps}
use Rattle.std.proofs.lemmas.List.{drop_more}
use Rattle.std.proofs.Math.ListN.{drop_of_length-le}
use Rattle.cy_text.specs.Strings.{string_from, string_at, escaped, and_then}
use Rattle.cy_msg.specs.Answer.{FailsWith}
use Rattle.cy_text.specs.Fault.{fault_in}
use Rattle.cy_text.specs.declared.fault.Failure.{Failure}
use Rattle.cy_text.specs.declared.fault.Failure.TheVariants as failures
use Rattle.cy_text.specs.declared.fault.Fault.{Fault}
use Rattle.cy_text.specs.declared.fault.Fault.TheVariants.{Bad}
use Rattle.cy_text.specs.declared.error.BadKind.TheVariants as kind

-- the bytes of an escape that was read are passed over
pub passed_over : (start quote : ℕ) (out : List ℕ) (at passed : ℕ) (bytes : List ℕ)
    → string_from start quote out at passed bytes ≡ string_from start quote out (at + passed) 0 (drop passed bytes)
unfolding string_from
passed_over start quote out at zero [] = refl
passed_over start quote out at (suc passed) [] = refl
passed_over start quote out at zero (b ∷ bytes) = ap (λ (n : ℕ). string_from start quote out n 0 (b ∷ bytes)) (omega arith)
passed_over start quote out at (suc passed) (b ∷ bytes) =
    let moved : at + 1 + passed ≡ at + suc passed = omega arith in
    passed_over start quote out (at + 1) passed bytes ∙ ap (λ (n : ℕ). string_from start quote out n 0 (drop passed bytes)) moved

-- the whole string
pub string_starts : (start : ℕ) (bytes : List ℕ) → 0 < length bytes → string_from start (get_or bytes 0 0) [] (start + 1) 0 (drop 1 bytes) ≡ string_at start bytes
unfolding string_at
string_starts start [] h = absurd (omega arith)
string_starts start (b ∷ bytes) h = refl

-- a step at a byte
prefix : (place : ℕ) (bytes : List ℕ) → place < length bytes → drop place bytes ≡ get_or bytes place 0 ∷ drop (place + 1) bytes
prefix place bytes h = drop_more bytes place 0 h

module _ (start quote : ℕ) (out : List ℕ) (place : ℕ) (bytes : List ℕ) (whole : Result (List ℕ × ℕ) Fault)
    (reading : string_from start quote out (start + place) 0 (drop place bytes) ≡ whole) where
  -- the text ends
  pub ends : length bytes ≤ place → whole ≡ Err (Bad kind.Quote start)
  unfolding string_from
  ends h = sym (rw (drop_of_length-le bytes h) at reading)

  pub at_byte : place < length bytes → string_from start quote out (start + place) 0 (get_or bytes place 0 ∷ drop (place + 1) bytes) ≡ whole
  at_byte there = rw (prefix place bytes there) at reading

  -- the string ends
  pub closes : place < length bytes → get_or bytes place 0 ≡ quote → whole ≡ Ok (out, start + place + 1)
  unfolding string_from
  closes there same = let h = at_byte there in grind (arith, common_steps)

  -- the line ends
  pub breaks : place < length bytes → (get_or bytes place 0 ≡ quote → ⊥) → get_or bytes place 0 ≡ 10 → whole ≡ Err (Bad kind.Quote start)
  unfolding string_from
  breaks there other newline = let h = at_byte there in grind (arith, common_steps)

  -- a byte stands for itself
  pub plain : place < length bytes → (get_or bytes place 0 ≡ quote → ⊥) → (get_or bytes place 0 ≡ 10 → ⊥) → (get_or bytes place 0 ≡ 92 → ⊥)
      → string_from start quote (out ++ get_or bytes place 0 ∷ []) (start + (place + 1)) 0 (drop (place + 1) bytes) ≡ whole
  unfolding string_from
  plain there other no_newline no_backslash =
      let h = at_byte there in
      let moved : start + (place + 1) ≡ start + place + 1 = omega arith in
      rw moved (grind (arith, common_steps))

  pub at_escape : place < length bytes → (get_or bytes place 0 ≡ quote → ⊥) → get_or bytes place 0 ≡ 92
      → and_then (escaped out (start + place) (drop (place + 1) bytes)) (λ found. string_from start quote found.0 (start + place + 1) found.1 (drop (place + 1) bytes)) ≡ whole
  unfolding string_from
  at_escape there other backslash = let h = at_byte there in grind (arith, common_steps)

  -- an escape is passed over
  pub escape_read : (more : List ℕ) (len : ℕ) → place < length bytes → (get_or bytes place 0 ≡ quote → ⊥) → get_or bytes place 0 ≡ 92
      → escaped out (start + place) (drop (place + 1) bytes) ≡ Ok (more, len)
      → string_from start quote more (start + (place + (1 + len))) 0 (drop (place + (1 + len)) bytes) ≡ whole
  escape_read more len there other backslash found =
      let moved : start + place + 1 + len ≡ start + (place + (1 + len)) = omega arith in
      let counted : place + 1 + len ≡ place + (1 + len) = omega arith in
      let next : string_from start quote more (start + place + 1) len (drop (place + 1) bytes) ≡ whole = rw found at (at_escape there other backslash) in
      ap (λ (n : ℕ). string_from start quote more n 0 (drop (place + (1 + len)) bytes)) (sym moved)
      ∙ ap (string_from start quote more (start + place + 1 + len) 0) (ap (λ (n : ℕ). drop n bytes) (sym counted) ∙ sym (drop-drop len (place + 1) bytes))
      ∙ sym (passed_over start quote more (start + place + 1) len (drop (place + 1) bytes)) ∙ next

  -- an escape that isn't one is the fault
  pub escape_fails : (failure : Failure) → place < length bytes → (get_or bytes place 0 ≡ quote → ⊥) → get_or bytes place 0 ≡ 92
      → FailsWith (fault_in failure) (escaped out (start + place) (drop (place + 1) bytes)) → FailsWith (fault_in failure) whole
  escape_fails failures.Memory there other backslash found = tt
  escape_fails (failures.Fault f) there other backslash found = sym (rw found at (at_escape there other backslash))
