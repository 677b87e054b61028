-- Fields line by line.
use Rattle.std.proofs.Common.{ℕ, ◌≡◌, ◌+◌, ◌<◌, List, [], ◌∷◌, ◌++◌, length, take, get_or, codes, Result, Ok, Err, is_ok, OnOk, if◌then◌else◌, refl, ap, sym, ◌∙◌, append_assoc}
use Rattle.std.proofs.lemmas.List.{take_more}
use Rattle.cy_text.specs.Fields.{And}
use Rattle.cy_text.specs.Entries.{fields_of, held_of}
use Rattle.cy_text.specs.Printed.{fields_text, held_text}
use Rattle.cy_text.specs.declared.tree.Entry.{Entry}
use Rattle.cy_text.proofs.Pushes.{fields_of_push}

-- one more line is one more field
pub line_printed : (margin start o o₁ o₂ o₃ o₄ : List ℕ) (es : List Entry) (k : ℕ) (e : Entry) → k < length es → e ≡ get_or es k e
    → o ≡ start ++ fields_text margin (fields_of (take k es))
    → o₁ ≡ o ++ margin → o₂ ≡ o₁ ++ e.name → o₃ ≡ o₂ ++ held_text margin (held_of e.value) → o₄ ≡ o₃ ++ codes "\n"
    → o₄ ≡ start ++ fields_text margin (fields_of (take (k + 1) es))
line_printed margin start o o₁ o₂ o₃ o₄ es k e there here before p q r s =
    let prefix : take (k + 1) es ≡ take k es ++ e ∷ [] = take_more es k e there ∙ ap (λ (x : Entry). take k es ++ x ∷ []) (sym here) in
    let fields : fields_of (take (k + 1) es) ≡ And (fields_of (take k es)) e.name e.span (held_of e.value) = ap fields_of prefix ∙ fields_of_push (take k es) e in
    rw (fields, s, r, q, p, before) (simp append_assoc)

-- What the last of some calls has added, where it answers `Ok`.
pub two_added : {T E : Type 0} (r : Result T E) (out a b first second more : List ℕ) → a ≡ out ++ first → b ≡ (if is_ok r then a ++ more else a) → more ≡ second → OnOk r (b ≡ out ++ (first ++ second))
two_added (Ok x) out a b first second more one two is = rw (two, one, is, append_assoc) refl
two_added (Err d) out a b first second more one two is = tt

pub three_added : {T E : Type 0} (r : Result T E) (out a b c first second third more : List ℕ) → a ≡ out ++ first → b ≡ a ++ second → c ≡ (if is_ok r then b ++ more else b) → more ≡ third
    → OnOk r (c ≡ out ++ (first ++ second ++ third))
three_added (Ok x) out a b c first second third more one two three is =
    let e : b ≡ (out ++ first) ++ second = two ∙ ap (λ (l : List ℕ). l ++ second) one in
    three ∙ ap (λ (l : List ℕ). l ++ more) e ∙ ap (λ (l : List ℕ). ((out ++ first) ++ second) ++ l) is ∙ append_assoc (out ++ first) second third ∙ append_assoc out first (second ++ third)
    ∙ ap (λ (l : List ℕ). out ++ l) (sym (append_assoc first second third))
three_added (Err d) out a b c first second third more one two three is = tt

pub one_behind : {T E : Type 0} (r : Result T E) (out a b first second more : List ℕ) → a ≡ out ++ first → OnOk r (b ≡ a ++ more) → more ≡ second → OnOk r (b ≡ out ++ (first ++ second))
one_behind (Ok x) out a b first second more one two is = rw (two, one, is, append_assoc) refl
one_behind (Err d) out a b first second more one two is = tt
