-- Where a text is split at the last place of a sign.
use Rattle.std.proofs.Common.{ℕ, zero, suc, ◌+◌, ◌-◌, ◌≡◌, ◌≢◌, ◌<◌, List, Option, Some, None, MatchOption, Bor, length, take, drop, get_or, get_or-drop, length-drop, option_map, refl, sym, ap, ◌∙◌, inl, inr, arith}
use Rattle.std.specs.Path.{rfind_below, rsplit_once}
use Rattle.std.specs.Str.Pattern.{RFindsChar, SplitsAroundMatch}
use Rattle.std.proofs.lemmas.Bool.{cases_lt, cond-false, cond-true, eq-eqb, ne_eqb}
use Rattle.std.proofs.lemmas.Str.{len_utf8_ascii}
use Rattle.std.proofs.lemmas.Str.Pattern.{NoCharPasses-char}

nowhere : (c : ℕ) (text : List ℕ) (n : ℕ) → ((i : ℕ) → i < n → get_or text i 0 ≢ c) → rfind_below c text n ≡ None
nowhere c text zero none = refl
nowhere c text (suc n) none = cond-false _ _ _ (ne_eqb (get_or text n 0) c (none n (omega arith))) ∙ nowhere c text n (λ i less. none i (omega (arith, less)))

lastly : (c : ℕ) (text : List ℕ) (k n : ℕ) → k < n → get_or text k 0 ≡ c → ((i : ℕ) → k < i → i < n → get_or text i 0 ≢ c) → rfind_below c text n ≡ Some k
lastly c text k zero less at later = absurd (omega (arith, less))
lastly c text k (suc n) less at later = elim (cases_lt k n) [
  | inl before ↦ cond-false _ _ _ (ne_eqb (get_or text n 0) c (later n before (omega arith))) ∙ lastly c text k n before at (λ i more below. later i more (omega (arith, below)))
  | inr last ↦ let same : n ≡ k = omega (arith, less, last) in cond-true _ _ _ (eq-eqb (get_or text n 0) c (ap (λ (j : ℕ). get_or text j 0) same ∙ at)) ∙ ap (λ (j : ℕ). Some j) same
]

abbrev pub parts_shown : Option (Bor (List ℕ) × Bor (List ℕ)) → Option (List ℕ × List ℕ)
parts_shown split = option_map (λ x. (x.0.now, x.1.now)) split

-- what `rsplit_once` answers of a sign of one byte
pub split_last : (c : ℕ) (text : List ℕ) (split : Option (Bor (List ℕ) × Bor (List ℕ))) → c < 128
    → MatchOption split (RFindsChar c text None) (λ x. SplitsAroundMatch (RFindsChar c) text x.0.now x.1.now) → parts_shown split ≡ rsplit_once c text
unfolding rsplit_once
split_last c text None low none = sym (ap (option_map (λ i. (take i text, drop (i + 1) text))) (nowhere c text (length text) (λ i less. NoCharPasses-char c text i none low less)))
split_last c text (Some x) low (i, j, found, front, back, on, long, rest) =
    let next : j ≡ i + 1 = found.1.ends ∙ ap (λ (n : ℕ). i + n) (len_utf8_ascii c low) in
    let less : i < length text = omega (arith, next, rest) in
    let later : (k : ℕ) → i < k → k < length text → get_or text k 0 ≢ c = λ k more below is.
    let from : j + (k - j) ≡ k = omega (arith, next, more) in
    NoCharPasses-char c (drop j text) (k - j) found.0 low (let left = length-drop j text in omega (arith, left, below, next, more)) (get_or-drop j text (k - j) 0 ∙ ap (λ (n : ℕ). get_or text n 0) from ∙ is) in
    let same : (x.0.now, x.1.now) ≡ (take i text, drop (i + 1) text) = ap (λ (f : List ℕ). (f, x.1.now)) front ∙ ap (λ (b : List ℕ). (take i text, b)) (back ∙ ap (λ (n : ℕ). drop n text) next) in
    ap (λ (p : List ℕ × List ℕ). Some p) same ∙ sym (ap (option_map (λ k. (take k text, drop (k + 1) text))) (lastly c text i (length text) less (found.1.byte low) later))
