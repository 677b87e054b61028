-- Lists of numbers, one by one.
use Rattle.std.proofs.Common.{ℕ, ◌≡◌, ◌+◌, ◌<◌, ◌≤◌, ◌==◌, ◌&&◌, not, Bool, true, false, cond, List, [], ◌∷◌, ◌++◌, length, drop, get_or, Option, Some, None, option_map, refl, ap, sym, ◌∙◌, append_assoc}
use Rattle.std.proofs.lemmas.Bool.{and_parts, not-true, false_from_ne_true}
use Rattle.std.proofs.lemmas.List.{append-nil, drop_more, drop_all}
use Rattle.std.proofs.lemmas.List.Splits.{slice_split-cons_yes, slice_split-cons_no}
use Rattle.std.proofs.lemmas.Str.{is_utf8-from_IsUtf8, IsUtf8-from_is_utf8}
use Rattle.std.specs.Borrow.{Bor}
use Rattle.std.specs.List.{slice_split, onto_first}
use Rattle.std.specs.Str.{IsUtf8, is_utf8, bytes_eq}
use Rattle.cy_msg.specs.Quoted.{quoted}
use Rattle.cy_trace.specs.Cuts.{lacks, cut, both}
use Rattle.cy_trace_read.specs.LineReading.{short, numbers, role, digits, words_left, unquoted, name}
use Rattle.cy_trace.proofs.CutLaws.{cut_parts, uncut}

-- more numbers in front
abbrev pub onto : List ℕ → Option (List ℕ) → Option (List ℕ)
onto prefix rest = option_map (λ ns. prefix ++ ns) rest

pub split_found : (xs ys : List ℕ) → lacks 32 xs ≡ true → slice_split (λ b. b == 32) (xs ++ 32 ∷ ys) ≡ xs ∷ slice_split (λ b. b == 32) ys
split_found [] ys h = slice_split-cons_yes (λ b. b == 32) 32 ys refl
split_found (x ∷ xs) ys h =
    let p = and_parts (not (x == 32)) (lacks 32 xs) h in
    slice_split-cons_no (λ b. b == 32) x (xs ++ 32 ∷ ys) (not-true (x == 32) p.0) ∙ ap (onto_first x) (split_found xs ys p.1)

pub words_found : (bytes : List ℕ) (p : List ℕ × List ℕ) → cut 32 bytes ≡ Some p → words_left (Some bytes) ≡ p.0 ∷ words_left (Some p.1)
words_found bytes p h = let r = cut_parts 32 bytes p h in ap (slice_split (λ b. b == 32)) r.0 ∙ split_found p.0 p.1 r.1

pub one_word : (bytes : List ℕ) → lacks 32 bytes ≡ true → words_left (Some bytes) ≡ bytes ∷ []
one_word [] h = refl
one_word (x ∷ xs) h =
    let p = and_parts (not (x == 32)) (lacks 32 xs) h in
    slice_split-cons_no (λ b. b == 32) x xs (not-true (x == 32) p.0) ∙ ap (onto_first x) (one_word xs p.1)

pub last_word : (bytes : List ℕ) → cut 32 bytes ≡ None → words_left (Some bytes) ≡ bytes ∷ []
last_word bytes h = one_word bytes (uncut 32 bytes h)

name_by : (b c : Bool) (x : List ℕ) → b ≡ true → c ≡ true → cond (b && c) (Some x) None ≡ Some x
name_by b c x p q = rw (p, q) refl

pub name_is : (bytes text : List ℕ) → text ≡ unquoted bytes → IsUtf8 text → bytes_eq bytes (quoted true text) ≡ true → name bytes ≡ Some text
unfolding name
name_is bytes text is utf8 same = rw (← is) (name_by (is_utf8 text) (bytes_eq bytes (quoted true text)) text (is_utf8-from_IsUtf8 text utf8) same)

name_not : (b c : Bool) (x : List ℕ) → c ≡ false → cond (b && c) (Some x) None ≡ None
name_not true c x q = rw q refl
name_not false c x q = refl

pub name_other : (bytes text : List ℕ) → text ≡ unquoted bytes → bytes_eq bytes (quoted true text) ≡ false → name bytes ≡ None
unfolding name
name_other bytes text is other = rw (← is) (name_not (is_utf8 text) (bytes_eq bytes (quoted true text)) text other)

pub name_no_text : (bytes text : List ℕ) → text ≡ unquoted bytes → ¬ (IsUtf8 text) → name bytes ≡ None
unfolding name
name_no_text bytes text is h =
    let no : is_utf8 text ≡ false = false_from_ne_true (is_utf8 text) (λ e. h (IsUtf8-from_is_utf8 text e)) in
    rw (← is) (rw no refl)

-- one more number
onto_more : (prefix : List ℕ) (n : ℕ) (rest : Option (List ℕ)) → onto (prefix ++ n ∷ []) rest ≡ onto prefix (option_map (λ (p : ℕ × List ℕ). p.0 ∷ p.1) (both (Some n) rest))
onto_more prefix n None = refl
onto_more prefix n (Some ns) = ap (λ (xs : List ℕ). Some xs) (append_assoc prefix (n ∷ []) ns)

module _ (prefix : List ℕ) (whole : Option (List ℕ)) where
  module _ (k : ℕ) (bytes : List ℕ) (reading : onto prefix (digits (drop k bytes)) ≡ whole) where
    at_digit : k < length bytes → onto prefix (option_map (λ (p : ℕ × List ℕ). p.0 ∷ p.1) (both (role (get_or bytes k 0)) (digits (drop (k + 1) bytes)))) ≡ whole
    unfolding digits
    at_digit there = rw (drop_more bytes k 0 there) at reading

    pub digit_read : (r : ℕ) → k < length bytes → role (get_or bytes k 0) ≡ Some r → onto (prefix ++ r ∷ []) (digits (drop (k + 1) bytes)) ≡ whole
    digit_read r there is = onto_more prefix r (digits (drop (k + 1) bytes)) ∙ (rw is at (at_digit there))

    pub digit_fails : k < length bytes → role (get_or bytes k 0) ≡ None → whole ≡ None
    digit_fails there is = sym (rw is at (at_digit there))

    pub digits_end : length bytes ≤ k → whole ≡ Some prefix
    unfolding digits
    digits_end ends = sym (rw (drop_all k bytes ends) at reading) ∙ ap (λ (xs : List ℕ). Some xs) (append-nil prefix)

  module _ (words : List (List ℕ)) (word : List ℕ) (more : List (List ℕ)) (reading : onto prefix (numbers words) ≡ whole) (cuts : words ≡ word ∷ more) where
    pub number_read : (n : ℕ) → short word ≡ Some n → onto (prefix ++ n ∷ []) (numbers more) ≡ whole
    number_read n is = onto_more prefix n (numbers more) ∙ (rw is at (rw cuts at reading))

    pub number_fails : short word ≡ None → whole ≡ None
    number_fails is = sym (rw is at (rw cuts at reading))

  pub numbers_end : onto prefix (Some []) ≡ whole → whole ≡ Some prefix
  numbers_end reading = sym reading ∙ ap (λ (xs : List ℕ). Some xs) (append-nil prefix)

-- what is left to read in words
abbrev pub bytes_left : Option (Bor (List ℕ)) → ℕ
bytes_left None = 0
bytes_left (Some words) = length words.now + 1
