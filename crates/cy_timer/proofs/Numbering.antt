-- The messages of each channel have the numbers 1, 2, 3 and so on.
use Rattle.std.proofs.Common.{ℕ, zero, suc, ◌+◌, ◌≡◌, Bool, true, false, cond, List, [], ◌∷◌, length, take, slice_get, Some, refl, sym, ap, ◌∙◌, subst, arith}
use Rattle.std.specs.Prelude.{◌==◌}
use Rattle.std.proofs.lemmas.Bool.{eq-eqb, eqb-true}
use Rattle.std.proofs.lemmas.Option.{none-some, same_Some}
use Rattle.cy_msg.specs.declared.token.Token.{Token}
use Rattle.cy_msg.specs.Tokens.{IsNumbered, on_channel}

-- they have the numbers from one on
abbrev pub Counts : ℕ → List Token → Type 0
Counts from [] = Unit {0}
Counts from (t ∷ rest) = (t.seq ≡ from) × Counts (from + 1) rest

-- the tokens of a channel count up, by their places in the list
abbrev Numbers : (c from : ℕ) → List Token → Type 0
Numbers c from xs = (n : ℕ) (t : Token) → slice_get xs n ≡ Some t → t.channel ≡ c → t.seq ≡ length (on_channel c (take n xs)) + from

pub counts-from_numbers : (c from : ℕ) (xs : List Token) → Numbers c from xs → Counts from (on_channel c xs)
counts-from_numbers c from [] numbers = tt
counts-from_numbers c from (x ∷ xs) numbers = by_test (counts-from_numbers c (from + 1) xs) (counts-from_numbers c from xs) (x.channel == c) refl
  where
    more : (b : Bool) → (x.channel == c) ≡ b → (n : ℕ) (t : Token) → slice_get xs n ≡ Some t → t.channel ≡ c → t.seq ≡ length (cond b (x ∷ on_channel c (take n xs)) (on_channel c (take n xs))) + from
    more b is n t e on = numbers (suc n) t e on ∙ ap (λ (d : Bool). length (cond d (x ∷ on_channel c (take n xs)) (on_channel c (take n xs))) + from) is

    by_test : (Numbers c (from + 1) xs → Counts (from + 1) (on_channel c xs)) → (Numbers c from xs → Counts from (on_channel c xs)) → (b : Bool) → (x.channel == c) ≡ b → Counts from (cond b (x ∷ on_channel c xs) (on_channel c xs))
    by_test next same true is =
        (numbers 0 x refl (eqb-true x.channel c is) ∙ omega arith, next (λ n t e on. more true is n t e on ∙ omega arith))
    by_test next same false is = same (λ n t e on. more false is n t e on)

pub counted : (xs : List Token) → IsNumbered xs → (c : ℕ) → Counts 1 (on_channel c xs)
counted xs numbered c =
    counts-from_numbers c 1 xs (λ n t e on. numbered n t e ∙ ap (λ (k : ℕ). length (on_channel k (take n xs)) + 1) on)

pub number-from_counts : (c from : ℕ) (xs : List Token) → Counts from (on_channel c xs) → (n : ℕ) (t : Token) → slice_get xs n ≡ Some t → t.channel ≡ c → t.seq ≡ length (on_channel c (take n xs)) + from
number-from_counts c from [] counts n t e on = absurd (none-some t e)
number-from_counts c from (x ∷ xs) counts zero t e on =
    let same = same_Some x t e in
    let here : (x.channel == c) ≡ true = eq-eqb x.channel c (ap (λ (u : Token). u.channel) same ∙ on) in
    let counts' : Counts from (x ∷ on_channel c xs) = subst (λ (b : Bool). Counts from (cond b (x ∷ on_channel c xs) (on_channel c xs))) here counts in
    sym (ap (λ (u : Token). u.seq) same) ∙ counts'.0 ∙ omega arith
number-from_counts c from (x ∷ xs) counts (suc n) t e on = by_test (λ k counts'. number-from_counts c k xs counts' n t e on) (x.channel == c) refl
  where
    by_test : ((k : ℕ) → Counts k (on_channel c xs) → t.seq ≡ length (on_channel c (take n xs)) + k) → (b : Bool) → (x.channel == c) ≡ b → t.seq ≡ length (on_channel c (x ∷ take n xs)) + from
    by_test again true is =
        let counts' : Counts from (x ∷ on_channel c xs) = subst (λ (b : Bool). Counts from (cond b (x ∷ on_channel c xs) (on_channel c xs))) is counts in
        let rest = again (from + 1) counts'.1 in
        rest ∙ omega arith ∙ ap (λ (b : Bool). length (cond b (x ∷ on_channel c (take n xs)) (on_channel c (take n xs))) + from) (sym is)
    by_test again false is =
        let counts' : Counts from (on_channel c xs) = subst (λ (b : Bool). Counts from (cond b (x ∷ on_channel c xs) (on_channel c xs))) is counts in
        again from counts' ∙ ap (λ (b : Bool). length (cond b (x ∷ on_channel c (take n xs)) (on_channel c (take n xs))) + from) (sym is)

pub numbered : (xs : List Token) → ((c : ℕ) → Counts 1 (on_channel c xs)) → IsNumbered xs
numbered xs counts n t e = number-from_counts t.channel 1 xs (counts t.channel) n t e refl
