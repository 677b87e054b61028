-- A text is of bytes.
use Rattle.std.proofs.Common.{◌≡◌, ◌<◌, ◌+◌, ◌/◌, ◌&&◌, ℕ, List, [], ◌∷◌, Bool, true, false, cond, All, ltb, leb, refl, subst, arith}
use Rattle.std.specs.Str.{IsUtf8}
use Rattle.std.proofs.Math.Utf8.{scalar, scalars, encode, encodes, next}
use Rattle.std.proofs.lemmas.Bool.{ltb-true}
use Rattle.std.proofs.lemmas.List.Elements.{All-append, All-cons, All-nil}

abbrev AreBytes : List ℕ → Type 0
AreBytes bs = All (λ byte. byte < 256) bs

one : (b : ℕ) (bs : List ℕ) → b < 256 → AreBytes bs → AreBytes (b ∷ bs)
one b bs low rest = All-cons (λ byte. byte < 256) b bs low rest

none : AreBytes []
none = All-nil (λ byte. byte < 256)

next_low : (bits : ℕ) → next bits < 256
next_low bits = omega arith

both_true : (a b : Bool) → (a && b) ≡ true → (a ≡ true) × (b ≡ true)
both_true true b e = (refl, e)
both_true false b e = absurd cc

scalar_low : (c : ℕ) → scalar c ≡ true → c < 1114112
scalar_low c e = by (ltb c 55296) refl e
  where
    by : (t : Bool) → ltb c 55296 ≡ t → cond t true (leb 57344 c && ltb c 1114112) ≡ true → c < 1114112
    by true low e = omega (arith, ltb-true c 55296 low)
    by false high e = ltb-true c 1114112 (both_true _ _ e).1

-- the bytes behind the first one
one_behind : (c : ℕ) → AreBytes (next c ∷ [])
one_behind c = one (next c) [] (next_low c) none

two_behind : (c : ℕ) → AreBytes (next (c / 64) ∷ next c ∷ [])
two_behind c = one (next (c / 64)) (next c ∷ []) (next_low (c / 64)) (one_behind c)

three_behind : (c : ℕ) → AreBytes (next (c / 4096) ∷ next (c / 64) ∷ next c ∷ [])
three_behind c = one (next (c / 4096)) (next (c / 64) ∷ next c ∷ []) (next_low (c / 4096)) (two_behind c)

chosen : (t : Bool) (xs ys : List ℕ) → (t ≡ true → AreBytes xs) → AreBytes ys → AreBytes (cond t xs ys)
chosen true xs ys first second = first refl
chosen false xs ys first second = second

encode_bytes : (c : ℕ) → c < 1114112 → AreBytes (encode c)
unfolding encode
encode_bytes c small =
    let four = one (240 + c / 262144) (next (c / 4096) ∷ next (c / 64) ∷ next c ∷ []) (omega (arith, small)) (three_behind c) in
    let three : AreBytes (cond (ltb c 65536) ((224 + c / 4096) ∷ next (c / 64) ∷ next c ∷ []) ((240 + c / 262144) ∷ next (c / 4096) ∷ next (c / 64) ∷ next c ∷ [])) = chosen (ltb c 65536) ((224 + c / 4096) ∷ next (c / 64) ∷ next c ∷ []) _ (λ is. one (224 + c / 4096) (next (c / 64) ∷ next c ∷ []) (omega (arith, ltb-true c 65536 is)) (two_behind c)) four in
    let two = chosen (ltb c 2048) ((192 + c / 64) ∷ next c ∷ []) _ (λ is. one (192 + c / 64) (next c ∷ []) (omega (arith, ltb-true c 2048 is)) (one_behind c)) three in
    chosen (ltb c 128) (c ∷ []) _ (λ is. one c [] (omega (arith, ltb-true c 128 is)) none) two

encodes_bytes : (cs : List ℕ) → scalars cs ≡ true → AreBytes (encodes cs)
encodes_bytes [] e = none
encodes_bytes (c ∷ cs) e =
    let all = both_true (scalar c) (scalars cs) e in
    All-append (λ byte. byte < 256) (encode c) (encodes cs) (encode_bytes c (scalar_low c all.0)) (encodes_bytes cs all.1)

pub text_bytes : (bs : List ℕ) → IsUtf8 bs → AreBytes bs
text_bytes bs is = subst AreBytes is.1.1 (encodes_bytes is.0 is.1.0)
