-- Where times never fall, none is past the last one.
use Rattle.std.proofs.Common.{ℕ, zero, suc, ◌+◌, ◌-◌, ◌≡◌, ◌≤◌, sym, ◌∙◌, ap, arith, List, length, Some, slice_get}
use Rattle.std.proofs.lemmas.Option.{slice_get_within}
use Rattle.cy_msg.specs.declared.token.Token.{Token}
use Rattle.cy_msg.specs.Tokens.{IsTimed}
use Rattle.cy_msg.proofs.Lists.{there}

one : {X : Type 0} {a b : X} → Some a ≡ Some b → a ≡ b
one e = cc

rises_to : (tokens : List Token) → IsTimed tokens → (n k : ℕ) (s t : Token) → slice_get tokens n ≡ Some s → slice_get tokens (n + k) ≡ Some t → s.time ≤ t.time
rises_to tokens timed n zero s t a b =
    let same : n + 0 ≡ n = omega arith in
    let equal : s ≡ t = one (sym a ∙ ap (slice_get tokens) (sym same) ∙ b) in
    let times = ap (λ (u : Token). u.time) equal in
    omega (arith, times)
rises_to tokens timed n (suc k) s t a b =
    let next : n + suc k ≡ n + 1 + k = omega arith in
    let within = slice_get_within tokens (n + suc k) t b in
    let m = there tokens (n + 1) (omega (arith, within)) in
    let here = timed n s m.0 a m.1 in
    let rest = rises_to tokens timed (n + 1) k m.0 t m.1 (ap (slice_get tokens) (sym next) ∙ b) in
    omega (arith, here, rest)

pub all_before : (tokens : List Token) (last : Token) (most : ℕ) → IsTimed tokens → slice_get tokens (length tokens - 1) ≡ Some last → last.time ≤ most → (n : ℕ) (m : Token) → slice_get tokens n ≡ Some m → m.time ≤ most
all_before tokens last most timed at few n m e =
    let within = slice_get_within tokens n m e in
    let far : n + (length tokens - 1 - n) ≡ length tokens - 1 = omega (arith, within) in
    let rises = rises_to tokens timed n (length tokens - 1 - n) m last e (ap (slice_get tokens) far ∙ at) in
    omega (arith, rises, few)
