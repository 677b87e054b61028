-- The bytes of sections.
use Rattle.std.proofs.Common.{◌≡◌, ◌≤◌, ◌+◌, ℕ, List, [], ◌∷◌, ◌++◌, length, take, refl, ap, ◌∙◌, arith, Option, Some, None}
use Rattle.std.specs.Prelude.{IfSome}
use Rattle.std.proofs.lemmas.List.Sums.{sum_by-append, sum_by-cons, sum_by-take-le}
use Rattle.cy_cut.specs.declared.cutting.Part.{Part}
use Rattle.cy_cut.specs.Cutting.{bytes_of}
use Rattle.cy_cut.specs.private.Finding.{listed}

pub bytes_one : (p : Part) (left rest : List Part) → left ≡ p ∷ rest → bytes_of left ≡ 16 + length p.body + bytes_of rest
bytes_one p left rest is = ap bytes_of is ∙ sum_by-cons (λ (p : Part). 16 + length p.body) p rest

pub bytes_both : (group behind all : List Part) → all ≡ group ++ behind → bytes_of all ≡ bytes_of group + bytes_of behind
bytes_both group behind all is = ap bytes_of is ∙ sum_by-append (λ (p : Part). 16 + length p.body) group behind

pub bytes_listed : (parts : List Part) (part : Option Part) (size : ℕ) → IfSome part (λ p. length p.body ≤ size) → bytes_of (parts ++ listed part) ≤ bytes_of parts + 16 + size
bytes_listed parts None size few = omega (arith, bytes_both parts [] (parts ++ []) refl)
bytes_listed parts (Some p) size few = omega (arith, bytes_both parts (p ∷ []) (parts ++ p ∷ []) refl, bytes_one p (p ∷ []) [] refl, few)

pub bytes_front : (parts front : List Part) (n : ℕ) → front ≡ take n parts → bytes_of front ≤ bytes_of parts
bytes_front parts front n is = omega (arith, ap bytes_of is, sum_by-take-le (λ (p : Part). 16 + length p.body) parts n)
