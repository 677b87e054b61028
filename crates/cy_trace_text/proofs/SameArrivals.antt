-- Arrivals are told by their roles and by what arrived in each role.
use Rattle.std.proofs.Common.{ℕ, suc, ◌≡◌, ◌==◌, Bool, true, false, cond, List, [], ◌∷◌, map, slice_get, Some, refl, sym, ap, ◌∙◌}
use Rattle.std.specs.Prelude.{filter}
use Rattle.std.proofs.lemmas.Bool.{eqb-true, eq-eqb}
use Rattle.cy_fuse.specs.Fusion.{Arrival}
use Rattle.wake_core.specs.Plain.{of_role}
use Rattle.cy_trace_text.proofs.Places.{heads_same, tails_same, nil_not}

abbrev roles_in : List Arrival → List ℕ
roles_in arrivals = map (λ (a : Arrival). a.0) arrivals

-- Nothing arrived in a role that no arrival has.
pub none_of_role : (j : ℕ) (arrivals : List Arrival) → ((n : ℕ) (a : Arrival) → slice_get arrivals n ≡ Some a → a.0 ≡ j → ⊥) → of_role j arrivals ≡ []
none_of_role j [] none = refl
none_of_role j (a ∷ rest) none = by (a.0 == j) refl (none_of_role j rest (λ n. none (suc n)))
  where
    by : (b : Bool) → (a.0 == j) ≡ b → of_role j rest ≡ [] → map (λ (c : Arrival). c.1) (cond b (a ∷ filter (λ (c : Arrival). c.0 == j) rest) (filter (λ (c : Arrival). c.0 == j) rest)) ≡ []
    by true e h = absurd (none 0 a refl (eqb-true a.0 j e))
    by false e h = h

own_role : (a : Arrival) (rest : List Arrival) → of_role a.0 (a ∷ rest) ≡ a.1 ∷ of_role a.0 rest
own_role a rest = ap (λ t. map (λ (c : Arrival). c.1) (cond t (a ∷ filter (λ (c : Arrival). c.0 == a.0) rest) (filter (λ (c : Arrival). c.0 == a.0) rest))) (eq-eqb a.0 a.0 refl)

-- What is left in a role behind two arrivals of one role is the same where all is.
left : (a b : Arrival) (xs ys : List Arrival) → a.0 ≡ b.0 → (j : ℕ) → of_role j (a ∷ xs) ≡ of_role j (b ∷ ys) → of_role j xs ≡ of_role j ys
left a b xs ys same j h = by (a.0 == j) (b.0 == j) (ap (λ r. r == j) same) h
  where
    by : (s t : Bool) → s ≡ t
        → map (λ (d : Arrival). d.1) (cond s (a ∷ filter (λ (d : Arrival). d.0 == j) xs) (filter (λ (d : Arrival). d.0 == j) xs))
        ≡ map (λ (d : Arrival). d.1) (cond t (b ∷ filter (λ (d : Arrival). d.0 == j) ys) (filter (λ (d : Arrival). d.0 == j) ys))
        → of_role j xs ≡ of_role j ys
    by true true e k = tails_same a.1 b.1 (of_role j xs) (of_role j ys) k
    by false false e k = k
    by true false e k = cc
    by false true e k = cc

pub same_arrivals : (xs ys : List Arrival) → roles_in xs ≡ roles_in ys → ((j : ℕ) → of_role j xs ≡ of_role j ys) → xs ≡ ys
same_arrivals [] [] roles each = refl
same_arrivals [] (b ∷ ys) roles each = absurd (nil_not b.0 (roles_in ys) roles)
same_arrivals (a ∷ xs) [] roles each = absurd (nil_not a.0 (roles_in xs) (sym roles))
same_arrivals (a ∷ xs) (b ∷ ys) roles each =
    let role : a.0 ≡ b.0 = heads_same a.0 b.0 (roles_in xs) (roles_in ys) roles in
    let own : a.1 ∷ of_role a.0 xs ≡ b.1 ∷ of_role b.0 ys = sym (own_role a xs) ∙ each a.0 ∙ ap (λ r. of_role r (b ∷ ys)) role ∙ own_role b ys in
    let token : a.1 ≡ b.1 = heads_same a.1 b.1 (of_role a.0 xs) (of_role b.0 ys) own in
    let both : a ≡ b = ap (λ r. (r, a.1)) role ∙ ap (λ t. (b.0, t)) token in
    ap (λ c. c ∷ xs) both ∙ ap (λ zs. b ∷ zs) (same_arrivals xs ys (tails_same a.0 b.0 (roles_in xs) (roles_in ys) roles) (λ j. left a b xs ys role j (each j)))
