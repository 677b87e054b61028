-- One more message on a tape, and one more arrival at a component.
use Rattle.std.proofs.Common.{ℕ, ◌≡◌, ◌≢◌, Bool, true, false, refl, sym, ◌∙◌, ap, inl, inr, arith, List, [], ◌∷◌, ◌++◌, ◌==◌, map, filter, cond, if◌then◌else◌, append_assoc, append-nil}
use Rattle.std.proofs.lemmas.Bool.Decides.{nat_tests, eqb_tells}
use Rattle.std.proofs.lemmas.List.Elements.{filter-append}
use Rattle.std.proofs.lemmas.List.{map-append}
use Rattle.cy_msg.specs.declared.token.Token.{Token}
use Rattle.cy_msg.specs.Tokens.{on_channel}
use Rattle.cy_msg.proofs.Lists.{place}
use Rattle.cy_fuse.specs.Fusion.{Arrival, added, fused_after, fused}
use Rattle.wake_core.specs.Run.{set_at}
use Rattle.wake_core.specs.Plain.{of_role}
use Rattle.wake_core.proofs.Places.{set_at_there, set_at_other}

-- A message more on its own channel, ..
pub on_channel-own : (channel : ℕ) (tape : List Token) (t : Token) → t.channel ≡ channel → on_channel channel (tape ++ t ∷ []) ≡ on_channel channel tape ++ t ∷ []
on_channel-own channel tape t e = filter-append (λ s. s.channel == channel) tape (t ∷ []) ∙ elim (eqb_tells t.channel channel) [
  | inl h ↦ ap (λ b. on_channel channel tape ++ cond b (t ∷ []) []) h.0
  | inr h ↦ absurd (h.1 e)
]

-- .. and on another.
pub on_channel-other : (channel : ℕ) (tape : List Token) (t : Token) → t.channel ≢ channel → on_channel channel (tape ++ t ∷ []) ≡ on_channel channel tape
on_channel-other channel tape t e = filter-append (λ s. s.channel == channel) tape (t ∷ []) ∙ elim (eqb_tells t.channel channel) [
  | inl h ↦ absurd (e h.1)
  | inr h ↦ ap (λ b. on_channel channel tape ++ cond b (t ∷ []) []) h.0 ∙ append-nil (on_channel channel tape)
]

of_role-append : (i : ℕ) (xs : List Arrival) (a : Arrival) → of_role i (xs ++ a ∷ []) ≡ of_role i xs ++ (if a.0 == i then a.1 ∷ [] else [])
of_role-append i xs a = ap (map (λ x. x.1)) (filter-append (λ x. x.0 == i) xs (a ∷ [])) ∙ map-append (λ x. x.1) (filter (λ x. x.0 == i) xs) (filter (λ x. x.0 == i) (a ∷ [])) ∙ ap (λ ys. of_role i xs ++ ys) (one (a.0 == i))
  where
    one : (b : Bool) → map (λ (x : Arrival). x.1) (cond b (a ∷ []) []) ≡ (if b then a.1 ∷ [] else [])
    one true = refl
    one false = refl

-- An arrival more in its own role, ..
pub of_role_own : (j : ℕ) (xs : List Arrival) (t : Token) → of_role j (xs ++ (j, t) ∷ []) ≡ of_role j xs ++ t ∷ []
of_role_own j xs t = of_role-append j xs (j, t) ∙ ap (λ b. of_role j xs ++ cond b (t ∷ []) []) (itself j)
  where
    itself : (j : ℕ) → (j == j) ≡ true
    itself j = grind (arith, nat_tests)

-- .. and in another.
pub of_role_other : (j i : ℕ) (xs : List Arrival) (t : Token) → j ≢ i → of_role i (xs ++ (j, t) ∷ []) ≡ of_role i xs
of_role_other j i xs t n = of_role-append i xs (j, t) ∙ ap (λ b. of_role i xs ++ cond b (t ∷ []) []) (other n) ∙ append-nil (of_role i xs)
  where
    other : (j ≡ i → ⊥) → (j == i) ≡ false
    other n = grind (arith, nat_tests, n)

-- The same of a component among others.
pub role_own : (arrivals : ℕ → List Arrival) (v j : ℕ) (t : Token) → of_role j (set_at v (arrivals v ++ (j, t) ∷ []) arrivals v) ≡ of_role j (arrivals v) ++ t ∷ []
role_own arrivals v j t = ap (of_role j) (set_at_there v (arrivals v ++ (j, t) ∷ []) arrivals v refl) ∙ of_role_own j (arrivals v) t

pub role_other : (arrivals : ℕ → List Arrival) (v j u i : ℕ) (t : Token) → ((v ≡ u) × (j ≡ i) → ⊥) → of_role i (set_at v (arrivals v ++ (j, t) ∷ []) arrivals u) ≡ of_role i (arrivals u)
role_other arrivals v j u i t n = elim (place u v) [
  | inr d ↦ ap (of_role i) (set_at_other v (arrivals v ++ (j, t) ∷ []) arrivals u d)
  | inl e ↦ ap (of_role i) (set_at_there v (arrivals v ++ (j, t) ∷ []) arrivals u e)
      ∙ of_role_other j i (arrivals v) t (λ q. n (sym e, q)) ∙ ap (λ w. of_role i (arrivals w)) (sym e)
]

fused_after-append : (k : ℕ) (before rest : List Arrival) (a : Arrival) → fused_after k before (rest ++ a ∷ []) ≡ fused_after k before rest ++ added k (before ++ rest) a
fused_after-append k before [] a = append-nil (added k before a) ∙ ap (λ b. added k b a) (sym (append-nil before))
fused_after-append k before (x ∷ rest) a =
    ap (λ ys. added k before x ++ ys) (fused_after-append k (before ++ x ∷ []) rest a)
    ∙ rw (append_assoc before (x ∷ []) rest) (sym (append_assoc (added k before x) (fused_after k (before ++ x ∷ []) rest) (added k (before ++ x ∷ rest) a)))

-- An arrival more adds tuples behind those that were fused.
pub fused-append : (k : ℕ) (arrivals : List Arrival) (a : Arrival) → fused (arrivals ++ a ∷ []) k ≡ fused arrivals k ++ added k arrivals a
unfolding fused
fused-append k arrivals a = fused_after-append k [] arrivals a

-- Only an arrival of the first reader does.
pub fused_other_role : (k : ℕ) (arrivals : List Arrival) (a : Arrival) → a.0 ≢ 0 → fused (arrivals ++ a ∷ []) k ≡ fused arrivals k
fused_other_role k arrivals a n =
    let none_added : added k arrivals a ≡ [] = grind (arith, nat_tests, n) in
    fused-append k arrivals a ∙ ap (λ ys. fused arrivals k ++ ys) none_added ∙ append-nil (fused arrivals k)
