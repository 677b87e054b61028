-- How one more arrival changes a fusion.
use Rattle.std.proofs.Common.{ℕ, ◌-◌, ◌≡◌, ◌≤◌, ◌==◌, if◌then◌else◌, true, false, List, [], ◌∷◌, ◌++◌, length, Option, Some, None, refl, sym, ap, ◌∙◌, arith, append_assoc, append-nil, length-append}
use Rattle.std.specs.Prelude.{option_map, option_to_list}
use Rattle.cy_msg.specs.declared.token.Tuple.{Tuple}
use Rattle.cy_fuse.specs.Fusion.{Arrival, later_or, latest, latest_of, joined, added, fused_after, fused}

fused_after-push : (readers : ℕ) (before arrivals : List Arrival) (a : Arrival)
    → fused_after readers before (arrivals ++ a ∷ []) ≡ fused_after readers before arrivals ++ added readers (before ++ arrivals) a
fused_after-push readers before [] a = append-nil (added readers before a) ∙ ap (λ l. added readers l a) (sym (append-nil before))
fused_after-push readers before (b ∷ rest) a =
    ap (λ l. added readers before b ++ l) (fused_after-push readers (before ++ b ∷ []) rest a)
    ∙ sym (append_assoc (added readers before b) (fused_after readers (before ++ b ∷ []) rest) (added readers (before ++ b ∷ [] ++ rest) a))
    ∙ ap (λ l. added readers before b ++ fused_after readers (before ++ b ∷ []) rest ++ added readers l a) (append_assoc before (b ∷ []) rest)

pub fused-push : (arrivals : List Arrival) (a : Arrival) (readers : ℕ) → fused (arrivals ++ a ∷ []) readers ≡ fused arrivals readers ++ added readers arrivals a
unfolding fused
fused-push arrivals a readers = fused_after-push readers [] arrivals a

option_to_list-few : (o : Option Tuple) → length (option_to_list o) ≤ 1
option_to_list-few None = omega arith
option_to_list-few (Some x) = omega arith

-- an arrival adds one tuple at most
pub added-few : (readers : ℕ) (before : List Arrival) (a : Arrival) → length (added readers before a) ≤ 1
added-few readers before a = elim (a.0 == 0) as (λ b. length (if b then option_to_list (option_map (joined a.1) (latest_of 1 (readers - 1) before)) else []) ≤ 1) [
  | true ↦ option_to_list-few (option_map (joined a.1) (latest_of 1 (readers - 1) before))
  | false ↦ omega arith
]

fused_after-few : (readers : ℕ) (before arrivals : List Arrival) → length (fused_after readers before arrivals) ≤ length arrivals
fused_after-few readers before [] = omega arith
fused_after-few readers before (a ∷ rest) =
    omega (
      arith,
      length-append (added readers before a) (fused_after readers (before ++ a ∷ []) rest),
      added-few readers before a,
      fused_after-few readers (before ++ a ∷ []) rest,
    )

pub fused-few : (arrivals : List Arrival) (readers : ℕ) → length (fused arrivals readers) ≤ length arrivals
unfolding fused
fused-few arrivals readers = fused_after-few readers [] arrivals

-- the message of the last arrival of a role, after one more arrival
pub latest-push : (role : ℕ) (arrivals : List Arrival) (a : Arrival) → latest role (arrivals ++ a ∷ []) ≡ (if a.0 == role then Some a.1 else latest role arrivals)
latest-push role [] a = elim (a.0 == role) as (λ b. later_or None (if b then Some a.1 else None) ≡ (if b then Some a.1 else None)) [ true ↦ refl | false ↦ refl ]
latest-push role (b ∷ rest) a =
    ap (λ l. later_or l (if b.0 == role then Some b.1 else None)) (latest-push role rest a)
    ∙ elim (a.0 == role) as (λ t. later_or (if t then Some a.1 else latest role rest) (if b.0 == role then Some b.1 else None)
    ≡ (if t then Some a.1 else later_or (latest role rest) (if b.0 == role then Some b.1 else None))) [ true ↦ refl | false ↦ refl ]
