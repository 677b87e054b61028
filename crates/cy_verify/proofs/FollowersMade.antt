-- The followers of components with these visitors and routines.
use Rattle.std.proofs.Common.{ℕ, ◌≡◌, false, refl, sym, ◌∙◌, ap, subst, inl, inr, arith, List, [], ◌∷◌, ◌++◌, length, map, Some, slice_get, append_assoc, append-nil, length-append}
use Rattle.std.proofs.lemmas.List.{map-append, length-map}
use Rattle.cy_msg.proofs.Lists.{get_snoc}
use Rattle.cy_fuse.specs.Visitor.{VisitorView}
use Rattle.cy_comp.specs.Routine.{RoutineView}
use Rattle.cy_verify.specs.declared.follower.Follower.{Follower}

-- It has nothing of its own yet.
abbrev pub IsNew : Follower → Type 0
IsNew f = (f.searched ≡ 0 ∷ 0 ∷ 0 ∷ 0 ∷ []) × (f.outputs ≡ 0) × (f.ended ≡ false)

-- Followers of the visitors and the routines before these that are left.
pub record AreMade (visitors more : List VisitorView) (routines rest : List RoutineView) (followers : List Follower) : Type 0 where
  pub visited : map (λ (f : Follower). f.visitor) followers ++ more ≡ visitors
  pub resumed : map (λ (f : Follower). f.routine) followers ++ rest ≡ routines
  pub fresh : (n : ℕ) (f : Follower) → slice_get followers n ≡ Some f → IsNew f

pub made_none : (visitors : List VisitorView) (routines : List RoutineView) → AreMade visitors visitors routines routines []
made_none visitors routines = record { visited = refl; resumed = refl; fresh = λ n f e. cc }

pub made_more : {visitors more : List VisitorView} {routines rest : List RoutineView} {followers : List Follower} (v : VisitorView) (r : RoutineView) (f : Follower) → f.visitor ≡ v → f.routine ≡ r → IsNew f
    → AreMade visitors (v ∷ more) routines (r ∷ rest) followers → AreMade visitors more routines rest (followers ++ f ∷ [])
made_more {visitors} {more} {routines} {rest} {followers} v r f vs rs new h = record {
  visited = ap (λ l. l ++ more) (map-append (λ (f : Follower). f.visitor) followers (f ∷ [])) ∙ append_assoc (map (λ (f : Follower). f.visitor) followers) (f.visitor ∷ []) more ∙ ap (λ y. map (λ (f : Follower). f.visitor) followers ++ y ∷ more) vs ∙ h.visited;
  resumed = ap (λ l. l ++ rest) (map-append (λ (f : Follower). f.routine) followers (f ∷ [])) ∙ append_assoc (map (λ (f : Follower). f.routine) followers) (f.routine ∷ []) rest ∙ ap (λ y. map (λ (f : Follower). f.routine) followers ++ y ∷ rest) rs ∙ h.resumed;
  fresh = λ n g e. elim (get_snoc followers f n g e) [ inl b ↦ h.fresh n g b | inr b ↦ subst IsNew b.1 new ];
}

-- As many are left of both.
pub left_alike : {visitors more : List VisitorView} {routines rest : List RoutineView} {followers : List Follower} → length visitors ≡ length routines → AreMade visitors more routines rest followers → length more ≡ length rest
left_alike {visitors} {more} {routines} {rest} {followers} many h =
    omega (
      arith,
      many,
      ap length h.visited,
      ap length h.resumed,
      length-append (map (λ (f : Follower). f.visitor) followers) more,
      length-append (map (λ (f : Follower). f.routine) followers) rest,
      length-map followers (λ (f : Follower). f.visitor),
      length-map followers (λ (f : Follower). f.routine),
    )

empty : {X : Type 0} (xs : List X) → length xs ≡ 0 → xs ≡ []
empty [] e = refl
empty (x ∷ xs) e = cc

pub made_all : {visitors more : List VisitorView} {routines rest : List RoutineView} {followers : List Follower} → length visitors ≡ length routines → AreMade visitors more routines rest followers → length more ≡ 0
    → (map (λ (f : Follower). f.visitor) followers ≡ visitors) × (map (λ (f : Follower). f.routine) followers ≡ routines)
made_all {visitors} {more} {routines} {rest} {followers} many h none = (
  sym (append-nil (map (λ (f : Follower). f.visitor) followers)) ∙ ap (λ l. map (λ (f : Follower). f.visitor) followers ++ l) (sym (empty more none)) ∙ h.visited,
  sym (append-nil (map (λ (f : Follower). f.routine) followers)) ∙ ap (λ l. map (λ (f : Follower). f.routine) followers ++ l) (sym (empty rest (sym (left_alike many h) ∙ none))) ∙ h.resumed,
)

pub made_first : {visitors more : List VisitorView} {routines rest : List RoutineView} {followers : List Follower} → followers ≡ [] → more ≡ visitors → rest ≡ routines → AreMade visitors more routines rest followers
made_first {visitors} {more} {routines} {rest} {followers} a b c = rw (a, b, c) (made_none visitors routines)

pub made_next : {visitors more left : List VisitorView} {routines rest kept : List RoutineView} {followers all : List Follower} (v : VisitorView) (r : RoutineView) (f : Follower) → f.visitor ≡ v → f.routine ≡ r → IsNew f
    → left ≡ v ∷ more → kept ≡ r ∷ rest → all ≡ followers ++ f ∷ [] → AreMade visitors left routines kept followers → AreMade visitors more routines rest all
made_next v r f vs rs new a b c h = rw c (made_more v r f vs rs new (rw (← a, ← b) h))
