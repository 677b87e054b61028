-- A scan of orders, one croutine after another.
use Rattle.std.proofs.Common.{ℕ, zero, suc, ◌+◌, ◌≡◌, ◌<◌, Bool, true, false, refl, sym, ◌∙◌, ap, subst, arith, List, [], ◌∷◌, ◌++◌, length, take, drop, Option, Some, None, slice_get, get_or, append_assoc, append-nil, is_some}
use Rattle.std.proofs.lemmas.Option.{slice_get-get_or}
use Rattle.cy_msg.specs.declared.placement.ContextPlan.{ContextPlan}
use Rattle.cy_msg.specs.Placement.{scan_of}
use Rattle.cy_msg.proofs.Lists.{take_next}
use Rattle.wake_core.specs.Run.{Route}
use Rattle.wake_core.specs.Plain.{Plain, lists}
use Rattle.wake_core.specs.Sound.{Sound}
use Rattle.wake_core.specs.Rest.{IsAtRest}
use Rattle.wake_core.specs.Turns.{Passes, Finds, IsTaken}
use Rattle.wake_core.proofs.Listing.{lists_first, lists_rest, lists_left}
use Rattle.wake_core.proofs.Taking.{passes_more, finds_here, finds_later, finds_first}

pub lists_get : (xs : List ℕ) (i x : ℕ) → slice_get xs i ≡ Some x → lists x xs ≡ true
lists_get [] i x e = cc
lists_get (y ∷ xs) zero x e = let same : y ≡ x = cc in ap (λ k. lists x (k ∷ xs)) same ∙ lists_first x xs
lists_get (y ∷ xs) (suc i) x e = lists_rest x y xs (lists_get xs i x e)

parts_at : {X : Type 0} (xs : List X) (i : ℕ) (x : X) → slice_get xs i ≡ Some x → take i xs ++ x ∷ drop (i + 1) xs ≡ xs
parts_at [] i x e = cc
parts_at (y ∷ xs) zero x e = let same : y ≡ x = cc in ap (λ z. z ∷ xs) (sym same)
parts_at (y ∷ xs) (suc i) x e = let more : suc i + 1 ≡ suc (i + 1) = omega arith in ap (λ k. y ∷ take i xs ++ x ∷ drop k (y ∷ xs)) more ∙ ap (λ l. y ∷ l) (parts_at xs i x e)

-- A croutine of an order, behind those that were passed.
module _ (order : List ℕ) (i : ℕ) (first w m : Plain) (inside : i < length order) (rest : IsAtRest w) (p : Passes (take i order) first w) where
  at_it : slice_get order i ≡ Some (get_or order i 0)
  at_it = slice_get-get_or order i 0 inside

  pub order_known : ((c : ℕ) → lists c order ≡ true → c < length first.routes) → get_or order i 0 < length w.routes
  order_known all = subst (λ (x : List Route). get_or order i 0 < length x) (sym (ap (λ (x : Plain). x.routes) p.effect)) (all (get_or order i 0) (lists_get order i (get_or order i 0) at_it))

  -- It is the first that is READY.
  pub order_finds : IsTaken (get_or order i 0) w m → Sound w → (c : ℕ) → Some (get_or order i 0) ≡ Some c → Finds order c first m
  order_finds t s c e =
      let same : get_or order i 0 ≡ c = cc in
      subst (λ k. Finds order k first m) same
      (subst (λ l. Finds l (get_or order i 0) first m) (parts_at order i (get_or order i 0) at_it)
      (finds_here (take i order) (drop (i + 1) order) (get_or order i 0) first w m p s t.takes t.ready))

  -- It isn't, and is passed by.
  pub order_passes : Passes (get_or order i 0 ∷ []) w m → Passes (take (i + 1) order) first m
  order_passes one = subst (λ l. Passes l first m) (sym (take_next order i (get_or order i 0) at_it)) (passes_more (take i order) (get_or order i 0 ∷ []) first w m p one)

scan_append : (xs ys : List ContextPlan) → scan_of (xs ++ ys) ≡ scan_of xs ++ scan_of ys
scan_append [] ys = refl
scan_append (x ∷ xs) ys = ap (λ l. x.order ++ l) (scan_append xs ys) ∙ sym (append_assoc x.order (scan_of xs) (scan_of ys))

scan_one : (x : ContextPlan) → scan_of (x ∷ []) ≡ x.order
scan_one x = append-nil x.order

lists_right : (c : ℕ) (xs ys : List ℕ) → lists c ys ≡ true → lists c (xs ++ ys) ≡ true
lists_right c [] ys e = e
lists_right c (x ∷ xs) ys e = lists_rest c x (xs ++ ys) (lists_right c xs ys e)

-- A context behind those that were passed.
module _ (contexts : List ContextPlan) (i : ℕ) (x : ContextPlan) (first w : Plain) (at : slice_get contexts i ≡ Some x) (p : Passes (scan_of (take i contexts)) first w) where
  scan_parts : scan_of contexts ≡ scan_of (take i contexts) ++ (x.order ++ scan_of (drop (i + 1) contexts))
  scan_parts = ap scan_of (sym (parts_at contexts i x at)) ∙ scan_append (take i contexts) (x ∷ drop (i + 1) contexts)

  pub context_known : ((c : ℕ) → lists c (scan_of contexts) ≡ true → c < length first.routes) → (c : ℕ) → lists c x.order ≡ true → c < length w.routes
  context_known all c among = subst (λ (y : List Route). c < length y) (sym (ap (λ (y : Plain). y.routes) p.effect))
      (all c (ap (lists c) scan_parts ∙ lists_right c (scan_of (take i contexts)) (x.order ++ scan_of (drop (i + 1) contexts)) (lists_left c x.order (scan_of (drop (i + 1) contexts)) among)))

  pub context_finds : (c : ℕ) (v : Plain) → Finds x.order c w v → Finds (scan_of contexts) c first v
  context_finds c v f = subst (λ l. Finds l c first v) (sym scan_parts)
      (finds_later (scan_of (take i contexts)) (x.order ++ scan_of (drop (i + 1) contexts)) c first w v p (finds_first x.order (scan_of (drop (i + 1) contexts)) c w v f))

  pub context_passes : (v : Plain) → Passes x.order w v → Passes (scan_of (take (i + 1) contexts)) first v
  context_passes v q = subst (λ l. Passes l first v) (sym (ap scan_of (take_next contexts i x at) ∙ scan_append (take i contexts) (x ∷ []) ∙ ap (λ l. scan_of (take i contexts) ++ l) (scan_one x)))
      (passes_more (scan_of (take i contexts)) x.order first w v p q)

pub none_of : (o : Option ℕ) (answer : Bool) → answer ≡ is_some o → answer ≡ false → o ≡ None
none_of None answer says e = refl
none_of (Some n) answer says e = absurd (true_false (sym says ∙ e))
  where
    true_false : true ≡ false → ⊥
    true_false e = cc

-- What stands at a place of a list.
pub item_at : {X : Type 0} (xs : List X) (i : ℕ) (x : X) → i < length xs → x ≡ get_or xs i x → slice_get xs i ≡ Some x
item_at xs i x inside e = slice_get-get_or xs i x inside ∙ ap (λ y. Some y) (sym e)
