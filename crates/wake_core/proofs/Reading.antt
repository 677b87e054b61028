-- Lists that are read as functions.
use Rattle.std.proofs.Common.{ℕ, zero, suc, ◌≡◌, ◌≢◌, ◌<◌, ◌≤◌, refl, sym, ◌∙◌, ap, inl, inr, arith, Option, None, List, [], ◌∷◌, length, map, set, get_or, get_or-set_same, get_or-set_other}
use Rattle.std.proofs.lemmas.List.{map-set, get_or-map, length-map}
use Rattle.std.proofs.Math.Seq.{map-set_same}
use mathlib.Core.Path.{fun_ext}
use Rattle.cy_msg.proofs.Lists.{place}
use Rattle.wake_core.specs.Run.{set_at}
use Rattle.wake_core.specs.Plain.{Plain, Hand}
use Rattle.wake_core.specs.Fields.{read}
use Rattle.wake_core.proofs.Places.{set_at_there, set_at_other}

-- A list that was written at one place.
pub read-set : {X Y : Type 0} (g : X → Y) (d : Y) (xs : List X) (i : ℕ) (x : X) → i < length xs → read g d (set xs i x) ≡ set_at i (g x) (read g d xs)
unfolding read
read-set g d xs i x lt = fun_ext (λ k. elim (place k i) [
  | inl h ↦ ap (λ l. get_or l k d) (map-set g xs i x) ∙ rw h (get_or-set_same (map g xs) i (g x) d (rw length-map lt) ∙ sym (set_at_there i (g x) (λ k. get_or (map g xs) k d) i refl))
  | inr h ↦ ap (λ l. get_or l k d) (map-set g xs i x) ∙ (get_or-set_other (map g xs) i k (g x) d h ∙ sym (set_at_other i (g x) (λ k. get_or (map g xs) k d) k h))
])

-- .. with something that reads as what was there.
pub read-set_same : {X Y : Type 0} (g : X → Y) (d : Y) (xs : List X) (i : ℕ) (x e : X) → g x ≡ g (get_or xs i e) → read g d (set xs i x) ≡ read g d xs
unfolding read
read-set_same g d xs i x e same = fun_ext (λ k. ap (λ l. get_or l k d) (map-set_same g xs i x e same))

pub read_at : {X Y : Type 0} (g : X → Y) (d : Y) (xs : List X) (i : ℕ) (e : X) → i < length xs → read g d xs i ≡ g (get_or xs i e)
unfolding read
read_at g d xs i e lt = get_or-map g xs i e d lt

pub read_is : {X Y : Type 0} (g : X → Y) (d : Y) (xs : List X) (i : ℕ) (x : X) → i < length xs → x ≡ get_or xs i x → read g d xs i ≡ g x
read_is g d xs i x lt is = read_at g d xs i x lt ∙ ap g (sym is)

-- One hand is written, and a world changes by its hands.
pub hands_set : (hands : List (Option Hand)) (p : ℕ) (h : Option Hand) → p < length hands → read (λ h. h) None (set hands p h) ≡ set_at p h (read (λ h. h) None hands)
hands_set hands p h lt = read-set (λ h. h) None hands p h lt

pub with_hands : (w : Plain) {hs gs : ℕ → Option Hand} → hs ≡ gs → record w { hands = hs } ≡ record w { hands = gs }
with_hands w e = ap (λ (hs : ℕ → Option Hand). record w { hands = hs }) e

-- What is read past the end stands for none, so where something is read there is a place.
pub read_past : {X Y : Type 0} (g : X → Y) (d : Y) (xs : List X) (i : ℕ) → length xs ≤ i → read g d xs i ≡ d
unfolding read
read_past g d [] i le = refl
read_past g d (x ∷ xs) zero le = absurd (omega arith)
read_past g d (x ∷ xs) (suc i) le = read_past g d xs i (omega arith)

pub read_within : {X Y : Type 0} (g : X → Y) (d : Y) (xs : List X) (i : ℕ) → read g d xs i ≢ d → i < length xs
unfolding read
read_within g d [] i some = absurd (some refl)
read_within g d (x ∷ xs) zero some = omega arith
read_within g d (x ∷ xs) (suc i) some = let l = read_within g d xs i some in omega arith
