-- The positions of lawful calls rise.
use Rattle.std.proofs.Common.{ℕ, zero, suc, ◌+◌, ◌≡◌, ◌≤◌, ◌<◌, ◌⊎◌, inl, inr, List, [], ◌∷◌, ◌++◌, take, Some, refl, sym, ap, ◌∙◌, arith}
use Rattle.std.specs.Prelude.{slice_get}
use Rattle.std.proofs.lemmas.Option.{slice_get_within, none-some}
use Rattle.circular_buffer.proofs.Places.{slice_get-some}
use Rattle.cy_fuse.specs.Laws.{FetchesFind}
use Rattle.cy_comp.specs.declared.call.Call.{Call}
use Rattle.cy_comp.specs.Calls.{cursor_after}
use Rattle.cy_comp.specs.Laws.{PositionsRise}
use Rattle.cy_comp.proofs.Taking.{cursor_after-push}

take_next : (calls : List Call) (n : ℕ) (x : Call) → slice_get calls n ≡ Some x → take (suc n) calls ≡ take n calls ++ x ∷ []
take_next [] n x e = absurd (none-some x e)
take_next (y ∷ rest) zero x e = cc
take_next (y ∷ rest) (suc n) x e = ap (λ l. y ∷ l) (take_next rest n x e)

pub positions_rise : FetchesFind → PositionsRise
positions_rise law k arrivals readers queue overflow calls l m zero x y at there less = absurd (omega (arith, less))
positions_rise law k arrivals readers queue overflow calls l m (suc n) x y at there less =
    let before = slice_get-some calls n (omega (arith, slice_get_within calls (suc n) y there)) in
    let cursor : cursor_after (take (suc n) calls) ≡ before.0.position + 1 = ap cursor_after (take_next calls n before.0 before.1) ∙ cursor_after-push (take n calls) before.0 in
    let bounds = (law.bounds (cursor_after (take (suc n) calls)) y.tail queue overflow y.position (l.positions (suc n) y there)).from_index in
    by before.0 before.1 (omega (arith, cursor, bounds)) (omega (arith, less)) (λ b e h. positions_rise law k arrivals readers queue overflow calls l m n x b at e h)
  where
    by : (b : Call) → slice_get calls n ≡ Some b → b.position < y.position → m ≤ n
        → ((c : Call) → slice_get calls n ≡ Some c → m < n → x.position < c.position) → x.position < y.position
    by b e closer upto rest = elim (lt_or_same m n upto) [
      | inl h ↦ omega (arith, rest b e h, closer)
      | inr h ↦ rw (same_call x b (sym at ∙ ap (slice_get calls) h ∙ e)) closer
    ]
      where
        same_call : (p q : Call) → Some p ≡ Some q → p ≡ q
        same_call p q s = cc

        lt_or_same : (i j : ℕ) → i ≤ j → (i < j) ⊎ (i ≡ j)
        lt_or_same zero zero u = inr refl
        lt_or_same zero (suc j) u = inl (omega arith)
        lt_or_same (suc i) zero u = absurd (omega (arith, u))
        lt_or_same (suc i) (suc j) u = elim (lt_or_same i j (omega (arith, u))) [ inl h ↦ inl (omega (arith, h)) | inr h ↦ inr (ap suc h) ]
