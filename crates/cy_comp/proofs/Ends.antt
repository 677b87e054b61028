-- The end of a list of calls.
use Rattle.std.proofs.Common.{◌≡◌, ◌+◌, ◌-◌, List, [], ◌∷◌, length, slice_get, Some, None, refl}
use native.Mathlib.Numerals.{unary_clauses}
use Rattle.std.proofs.lemmas.Option.{none-some}
use Rattle.cy_comp.specs.declared.call.Call.{Call}
use Rattle.cy_comp.specs.Calls.{cursor_after}

-- a list of calls that has no last one is empty
last_is_some : (y : Call) (rest : List Call) → slice_get (y ∷ rest) (length rest) ≡ None → ⊥
last_is_some y [] e = cc
last_is_some y (z ∷ rest) e = last_is_some z rest e

pub cursor_after_none : (calls : List Call) → slice_get calls (length calls - 1) ≡ None → cursor_after calls ≡ 0
cursor_after_none [] e = refl
cursor_after_none (y ∷ rest) e = absurd (last_is_some y rest (simp unary_clauses at e))

-- the next fetch begins behind the position of the last call
cursor_after_end : (y : Call) (rest : List Call) (x : Call) → slice_get (y ∷ rest) (length rest) ≡ Some x → cursor_after (y ∷ rest) ≡ x.position + 1
cursor_after_end y [] x e = cc
cursor_after_end y (z ∷ rest) x e = cursor_after_end z rest x e

pub cursor_after_last : (calls : List Call) (x : Call) → slice_get calls (length calls - 1) ≡ Some x → cursor_after calls ≡ x.position + 1
cursor_after_last [] x e = absurd (none-some x e)
cursor_after_last (y ∷ rest) x e = cursor_after_end y rest x (simp unary_clauses at e)
