-- How many outputs calls have, and the outcome of the last of them.
use Rattle.std.proofs.Common.{ℕ, ◌+◌, ◌≡◌, refl, sym, ◌∙◌, ap, List, [], ◌∷◌, ◌++◌, append_assoc, append-nil, length, cond, is_some, Option, Some, None, arith}
use Rattle.std.specs.Prelude.{filter}
use Rattle.std.proofs.lemmas.List.Sums.{sum_by-cons, length-filter}
use Rattle.cy_msg.specs.declared.token.Tuple.{Tuple}
use Rattle.cy_comp.specs.declared.kind.Kind.{Kind}
use Rattle.cy_comp.specs.declared.call.Call.{Call}
use Rattle.cy_comp.specs.declared.call.Out.{Out}
use Rattle.cy_comp.specs.Step.{outcome_after}
use Rattle.cy_comp.specs.Calls.{outs, outs_after, numbered, last_after, last_outcome, tuples_of}
use Rattle.cy_table.specs.Hold.{outputs_in}

after_count : (channel before : ℕ) (calls : List Call) → length (outs_after channel before calls) ≡ outputs_in calls
after_count channel before [] = refl
after_count channel before (x ∷ rest) =
    go (after_count channel before rest) (after_count channel (before + 1) rest) x.out ∙ sym (sum_by-cons (λ (y : Call). cond (is_some y.out) 1 0) x rest)
  where
    go : length (outs_after channel before rest) ≡ outputs_in rest → length (outs_after channel (before + 1) rest) ≡ outputs_in rest
        → (o : Option Out) → length (numbered channel before o (λ n. outs_after channel n rest)) ≡ cond (is_some o) 1 0 + outputs_in rest
    go none some None = omega (arith, none)
    go none some (Some out) = omega (arith, some)

-- What calls put out is as much as they have outputs.
pub outs_count : (channel : ℕ) (calls : List Call) → length (outs channel calls) ≡ outputs_in calls
unfolding outs
outs_count channel calls = after_count channel 0 calls

pub outputs_counted : (calls : List Call) → length (filter (λ (x : Call). is_some x.out) calls) ≡ outputs_in calls
outputs_counted calls = length-filter (λ (x : Call). is_some x.out) calls

last_after_push : (k : Kind) (earlier : List Tuple) (calls : List Call) (x : Call) → last_after k earlier (calls ++ x ∷ []) ≡ Some (outcome_after k (earlier ++ tuples_of calls) x.tuple)
last_after_push k earlier [] x = ap (λ (l : List Tuple). Some (outcome_after k l x.tuple)) (sym (append-nil earlier))
last_after_push k earlier (y ∷ []) x = refl
last_after_push k earlier (y ∷ z ∷ rest) x =
    last_after_push k (earlier ++ y.tuple ∷ []) (z ∷ rest) x ∙ ap (λ (l : List Tuple). Some (outcome_after k l x.tuple)) (append_assoc earlier (y.tuple ∷ []) (tuples_of (z ∷ rest)))

-- The outcome of the last call is what the component answered to its tuple.
pub last_push : (k : Kind) (calls : List Call) (x : Call) → last_outcome k (calls ++ x ∷ []) ≡ Some (outcome_after k (tuples_of calls) x.tuple)
unfolding last_outcome
last_push k calls x = last_after_push k [] calls x
