-- How many messages a tuple has that was fused.
use Rattle.std.proofs.Common.{ℕ, zero, suc, ◌-◌, ◌≡◌, ◌≤◌, Bool, true, false, refl, sym, ◌∙◌, ap, inl, inr, arith, List, [], ◌∷◌, ◌++◌, length, Some, None, Option, slice_get, ◌==◌, if◌then◌else◌, option_map, option_and_then, option_to_list}
use Rattle.cy_msg.specs.declared.token.Token.{Token}
use Rattle.cy_msg.specs.declared.token.Tuple.{Tuple}
use Rattle.cy_msg.specs.Tuple.{messages_of}
use Rattle.cy_fuse.specs.Fusion.{Arrival, latest, latest_of, joined, added, fused_after, fused}
use Rattle.wake_core.proofs.Standing.{get_parts}

latest_of_count : (from count : ℕ) (before : List Arrival) (ts : List Token) → latest_of from count before ≡ Some ts → length ts ≡ count
latest_of_count from zero before ts e = let none : [] ≡ ts = cc in sym (ap length none)
latest_of_count from (suc count) before ts e = by (λ us more. latest_of_count (suc from) count before us more) (latest from before) (latest_of (suc from) count before) refl e
  where
    by : ((us : List Token) → latest_of (suc from) count before ≡ Some us → length us ≡ count) → (o : Option Token) (rest : Option (List Token)) → latest_of (suc from) count before ≡ rest
        → option_and_then (λ t. option_map (λ ts. t ∷ ts) rest) o ≡ Some ts → length ts ≡ suc count
    by more None rest is e = cc
    by more (Some t) None is e = cc
    by more (Some t) (Some us) is e = let same : t ∷ us ≡ ts = cc in sym (ap length same) ∙ ap suc (more us is)

joined_messages : (a : Token) (ts : List Token) (k : ℕ) → length ts ≡ k - 1 → 1 ≤ k → k ≤ 4 → length (messages_of (joined a ts)) ≡ k
joined_messages a [] k e l m = omega arith
joined_messages a (b ∷ []) k e l m = omega arith
joined_messages a (b ∷ c ∷ []) k e l m = omega arith
joined_messages a (b ∷ c ∷ d ∷ []) k e l m = omega arith
joined_messages a (b ∷ c ∷ d ∷ x ∷ rest) k e l m = absurd (omega arith)

added_messages : (k : ℕ) (before : List Arrival) (a : Arrival) → 1 ≤ k → k ≤ 4 → (n : ℕ) (tuple : Tuple) → slice_get (added k before a) n ≡ Some tuple → length (messages_of tuple) ≡ k
added_messages k before a l m n tuple e = by (a.0 == 0) (latest_of 1 (k - 1) before) refl n e
  where
    by : (b : Bool) (o : Option (List Token)) → latest_of 1 (k - 1) before ≡ o → (n : ℕ) → slice_get (if b then option_to_list (option_map (joined a.1) o) else []) n ≡ Some tuple → length (messages_of tuple) ≡ k
    by false o is n e = cc
    by true None is n e = cc
    by true (Some ts) is zero e =
        let same : joined a.1 ts ≡ tuple = cc in
        sym (ap (λ x. length (messages_of x)) same) ∙ joined_messages a.1 ts k (latest_of_count 1 (k - 1) before ts is) l m
    by true (Some ts) is (suc n) e = cc

fused_after_messages : (k : ℕ) (before rest : List Arrival) → 1 ≤ k → k ≤ 4 → (n : ℕ) (tuple : Tuple) → slice_get (fused_after k before rest) n ≡ Some tuple → length (messages_of tuple) ≡ k
fused_after_messages k before [] l m n tuple e = cc
fused_after_messages k before (a ∷ rest) l m n tuple e = elim (get_parts (added k before a) (fused_after k (before ++ a ∷ []) rest) n tuple e) [
  | inl h ↦ added_messages k before a l m n tuple h
  | inr h ↦ fused_after_messages k (before ++ a ∷ []) rest l m h.0 tuple h.1
]

-- A tuple has one message of each reader.
pub fused_messages : (k : ℕ) (arrivals : List Arrival) → 1 ≤ k → k ≤ 4 → (n : ℕ) (tuple : Tuple) → slice_get (fused arrivals k) n ≡ Some tuple → length (messages_of tuple) ≡ k
unfolding fused
fused_messages k arrivals l m n tuple e = fused_after_messages k [] arrivals l m n tuple e
