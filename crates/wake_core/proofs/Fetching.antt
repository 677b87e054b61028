-- How far lawful calls have come.
use Rattle.std.proofs.Common.{ℕ, zero, suc, ◌+◌, ◌-◌, ◌≡◌, ◌≤◌, ◌<◌, Bool, true, false, refl, sym, ◌∙◌, ap, arith, List, [], ◌∷◌, ◌++◌, length, take, Some, None, Option, slice_get, ◌==◌, cond, option_map, option_to_list, map, filter}
use Rattle.std.proofs.lemmas.Option.{slice_get_within}
use Rattle.std.proofs.Math.Seq.{take-length}
use Rattle.cy_msg.specs.declared.token.Token.{Token}
use Rattle.cy_msg.proofs.Lists.{take_next}
use Rattle.cy_fuse.specs.Fusion.{Arrival, joined, latest_of, fused_after, fused}
use Rattle.cy_fuse.specs.Laws.{FetchesFind}
use Rattle.cy_comp.specs.declared.call.Call.{Call}
use Rattle.cy_comp.specs.Calls.{cursor_after, tail_after, LawfulCalls}
use Rattle.wake_core.specs.Run.{Route}
use Rattle.wake_core.specs.Plain.{of_role}

pub cursor_push : (calls : List Call) (x : Call) → cursor_after (calls ++ x ∷ []) ≡ x.position + 1
cursor_push [] x = refl
cursor_push (y ∷ []) x = refl
cursor_push (y ∷ z ∷ rest) x = cursor_push (z ∷ rest) x

-- The tail at the last call is no more than what no call's tail passes.
pub tail_bounded : (bound : ℕ) (calls : List Call) → ((n : ℕ) (x : Call) → slice_get calls n ≡ Some x → x.tail ≤ bound) → tail_after calls ≤ bound
tail_bounded bound [] all = omega arith
tail_bounded bound (x ∷ []) all = all 0 x refl
tail_bounded bound (x ∷ y ∷ rest) all = tail_bounded bound (y ∷ rest) (λ n z e. all (suc n) z e)

some_there : (calls : List Call) (n : ℕ) → n < length calls → (x : Call) × (slice_get calls n ≡ Some x)
some_there [] n l = absurd (omega arith)
some_there (x ∷ calls) zero l = (x, refl)
some_there (x ∷ calls) (suc n) l = some_there calls n (omega arith)

-- Positions rise with each call.
pub position_rises : FetchesFind → (x : Route) (arrivals : List Arrival) (calls : List Call) → LawfulCalls x.kind arrivals (length x.readers) x.queue x.overflow calls
    → (n : ℕ) (call : Call) → slice_get calls n ≡ Some call → n + 1 ≤ call.position
position_rises law x arrivals calls l zero call e = (law.bounds (cursor_after (take 0 calls)) call.tail x.queue x.overflow call.position (l.positions 0 call e)).from_one
position_rises law x arrivals calls l (suc n) call e =
    let inside : n < length calls = omega (arith, slice_get_within calls (suc n) call e) in
    let y = some_there calls n inside in
    let below = position_rises law x arrivals calls l n y.0 y.1 in
    let more : suc n ≡ n + 1 = omega arith in
    let cursor : cursor_after (take (suc n) calls) ≡ y.0.position + 1 =
    ap (λ i. cursor_after (take i calls)) more ∙ ap cursor_after (take_next calls n y.0 y.1) ∙ cursor_push (take n calls) y.0 in
    let bounds = (law.bounds (cursor_after (take (suc n) calls)) call.tail x.queue x.overflow call.position (l.positions (suc n) call e)).from_index in
    omega (arith, below, cursor, bounds)

-- There are fewer calls than where the next fetch begins says.
pub calls_below : FetchesFind → (x : Route) (arrivals : List Arrival) (calls : List Call) → LawfulCalls x.kind arrivals (length x.readers) x.queue x.overflow calls
    → length calls ≤ cursor_after calls - 1
calls_below law x arrivals calls l = by (length calls) refl
  where
    by : (n : ℕ) → length calls ≡ n → length calls ≤ cursor_after calls - 1
    by zero e = omega arith
    by (suc n) e =
        let y = some_there calls n (omega arith) in
        let below = position_rises law x arrivals calls l n y.0 y.1 in
        let more : suc n ≡ n + 1 = omega arith in
        let all : take (suc n) calls ≡ calls = ap (λ i. take i calls) (sym e) ∙ take-length calls in
        let cursor : cursor_after calls ≡ y.0.position + 1 = ap cursor_after (sym all) ∙ ap (λ i. cursor_after (take i calls)) more ∙ ap cursor_after (take_next calls n y.0 y.1) ∙ cursor_push (take n calls) y.0 in
        omega (arith, below, cursor, e)

fused_after_few : (k : ℕ) (before rest : List Arrival) → length (fused_after k before rest) ≤ length (of_role 0 rest)
fused_after_few k before [] = omega arith
fused_after_few k before (a ∷ rest) = go (fused_after_few k (before ++ a ∷ []) rest) (a.0 == 0) (latest_of 1 (k - 1) before)
  where
    go : length (fused_after k (before ++ a ∷ []) rest) ≤ length (of_role 0 rest) → (b : Bool) (o : Option (List Token))
        → length (cond b (option_to_list (option_map (joined a.1) o)) [] ++ fused_after k (before ++ a ∷ []) rest)
        ≤ length (map (λ (x : Arrival). x.1) (cond b (a ∷ filter (λ x. x.0 == 0) rest) (filter (λ x. x.0 == 0) rest)))
    go l false o = l
    go l true None = omega (arith, l)
    go l true (Some ts) = omega (arith, l)

-- No more tuples are fused than messages of the first reader arrived.
pub fused_few : (k : ℕ) (arrivals : List Arrival) → length (fused arrivals k) ≤ length (of_role 0 arrivals)
unfolding fused
fused_few k arrivals = fused_after_few k [] arrivals
