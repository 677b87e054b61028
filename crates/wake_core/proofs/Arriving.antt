-- How much comes to a reader, and to a component.
use Rattle.std.proofs.Common.{ℕ, zero, suc, ◌+◌, ◌≡◌, ◌≤◌, arith, ap, List, [], ◌∷◌, length, slice_get, Some, take, map, sum, le_trans}
use Rattle.std.proofs.lemmas.List.{length-take}
use Rattle.std.proofs.lemmas.List.Sums.{sum_by-cons}
use Rattle.cy_msg.specs.declared.token.Token.{Token}
use Rattle.cy_msg.specs.Tokens.{on_channel}
use Rattle.cy_fuse.specs.Fusion.{fused}
use Rattle.wake_core.specs.Run.{Route}
use Rattle.wake_core.specs.Planned.{planned_count, counts_from, planned, first_reader}
use Rattle.wake_core.specs.Plain.{Plain, reads, of_role}
use Rattle.wake_core.specs.Sound.{Consistent}
use Rattle.wake_core.proofs.Fetching.{fused_few}
use Rattle.wake_core.proofs.Writers.{first_reads}

shorter : (xs ys : List Token) → xs ≡ take (length xs) ys → length xs ≤ length ys
shorter xs ys e = omega (arith, length-take (length xs) ys, ap length e)

-- No more messages arrive in a role than are planned on its channel.
pub arrived_few : (w : Plain) (c role channel : ℕ) → reads w.routes c role ≡ Some channel → Consistent w → length (of_role role (w.arrivals c)) ≤ planned_count w.routes w.counts channel
arrived_few w c role channel reading s = le_trans (shorter (of_role role (w.arrivals c)) (on_channel channel w.tape) (s.delivered.begins c role channel reading)) (s.room.taped channel)

one_of_sum : {X : Type 0} (f : X → ℕ) (xs : List X) (n : ℕ) (x : X) → slice_get xs n ≡ Some x → f x ≤ sum (map f xs)
one_of_sum f [] n x e = cc
one_of_sum f (y ∷ xs) zero x e =
    let same : y ≡ x = cc in
    let here : f y ≡ f x = ap f same in
    let cons : sum (map f (y ∷ xs)) ≡ f y + sum (map f xs) = sum_by-cons (λ n. n) (f y) (map f xs) in
    omega (arith, here, cons)
one_of_sum f (y ∷ xs) (suc n) x e =
    let rest = one_of_sum f xs n x e in
    let cons : sum (map f (y ∷ xs)) ≡ f y + sum (map f xs) = sum_by-cons (λ n. n) (f y) (map f xs) in
    omega (arith, rest, cons)

-- No more comes on the channel that triggers a component than is planned in all.
pub planned_trigger : (routes : List Route) (counts : List ℕ) (c : ℕ) (x : Route) → slice_get routes c ≡ Some x → planned_count routes counts (first_reader x) ≤ planned routes counts
unfolding planned
planned_trigger routes counts c x at =
    let one = one_of_sum (λ (x : Route). planned_count routes counts (first_reader x)) routes c x at in
    omega (arith, one)

-- .. nor on all channels together.
pub planned_messages : (routes : List Route) (counts : List ℕ) → counts_from routes counts 0 (length counts) ≤ planned routes counts
unfolding planned
planned_messages routes counts = omega arith

-- No more tuples are fused at a component than messages come that trigger it.
pub fused_planned : (w : Plain) (c : ℕ) (x : Route) → slice_get w.routes c ≡ Some x → Consistent w → length (fused (w.arrivals c) (length x.readers)) ≤ planned_count w.routes w.counts (first_reader x)
fused_planned w c x at s = le_trans (fused_few (length x.readers) (w.arrivals c)) (arrived_few w c 0 (first_reader x) (first_reads w.routes c x at (s.wired.some_reader c x at)) s)
