-- Sums over components and channels, from one to the next.
use Rattle.std.proofs.Common.{ℕ, zero, suc, ◌+◌, ◌-◌, ◌≡◌, ◌<◌, ◌==◌, Bool, true, false, refl, sym, ◌∙◌, ap, arith, Option, Some, None, List, [], ◌∷◌, length, map, sum, slice_get, slice_index, get_or, drop, cond, position, option_map}
use Rattle.std.specs.List.{position_or_len, fold}
use Rattle.std.specs.Prelude.{nat_lt}
use Rattle.std.proofs.lemmas.Bool.Decides.{nat_tests}
use Rattle.std.proofs.lemmas.List.Quantifiers.{position-Some}
use Rattle.std.proofs.lemmas.Option.{slice_get-map, slice_get_read, slice_get-get_or}
use Rattle.cy_comp.specs.declared.plan.Plan.{Plan}
use Rattle.cy_comp.specs.Wiring.{IsWiring, writer_from}
use Rattle.wake_core.specs.Run.{Route, route_of, routes_of, writes_from}
use Rattle.wake_core.specs.Planned.{planned_count, source_of, source_after, counts_from}
use Rattle.wake_core.proofs.Writers.{source_root}
use Rattle.wake_core.proofs.Rooted.{writes_from-routes, source_of-writer}

sum_from : (k : ℕ) (xs : List ℕ) → fold (λ (a b : ℕ). a + b) k xs ≡ k + sum xs
sum_from k [] = omega arith
sum_from k (x ∷ xs) = let here = sum_from (k + x) xs in let there = sum_from (0 + x) xs in omega (arith, here, there)

pub sum_first : (x : ℕ) (xs : List ℕ) → sum (x ∷ xs) ≡ x + sum xs
sum_first x xs = let there = sum_from (0 + x) xs in omega (arith, there)

-- What is summed is that of one place, and what follows it.
pub sum_next : {X : Type 0} (f : X → ℕ) (xs : List X) (i : ℕ) (x : X) → slice_get xs i ≡ Some x → sum (map f (drop i xs)) ≡ f x + sum (map f (drop (i + 1) xs))
sum_next {X} f xs i x at = let more : i + 1 ≡ suc i = omega arith in by xs i at ∙ ap (λ k. f x + sum (map f (drop k xs))) (sym more)
  where
    by : (xs : List X) (i : ℕ) → slice_get xs i ≡ Some x → sum (map f (drop i xs)) ≡ f x + sum (map f (drop (suc i) xs))
    by [] i e = cc
    by (y ∷ xs) zero e = let same : y ≡ x = cc in sum_first (f y) (map f xs) ∙ ap (λ z. f z + sum (map f xs)) same
    by (y ∷ xs) (suc i) e = by xs i e

-- One more of a sum is added.
pub sum_added : {X : Type 0} (f : X → ℕ) (xs : List X) (i : ℕ) (x : X) (so_far more : ℕ) → slice_get xs i ≡ Some x → more ≡ f x → so_far + sum (map f (drop i xs)) ≡ sum (map f xs)
    → so_far + more + sum (map f (drop (i + 1) xs)) ≡ sum (map f xs)
sum_added f xs i x so_far more at is h = let next = sum_next f xs i x at in omega (arith, next, is, h)

-- The writer of a channel is the first component that writes it.
place_of_writer : (plans : List Plan) (first channel : ℕ) → writer_from (λ (p : Plan). p.out) first plans channel ≡ option_map (λ n. first + n) (position (λ (p : Plan). p.out == channel) plans)
place_of_writer [] first channel = refl
place_of_writer (p ∷ plans) first channel = by (p.out == channel) refl (position_or_len (λ (p : Plan). p.out == channel) plans) refl (place_of_writer plans (first + 1) channel)
  where
    by : (b : Bool) → p.out == channel ≡ b → (k : ℕ) → position_or_len (λ (p : Plan). p.out == channel) plans ≡ k
        → writer_from (λ (p : Plan). p.out) (first + 1) plans channel ≡ option_map (λ n. first + 1 + n) (cond (nat_lt k (length plans)) (Some k) None)
        → writer_from (λ (p : Plan). p.out) first (p ∷ plans) channel ≡ option_map (λ n. first + n) (position (λ (p : Plan). p.out == channel) (p ∷ plans))
    by true is k at rest =
        let whole : first ≡ first + 0 = omega arith in
        let some : nat_lt 0 (length (p ∷ plans)) ≡ true = grind (arith, nat_tests) in
        rw is (ap Some whole ∙ ap (λ b. option_map (λ n. first + n) (cond b (Some 0) None)) (sym some))
    by false is k at rest =
        let next : nat_lt (1 + k) (length (p ∷ plans)) ≡ nat_lt k (length plans) = grind (arith, nat_tests) in
        rw (is, at) (rest ∙ go (nat_lt k (length plans)) ∙ ap (λ b. option_map (λ n. first + n) (cond b (Some (1 + k)) None)) (sym next))
      where
        go : (b : Bool) → option_map (λ n. first + 1 + n) (cond b (Some k) None) ≡ option_map (λ n. first + n) (cond b (Some (1 + k)) None)
        go true = let same : first + 1 + k ≡ first + (1 + k) = omega arith in ap Some same
        go false = refl

pub writes_position : (plans : List Plan) (channel : ℕ) → writes_from 0 (routes_of plans) channel ≡ position (λ (p : Plan). p.out == channel) plans
writes_position plans channel = writes_from-routes 0 plans channel ∙ place_of_writer plans 0 channel ∙ whole (position (λ (p : Plan). p.out == channel) plans)
  where
    whole : (o : Option ℕ) → option_map (λ n. 0 + n) o ≡ o
    whole None = refl
    whole (Some n) = let same : 0 + n ≡ n = omega arith in ap Some same

-- The source of a channel.
pub source_itself : (plans : List Plan) (channel : ℕ) → position (λ (p : Plan). p.out == channel) plans ≡ None → channel ≡ source_of (routes_of plans) channel
source_itself plans channel none = sym (source_root (routes_of plans) channel (writes_position plans channel ∙ none))

pub source_read : (names : List (List ℕ)) (plans : List Plan) → IsWiring names plans → (channel c : ℕ) (p : Plan) → position (λ (p : Plan). p.out == channel) plans ≡ Some c → slice_get plans c ≡ Some p
    → slice_index p.readers 0 ≡ source_of (routes_of plans) channel
source_read names plans wiring channel c p at is = sym (source_of-writer names plans wiring channel c p (writes_position plans channel ∙ at) is)

-- What is counted from a channel on, from one to the next.
pub counts_next : (routes : List Route) (counts : List ℕ) (first all : ℕ) → first < all → counts_from routes counts first (all - first) ≡ planned_count routes counts first + counts_from routes counts (first + 1) (all - (first + 1))
counts_next routes counts first all l = by (all - first) refl
  where
    by : (n : ℕ) → all - first ≡ n → counts_from routes counts first n ≡ planned_count routes counts first + counts_from routes counts (first + 1) (all - (first + 1))
    by zero e = absurd (omega (arith, l, e))
    by (suc n) e =
        let less : n ≡ all - (first + 1) = omega (arith, e) in
        let more : suc first ≡ first + 1 = omega arith in
        ap (λ k. planned_count routes counts first + counts_from routes counts k n) more ∙ ap (λ k. planned_count routes counts first + counts_from routes counts (first + 1) k) less

pub counts_added : (routes : List Route) (counts : List ℕ) (first all so_far more whole : ℕ) → first < all → more ≡ planned_count routes counts first
    → so_far + counts_from routes counts first (all - first) ≡ whole → so_far + more + counts_from routes counts (first + 1) (all - (first + 1)) ≡ whole
counts_added routes counts first all so_far more whole l is h = let next = counts_next routes counts first all l in omega (arith, next, is, h)

-- From source to source, as often as there are components.
pub source_again : (routes : List Route) (channel : ℕ) (first last : ℕ) → first < last → source_after routes (last - first) channel ≡ source_after routes (last - (first + 1)) (source_of routes channel)
source_again routes channel first last l = let more : last - first ≡ suc (last - (first + 1)) = omega (arith, l) in ap (λ n. source_after routes n channel) more

-- The plan at a place.
pub plan_at : (plans items : List Plan) (i : ℕ) (p : Plan) → items ≡ plans → i < length items → p ≡ get_or items i p → slice_get plans i ≡ Some p
plan_at plans items i p is l at = ap (λ (ps : List Plan). slice_get ps i) (sym is) ∙ slice_get_read items (length items) i p refl l at

pub route_at : (plans : List Plan) (i : ℕ) (p : Plan) → slice_get plans i ≡ Some p → slice_get (routes_of plans) i ≡ Some (route_of p)
route_at plans i p at = slice_get-map route_of plans i ∙ ap (option_map route_of) at

pub writer_at : (plans items : List Plan) (channel c : ℕ) (p : Plan) → items ≡ plans → position (λ (p : Plan). p.out == channel) plans ≡ Some c → p ≡ get_or items c p → slice_get plans c ≡ Some p
writer_at plans items channel c p is at by =
    let found = position-Some (λ (p : Plan). p.out == channel) plans c p at in
    plan_at plans items c p is (rw is found.0) by

-- The channels that a component reads are known.
pub reader_known : (names : List (List ℕ)) (plans : List Plan) → IsWiring names plans → (i : ℕ) (p : Plan) → slice_get plans i ≡ Some p → slice_index p.readers 0 < length names
reader_known names plans wiring i p at = wiring.readers_named i p at 0 (slice_index p.readers 0) (slice_get-get_or p.readers 0 0 (wiring.some_reader i p at))
