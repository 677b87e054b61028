-- In a wiring, following triggers comes to a channel that no component writes, within as many steps as there are components. So
-- what is planned on a component's channel is what is planned on the one that triggers it.
use Rattle.std.proofs.Common.{ℕ, zero, suc, ◌+◌, ◌-◌, ◌≡◌, ◌≢◌, ◌≤◌, ◌<◌, true, false, refl, sym, ◌∙◌, ap, inl, inr, arith, Option, Some, None, List, [], ◌∷◌, length, slice_get, slice_index, ◌==◌, cond, option_and_then, option_map}
use Rattle.std.proofs.lemmas.Bool.Decides.{eqb_tells}
use Rattle.std.proofs.lemmas.List.{length-map}
use Rattle.std.proofs.lemmas.Option.{slice_get-map, slice_get_within, slice_get-get_or}
use Rattle.std.proofs.lemmas.Map.Steps.{length-le_from_distinct_below}
use Rattle.std.specs.List.{list_any, IsDistinct, AllByRecursion}
use Rattle.cy_msg.specs.declared.token.Tuple.{Tuple}
use Rattle.cy_msg.proofs.Lists.{either}
use Rattle.cy_comp.specs.declared.plan.Plan.{Plan}
use Rattle.cy_comp.specs.declared.call.Out.{Out}
use Rattle.cy_comp.specs.declared.call.Outcome.TheVariants.{Hold}
use Rattle.cy_comp.specs.Step.{outcome_after}
use Rattle.cy_comp.specs.Wiring.{IsWiring, writer_from, writer_of, trigger_of, trigger_after}
use Rattle.wake_core.specs.Run.{Route, route_of, routes_of, writes_from}
use Rattle.wake_core.specs.Planned.{planned_count, source_of, source_after, first_reader}
use Rattle.wake_core.specs.Sound.{IsWired}
use Rattle.wake_core.proofs.Writers.{source_root, source_after_root, unwritten_out, writes_some, IsWriter}

pub writes_from-routes : (first : ℕ) (plans : List Plan) (channel : ℕ) → writes_from first (routes_of plans) channel ≡ writer_from (λ (p : Plan). p.out) first plans channel
writes_from-routes first [] channel = refl
writes_from-routes first (p ∷ plans) channel = ap (λ o. cond (p.out == channel) (Some first) o) (writes_from-routes (first + 1) plans channel)

trigger_snoc : (plans : List Plan) (n c d e : ℕ) → trigger_after plans n c ≡ Some d → trigger_of plans d ≡ Some e → trigger_after plans (suc n) c ≡ Some e
trigger_snoc plans zero c d e a b = let same : c ≡ d = cc in ap (option_and_then (λ k. Some k)) (ap (trigger_of plans) same ∙ b)
trigger_snoc plans (suc n) c d e a b = go (λ m is. trigger_snoc plans n m d e is b) (trigger_of plans c) a
  where
    go : ((m : ℕ) → trigger_after plans n m ≡ Some d → trigger_after plans (suc n) m ≡ Some e) → (o : Option ℕ) → option_and_then (trigger_after plans n) o ≡ Some d
        → option_and_then (trigger_after plans (suc n)) o ≡ Some e
    go later None is = cc
    go later (Some m) is = later m is

-- A component, and those that its triggers lead to, so many steps on.
abbrev chain_on : (ℕ → List ℕ) → Option ℕ → List ℕ
chain_on rest None = []
chain_on rest (Some d) = rest d

abbrev chain : List Plan → ℕ → ℕ → List ℕ
chain plans zero c = c ∷ []
chain plans (suc n) c = c ∷ chain_on (chain plans n) (trigger_of plans c)

-- One step more, at the end.
source_next : (routes : List Route) (n channel : ℕ) → source_after routes (suc n) channel ≡ source_of routes (source_after routes n channel)
source_next routes zero channel = refl
source_next routes (suc n) channel = source_next routes n (source_of routes channel)

module _ (names : List (List ℕ)) (plans : List Plan) (wiring : IsWiring names plans) where
  -- The component that triggers another writes what that reads first.
  trigger_writes : (c : ℕ) (p : Plan) → slice_get plans c ≡ Some p → trigger_of plans c ≡ writes_from 0 (routes_of plans) (first_reader (route_of p))
  trigger_writes c p at = rw (at, slice_get-get_or p.readers 0 0 (wiring.some_reader c p at)) (sym (writes_from-routes 0 plans (slice_index p.readers 0)))

  at_writer : (channel d : ℕ) → writes_from 0 (routes_of plans) channel ≡ Some d → (p : Plan) × (slice_get plans d ≡ Some p) × (p.out ≡ channel)
  at_writer channel d e = by (slice_get plans d) refl
    where
      w : IsWriter (routes_of plans) 0 channel d
      w = writes_some (routes_of plans) 0 channel d e

      at : option_map route_of (slice_get plans d) ≡ Some w.route
      at = let whole : d ≡ d - 0 = omega arith in sym (slice_get-map route_of plans d) ∙ ap (slice_get (routes_of plans)) whole ∙ w.at

      by : (o : Option Plan) → slice_get plans d ≡ o → (p : Plan) × (slice_get plans d ≡ Some p) × (p.out ≡ channel)
      by None is = let none : None ≡ Some w.route = ap (option_map route_of) (sym is) ∙ at in cc
      by (Some p) is =
          let same : Some (route_of p) ≡ Some w.route = ap (option_map route_of) (sym is) ∙ at in
          let route : route_of p ≡ w.route = cc in
          (p, is, ap (λ (x : Route). x.out) route ∙ w.writes)

  -- From a written channel a source is that of the writer's first reader.
  pub source_of-writer : (channel c : ℕ) (p : Plan) → writes_from 0 (routes_of plans) channel ≡ Some c → slice_get plans c ≡ Some p → source_of (routes_of plans) channel ≡ first_reader (route_of p)
  source_of-writer channel c p e at = rw (e, slice_get-map route_of plans c, at) refl

  -- Where so many steps come to a written channel, so many components are on the way.
  chain_long : (n channel c : ℕ) → writes_from 0 (routes_of plans) channel ≡ Some c → writes_from 0 (routes_of plans) (source_after (routes_of plans) n channel) ≢ None
      → length (chain plans n c) ≡ suc n
  chain_long zero channel c e some = refl
  chain_long (suc n) channel c e some =
      let p = at_writer channel c e in
      let step = source_of-writer channel c p.0 e p.1 in
      let some' : writes_from 0 (routes_of plans) (source_after (routes_of plans) n (first_reader (route_of p.0))) ≢ None = λ none. some (ap (λ k. writes_from 0 (routes_of plans) (source_after (routes_of plans) n k)) step ∙ none) in
      ap suc (go (first_reader (route_of p.0)) (λ d is. chain_long n (first_reader (route_of p.0)) d is some') some' (trigger_of plans c) (trigger_writes c p.0 p.1) (writes_from 0 (routes_of plans) (first_reader (route_of p.0))) refl)
    where
      go : (first : ℕ) → ((d : ℕ) → writes_from 0 (routes_of plans) first ≡ Some d → length (chain plans n d) ≡ suc n)
          → writes_from 0 (routes_of plans) (source_after (routes_of plans) n first) ≢ None
          → (t : Option ℕ) → t ≡ writes_from 0 (routes_of plans) first → (o : Option ℕ) → writes_from 0 (routes_of plans) first ≡ o → length (chain_on (chain plans n) t) ≡ suc n
      go first rest some t is None none = absurd (some (ap (writes_from 0 (routes_of plans)) (source_after_root (routes_of plans) n first none) ∙ none))
      go first rest some t is (Some d) at = ap (λ o. length (chain_on (chain plans n) o)) (is ∙ at) ∙ rest d at

  -- No component comes to itself.
  apart : (n m c d : ℕ) → trigger_after plans (suc m) c ≡ Some d → AllByRecursion (λ y. (c == y) ≡ false) (chain plans n d)
  apart zero m c d to = (other m c d to, tt)
    where
      other : (m c d : ℕ) → trigger_after plans (suc m) c ≡ Some d → (c == d) ≡ false
      other m c d to = elim (eqb_tells c d) [ inl h ↦ absurd (wiring.no_cycle m c (to ∙ ap (λ k. Some k) (sym h.1))) | inr h ↦ h.0 ]
  apart (suc n) m c d to = (other m c d to, go (λ e more. apart n (suc m) c e more) (trigger_of plans d) refl)
    where
      other : (m c d : ℕ) → trigger_after plans (suc m) c ≡ Some d → (c == d) ≡ false
      other m c d to = elim (eqb_tells c d) [ inl h ↦ absurd (wiring.no_cycle m c (to ∙ ap (λ k. Some k) (sym h.1))) | inr h ↦ h.0 ]

      go : ((e : ℕ) → trigger_after plans (suc (suc m)) c ≡ Some e → AllByRecursion (λ y. (c == y) ≡ false) (chain plans n e)) → (o : Option ℕ) → trigger_of plans d ≡ o
          → AllByRecursion (λ y. (c == y) ≡ false) (chain_on (chain plans n) o)
      go rest None is = tt
      go rest (Some e) is = rest e (trigger_snoc plans (suc m) c d e to is)

  chain_distinct : (n c : ℕ) → IsDistinct (λ x y. x == y) (chain plans n c)
  unfolding IsDistinct
  chain_distinct zero c = (tt, tt)
  chain_distinct (suc n) c = go (λ d is. apart n 0 c d (ap (option_and_then (λ k. Some k)) is)) (chain_distinct n) (trigger_of plans c) refl
    where
      go : ((d : ℕ) → trigger_of plans c ≡ Some d → AllByRecursion (λ y. (c == y) ≡ false) (chain plans n d)) → ((d : ℕ) → IsDistinct (λ x y. x == y) (chain plans n d)) → (o : Option ℕ) → trigger_of plans c ≡ o
          → IsDistinct (λ x y. x == y) (c ∷ chain_on (chain plans n) o)
      go first rest None is = (tt, tt)
      go first rest (Some d) is = (first d is, rest d)

  chain_inside : (n c : ℕ) → c < length plans → (q : ℕ) → list_any (λ y. q == y) (chain plans n c) ≡ true → q < length plans
  chain_inside zero c l q e = elim (either (q == c) false e) [ inl h ↦ is q c h l | inr h ↦ cc ]
    where
      is : (q c : ℕ) → (q == c) ≡ true → c < length plans → q < length plans
      is q c e l = elim (eqb_tells q c) [ inl h ↦ rw h.1 l | inr h ↦ let none : false ≡ true = sym h.0 ∙ e in cc ]
  chain_inside (suc n) c l q e = elim (either (q == c) (list_any (λ y. q == y) (chain_on (chain plans n) (trigger_of plans c))) e) [
    | inl h ↦ is q c h l
    | inr h ↦ go (λ d inside. chain_inside n d inside q) (trigger_of plans c) refl h
  ]
    where
      is : (q c : ℕ) → (q == c) ≡ true → c < length plans → q < length plans
      is q c e l = elim (eqb_tells q c) [ inl h ↦ rw h.1 l | inr h ↦ let none : false ≡ true = sym h.0 ∙ e in cc ]

      go : ((d : ℕ) → d < length plans → list_any (λ y. q == y) (chain plans n d) ≡ true → q < length plans) → (o : Option ℕ) → trigger_of plans c ≡ o
          → list_any (λ y. q == y) (chain_on (chain plans n) o) ≡ true → q < length plans
      go rest None is any = cc
      go rest (Some d) is any = rest d (inside d is) any
        where
          inside : (d : ℕ) → trigger_of plans c ≡ Some d → d < length plans
          inside d is = by (slice_get plans c) refl is
            where
              by : (o : Option Plan) → slice_get plans c ≡ o → trigger_of plans c ≡ Some d → d < length plans
              by None none is = let e : None ≡ Some d = sym (ap (option_and_then (λ (p : Plan). option_and_then (writer_of plans) (slice_get p.readers 0))) none) ∙ is in cc
              by (Some p) at is = let w = at_writer (first_reader (route_of p)) d (sym (trigger_writes c p at) ∙ is) in slice_get_within plans d w.0 w.1

  -- As many steps as there are components come to a channel that no component writes.
  rooted : (channel : ℕ) → writes_from 0 (routes_of plans) (source_after (routes_of plans) (length plans) channel) ≡ None
  rooted channel = by (writes_from 0 (routes_of plans) channel) refl (writes_from 0 (routes_of plans) (source_after (routes_of plans) (length plans) channel)) refl
    where
      too_many : (n m : ℕ) → n ≡ suc m → n ≤ m → ⊥
      too_many n m e l = omega arith

      by : (o : Option ℕ) → writes_from 0 (routes_of plans) channel ≡ o → (t : Option ℕ) → writes_from 0 (routes_of plans) (source_after (routes_of plans) (length plans) channel) ≡ t → t ≡ None
      by o from None to = refl
      by None from (Some d) to =
          let none : None ≡ Some d = sym from ∙ ap (writes_from 0 (routes_of plans)) (sym (source_after_root (routes_of plans) (length plans) channel from)) ∙ to in cc
      by (Some c) from (Some d) to =
          let p = at_writer channel c from in
          let long = chain_long (length plans) channel c from (λ none. some_none (sym to ∙ none)) in
          absurd (too_many (length (chain plans (length plans) c)) (length plans) long
          (length-le_from_distinct_below (chain plans (length plans) c) (length plans) (chain_distinct (length plans) c) (chain_inside (length plans) c (slice_get_within plans c p.0 p.1))))
        where
          some_none : Some d ≡ None → ⊥
          some_none e = cc

  pub its_plan : (c : ℕ) (x : Route) → slice_get (routes_of plans) c ≡ Some x → (p : Plan) × (slice_get plans c ≡ Some p) × (route_of p ≡ x)
  its_plan c x at = by (slice_get plans c) refl (sym (slice_get-map route_of plans c) ∙ at)
    where
      by : (o : Option Plan) → slice_get plans c ≡ o → option_map route_of o ≡ Some x → (p : Plan) × (slice_get plans c ≡ Some p) × (route_of p ≡ x)
      by None is e = cc
      by (Some p) is e = let same : route_of p ≡ x = cc in (p, is, same)

  -- A component's channel comes to the same source as the channel that triggers it.
  same_source : (c : ℕ) (x : Route) → slice_get (routes_of plans) c ≡ Some x → writes_from 0 (routes_of plans) x.out ≡ Some c
      → (n : ℕ) → length plans ≡ suc n → source_after (routes_of plans) (suc n) x.out ≡ source_after (routes_of plans) (suc n) (first_reader x)
  same_source c x at written n e =
      let p = its_plan c x at in
      let step : source_of (routes_of plans) x.out ≡ first_reader x = source_of-writer x.out c p.0 written p.1 ∙ ap first_reader p.2 in
      let first : source_after (routes_of plans) (suc n) x.out ≡ source_after (routes_of plans) n (first_reader x) = ap (source_after (routes_of plans) n) step in
      let root : writes_from 0 (routes_of plans) (source_after (routes_of plans) n (first_reader x)) ≡ None =
      ap (writes_from 0 (routes_of plans)) (sym first) ∙ ap (λ k. writes_from 0 (routes_of plans) (source_after (routes_of plans) k x.out)) (sym e) ∙ rooted x.out in
      first ∙ sym (source_root (routes_of plans) (source_after (routes_of plans) n (first_reader x)) root) ∙ sym (source_next (routes_of plans) n (first_reader x))

  -- What a wiring's components are wired by.
  pub wired : (counts : List ℕ) → length counts ≡ length names
      → ((c : ℕ) (p : Plan) (earlier : List Tuple) (tuple : Tuple) (until : ℕ) (out : Out) → slice_get plans c ≡ Some p → outcome_after p.kind earlier tuple ≡ Hold until out → out.time ≡ until)
      → IsWired (routes_of plans) counts
  unfolding planned_count
  wired counts counted held_to_time =
      let own : (c d : ℕ) (x y : Route) → slice_get (routes_of plans) c ≡ Some x → slice_get (routes_of plans) d ≡ Some y → x.out ≡ y.out → c ≡ d = λ c d x y at at' same.
      let p = its_plan c x at in
      let q = its_plan d y at' in
      wiring.own_outs c d p.0 q.0 p.1 q.1 (ap (λ (x : Route). x.out) p.2 ∙ same ∙ sym (ap (λ (x : Route). x.out) q.2)) in
      record {
        own_outs = own;
        some_reader = λ c x at. let p = its_plan c x at in let l = wiring.some_reader c p.0 p.1 in rw (sym p.2) l;
        outs_known = λ c x at. let p = its_plan c x at in let l = wiring.outs_named c p.0 p.1 in rw (sym p.2, counted) l;
        planned = λ c x at.
            let p = its_plan c x at in
            let inside = slice_get_within plans c p.0 p.1 in
            let written = by_itself c x at own (writes_from 0 (routes_of plans) x.out) refl in
            ap (slice_index counts) (at_length c x at written (length plans) refl inside);
        held_to_time = λ c x earlier tuple until out at is. let p = its_plan c x at in
            held_to_time c p.0 earlier tuple until out p.1 (ap (λ (x : Route). outcome_after x.kind earlier tuple) p.2 ∙ is);
      }
    where
      by_itself : (c : ℕ) (x : Route) → slice_get (routes_of plans) c ≡ Some x
          → ((c d : ℕ) (x y : Route) → slice_get (routes_of plans) c ≡ Some x → slice_get (routes_of plans) d ≡ Some y → x.out ≡ y.out → c ≡ d)
          → (o : Option ℕ) → writes_from 0 (routes_of plans) x.out ≡ o → writes_from 0 (routes_of plans) x.out ≡ Some c
      by_itself c x at own None e = absurd (unwritten_out (routes_of plans) x.out e c x at refl)
      by_itself c x at own (Some d) e =
          let w = writes_some (routes_of plans) 0 x.out d e in
          let whole : d - 0 ≡ d = omega arith in
          e ∙ ap (λ n. Some n) (own d c w.route x (ap (slice_get (routes_of plans)) (sym whole) ∙ w.at) at w.writes)

      at_length : (c : ℕ) (x : Route) → slice_get (routes_of plans) c ≡ Some x → writes_from 0 (routes_of plans) x.out ≡ Some c → (n : ℕ) → length plans ≡ n → c < n
          → source_after (routes_of plans) (length (routes_of plans)) x.out ≡ source_after (routes_of plans) (length (routes_of plans)) (first_reader x)
      at_length c x at written zero e inside = absurd (omega arith)
      at_length c x at written (suc n) e inside =
          let long : length (routes_of plans) ≡ suc n = length-map plans route_of ∙ e in
          ap (λ k. source_after (routes_of plans) k x.out) long ∙ same_source c x at written n e ∙ ap (λ k. source_after (routes_of plans) k (first_reader x)) (sym long)
