-- Which channels components write.
use Rattle.std.proofs.Common.{ℕ, zero, suc, ◌+◌, ◌≡◌, ◌≢◌, Bool, true, false, ◌==◌, ◌||◌, cond, is_some, refl, sym, ◌∙◌, ap, inl, inr, List, [], ◌∷◌, Some, None, Option, option_map, slice_get}
use Rattle.std.proofs.lemmas.Bool.Decides.{eqb_tells}
use Rattle.std.specs.List.{find, list_any}
use Rattle.cy_comp.specs.declared.plan.Plan.{Plan}
use Rattle.wake_core.specs.declared.route.Route.{Route}
use Rattle.wake_core.specs.Run.{route_of, routes_of, writes_from}
use Rattle.cy_verify.specs.private.Passes.{held_on}
use Rattle.cy_comp.specs.Kind.{holds_outputs}

some_is : {X : Type 0} {a b : X} → Some a ≡ Some b → a ≡ b
some_is e = cc

pub any_plans : (plans : List Plan) (first channel : ℕ) → list_any (λ (p : Plan). p.out == channel) plans ≡ is_some (writes_from first (routes_of plans) channel)
any_plans [] first channel = refl
any_plans (p ∷ plans) first channel = by (p.out == channel) (any_plans plans (first + 1) channel)
  where
    by : (b : Bool) → list_any (λ (p : Plan). p.out == channel) plans ≡ is_some (writes_from (first + 1) (routes_of plans) channel)
        → (b || list_any (λ (p : Plan). p.out == channel) plans) ≡ is_some (cond b (Some first) (writes_from (first + 1) (routes_of plans) channel))
    by true rest = refl
    by false rest = rest

held_written : (plans : List Plan) (first channel : ℕ) → is_some (held_on plans channel) ≡ is_some (writes_from first (routes_of plans) channel)
held_written [] first channel = refl
held_written (p ∷ plans) first channel = by (p.out == channel) (held_written plans (first + 1) channel)
  where
    by : (b : Bool) → is_some (held_on plans channel) ≡ is_some (writes_from (first + 1) (routes_of plans) channel)
        → is_some (option_map (λ (p : Plan). holds_outputs p.kind) (cond b (Some p) (find (λ (p : Plan). p.out == channel) plans))) ≡ is_some (cond b (Some first) (writes_from (first + 1) (routes_of plans) channel))
    by true rest = refl
    by false rest = rest

none_by : {X Y : Type 0} (o : Option X) (p : Option Y) → is_some o ≡ is_some p → o ≡ None → p ≡ None
none_by o None e none = refl
none_by None (Some y) e none = cc
none_by (Some x) (Some y) e none = cc

-- What no component writes.
pub unheld_unwritten : (plans : List Plan) (channel : ℕ) → held_on plans channel ≡ None → writes_from 0 (routes_of plans) channel ≡ None
unheld_unwritten plans channel none = none_by (held_on plans channel) (writes_from 0 (routes_of plans) channel) (held_written plans 0 channel) none

pub unwritten_unheld : (plans : List Plan) (channel : ℕ) → writes_from 0 (routes_of plans) channel ≡ None → held_on plans channel ≡ None
unwritten_unheld plans channel none = none_by (writes_from 0 (routes_of plans) channel) (held_on plans channel) (sym (held_written plans 0 channel)) none

-- A component writes a channel, and holds its outputs back or not.
pub record IsHeldBy (plans : List Plan) (channel : ℕ) (holds : Bool) : Type 0 where
  pub place : ℕ
  pub plan : Plan
  pub at : slice_get plans place ≡ Some plan
  pub writes : plan.out ≡ channel
  pub is : holds_outputs plan.kind ≡ holds

pub held_by : (plans : List Plan) (channel : ℕ) (holds : Bool) → held_on plans channel ≡ Some holds → IsHeldBy plans channel holds
held_by [] channel holds e = cc
held_by (p ∷ plans) channel holds e = elim (eqb_tells p.out channel) [
  | inl h ↦ record {
    place = 0;
    plan = p;
    at = refl;
    writes = h.1;
    is = some_is (ap (λ b. option_map (λ (p : Plan). holds_outputs p.kind) (cond b (Some p) (find (λ (p : Plan). p.out == channel) plans))) (sym h.0) ∙ e);
  }
  | inr h ↦
      let rest = held_by plans channel holds (ap (λ b. option_map (λ (p : Plan). holds_outputs p.kind) (cond b (Some p) (find (λ (p : Plan). p.out == channel) plans))) (sym h.0) ∙ e) in
      record { place = suc rest.place; plan = rest.plan; at = rest.at; writes = rest.writes; is = rest.is }
]

held_some : (plans : List Plan) (c : ℕ) (p : Plan) → slice_get plans c ≡ Some p → held_on plans p.out ≢ None
held_some [] c p at = λ none. cc
held_some (q ∷ plans) zero p at = λ none. elim (eqb_tells q.out p.out) [
  | inl h ↦ some_none (sym (ap (λ b. option_map (λ (p : Plan). holds_outputs p.kind) (cond b (Some q) (find (λ (r : Plan). r.out == p.out) plans))) h.0) ∙ none)
  | inr h ↦ h.1 (ap (λ (r : Plan). r.out) (some_is at))
]
  where
    some_none : Some (holds_outputs q.kind) ≡ None → ⊥
    some_none e = cc
held_some (q ∷ plans) (suc c) p at = λ none. elim (eqb_tells q.out p.out) [
  | inl h ↦ some_none (sym (ap (λ b. option_map (λ (p : Plan). holds_outputs p.kind) (cond b (Some q) (find (λ (r : Plan). r.out == p.out) plans))) h.0) ∙ none)
  | inr h ↦ held_some plans c p at (sym (ap (λ b. option_map (λ (p : Plan). holds_outputs p.kind) (cond b (Some q) (find (λ (r : Plan). r.out == p.out) plans))) h.0) ∙ none)
]
  where
    some_none : Some (holds_outputs q.kind) ≡ None → ⊥
    some_none e = cc

-- No two components write one channel.
abbrev pub HasOwnOuts : List Route → Type 0
HasOwnOuts routes = (c d : ℕ) (x y : Route) → slice_get routes c ≡ Some x → slice_get routes d ≡ Some y → x.out ≡ y.out → c ≡ d

pub route_at : (plans : List Plan) (c : ℕ) (p : Plan) → slice_get plans c ≡ Some p → slice_get (routes_of plans) c ≡ Some (route_of p)
route_at [] c p at = cc
route_at (q ∷ plans) zero p at = ap (λ (r : Plan). Some (route_of r)) (some_is at)
route_at (q ∷ plans) (suc c) p at = route_at plans c p at

pub plan_at : (plans : List Plan) (c : ℕ) (x : Route) → slice_get (routes_of plans) c ≡ Some x → (p : Plan) × (slice_get plans c ≡ Some p) × (route_of p ≡ x)
plan_at [] c x at = cc
plan_at (q ∷ plans) zero x at = (q, refl, some_is at)
plan_at (q ∷ plans) (suc c) x at = plan_at plans c x at

-- A component's channel is written by it, held back or not.
pub held_own : (plans : List Plan) → HasOwnOuts (routes_of plans) → (c : ℕ) (x : Route) → slice_get (routes_of plans) c ≡ Some x → held_on plans x.out ≡ Some (holds_outputs x.kind)
held_own plans own c x at =
    let r = plan_at plans c x at in
    let some = held_some plans c r.0 r.1 in
    by (held_on plans x.out) refl (λ none. some (ap (λ (y : Route). held_on plans y.out) r.2 ∙ none))
  where
    by : (o : Option Bool) → held_on plans x.out ≡ o → held_on plans x.out ≢ None → o ≡ Some (holds_outputs x.kind)
    by None e some = absurd (some e)
    by (Some b) e some =
        let h = held_by plans x.out b e in
        let there = route_at plans h.place h.plan h.at in
        let same : h.place ≡ c = own h.place c (route_of h.plan) x there at h.writes in
        let is : route_of h.plan ≡ x = some_is (sym there ∙ ap (slice_get (routes_of plans)) same ∙ at) in
        ap (λ k. Some k) (sym h.is ∙ ap (λ (y : Route). holds_outputs y.kind) is)
