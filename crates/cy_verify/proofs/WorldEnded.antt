-- What the world shows of a component that was followed to its end.
use Rattle.std.proofs.Common.{ℕ, zero, suc, ◌≡◌, ◌⊎◌, Bool, true, false, refl, ap, inl, inr, arith, List, [], ◌∷◌, length, map, Some, None, Option, slice_get, if◌then◌else◌}
use Rattle.std.proofs.lemmas.List.{length-map}
use Rattle.std.proofs.lemmas.Option.{slice_get_within}
use Rattle.cy_fuse.specs.Visitor.{VisitorView}
use Rattle.cy_comp.specs.Routine.{RoutineView}
use Rattle.cy_comp.specs.declared.state.State.TheVariants.{Ready, DataWait, Finished}
use Rattle.wake_core.specs.declared.route.Route.{Route}
use Rattle.wake_core.specs.Fields.{read, no_routine}
use Rattle.wake_core.specs.Run.{route_of, routes_of}
use Rattle.cy_trace.specs.declared.trace.TraceComponent.{TraceComponent}
use Rattle.cy_msg.specs.declared.token.Token.{Token}
use Rattle.cy_msg.proofs.Lists.{there, get_in}
use Rattle.cy_verify.specs.Verdict.{Task}
use Rattle.cy_verify.specs.declared.follower.Follower.{Follower}
use Rattle.cy_verify.specs.declared.walk.Walk.{Walk}
use Rattle.cy_verify.specs.private.Following.{MayFollow, HasEnded}
use Rattle.cy_verify.specs.private.Walking.{HasWalked, names_it}
use Rattle.cy_verify.specs.private.Ending.{visitors_in, routines_in, calls_in}
use Rattle.cy_verify.proofs.Walked.{some_one, may_follow}

-- What is read of a list of parts.
pub read_got : {X Y Z : Type 0} (g : Y → Z) (d : Z) (h : X → Y) (xs : List X) (c : ℕ) (x : X) → slice_get xs c ≡ Some x → read g d (map h xs) c ≡ g (h x)
unfolding read
read_got g d h [] c x e = cc
read_got g d h (y ∷ xs) zero x e = ap (λ z. g (h z)) (some_one e)
read_got g d h (y ∷ xs) (suc c) x e = read_got g d h xs c x e

pub read_nothing : {X Y Z : Type 0} (g : Y → Z) (d : Z) (h : X → Y) (xs : List X) (c : ℕ) → slice_get xs c ≡ None → read g d (map h xs) c ≡ d
unfolding read
read_nothing g d h [] c e = refl
read_nothing g d h (y ∷ xs) zero e = cc
read_nothing g d h (y ∷ xs) (suc c) e = read_nothing g d h xs c e

-- The calls of a follower.
pub calls_are : (followers : List Follower) (c : ℕ) (f : Follower) → slice_get followers c ≡ Some f → calls_in followers c ≡ f.routine.calls
calls_are followers c f at = ap (λ (r : RoutineView). r.calls) (read_got (λ (r : RoutineView). r) no_routine (λ (f : Follower). f.routine) followers c f at)

-- A component that was followed to its end, and what the world shows of it.
pub record IsAt (told : List TraceComponent) (stopped : Bool) (followers : List Follower) (tape : List Token) (c : ℕ) (x : Route) : Type 0 where
  pub component : TraceComponent
  pub follower : Follower
  pub told_at : slice_get told c ≡ Some component
  pub at : slice_get followers c ≡ Some follower
  pub may : MayFollow x follower tape
  pub ended : HasEnded x component stopped follower tape
  pub states : read (λ (r : RoutineView). r.state) Ready (routines_in followers) c ≡ follower.routine.state
  pub calls : calls_in followers c ≡ follower.routine.calls
  pub arrivals : read (λ (v : VisitorView). v.arrivals) [] (visitors_in followers) c ≡ follower.visitor.arrivals

-- It has ended, or waits.
pub ended_as : {x : Route} {k : TraceComponent} {stopped : Bool} {f : Follower} {tape : List Token} → HasEnded x k stopped f tape
    → ((k.finished ≡ true) × (f.routine.state ≡ Finished)) ⊎ ((k.finished ≡ false) × (f.routine.state ≡ DataWait))
ended_as {x} {k} {stopped} {f} {tape} h = by k.finished refl h.state
  where
    by : (b : Bool) → k.finished ≡ b → f.routine.state ≡ (if b then Finished else DataWait) → ((k.finished ≡ true) × (f.routine.state ≡ Finished)) ⊎ ((k.finished ≡ false) × (f.routine.state ≡ DataWait))
    by true e s = inl (e, s)
    by false e s = inr (e, s)

module _ (t : Task) (told : List TraceComponent) (w : Walk) (many : length told ≡ length t.plans) (h : HasWalked t told w) where
  pub at_route : (c : ℕ) (x : Route) → slice_get (routes_of t.plans) c ≡ Some x → IsAt told (names_it t.stop c) w.followers.items w.tape.items c x
  at_route c x at =
      let l = slice_get_within (routes_of t.plans) c x at in
      let k = there told c (omega (arith, l, many, length-map t.plans route_of)) in
      let f = there w.followers.items c (omega (arith, l, h.are_of.many)) in
      record {
        component = k.0;
        follower = f.0;
        told_at = k.1;
        at = f.1;
        may = may_follow h.known h.are_of h.taped c x f.0 at f.1;
        ended = h.ended c x k.0 f.0 at k.1 f.1;
        states = read_got (λ (r : RoutineView). r.state) Ready (λ (f : Follower). f.routine) w.followers.items c f.0 f.1;
        calls = calls_are w.followers.items c f.0 f.1;
        arrivals = read_got (λ (v : VisitorView). v.arrivals) [] (λ (f : Follower). f.visitor) w.followers.items c f.0 f.1;
      }

  -- Past the components there is nothing.
  pub none_followed : (c : ℕ) → slice_get (routes_of t.plans) c ≡ None → slice_get w.followers.items c ≡ None
  none_followed c none = by (slice_get w.followers.items c) refl
    where
      by : (o : Option Follower) → slice_get w.followers.items c ≡ o → o ≡ None
      by None e = refl
      by (Some f) e = absurd (get_in (routes_of t.plans) c (let l = slice_get_within w.followers.items c f e in omega (arith, l, h.are_of.many)) none)

  pub past_ready : (c : ℕ) → slice_get (routes_of t.plans) c ≡ None → read (λ (r : RoutineView). r.state) Ready (routines_in w.followers.items) c ≡ Ready
  past_ready c none = read_nothing (λ (r : RoutineView). r.state) Ready (λ (f : Follower). f.routine) w.followers.items c (none_followed c none)

  pub past_arrivals : (c : ℕ) → slice_get (routes_of t.plans) c ≡ None → read (λ (v : VisitorView). v.arrivals) [] (visitors_in w.followers.items) c ≡ []
  past_arrivals c none = read_nothing (λ (v : VisitorView). v.arrivals) [] (λ (f : Follower). f.visitor) w.followers.items c (none_followed c none)
