-- A walk before anything is followed.
use Rattle.std.proofs.Common.{Vec, Global, ℕ, zero, suc, ◌∷◌, ◌+◌, ◌≡◌, ◌≤◌, refl, sym, ◌∙◌, ap, subst, arith, Option, Some, None, List, [], length, map, option_map, slice_get, replicate, Bool, true, vec_capacity, sum}
use Rattle.std.proofs.lemmas.Option.{slice_get-map, slice_get_within}
use Rattle.std.proofs.lemmas.List.{length-map}
use Rattle.cy_msg.specs.declared.token.Token.{Token}
use Rattle.cy_fuse.specs.Visitor.{VisitorView}
use Rattle.cy_comp.specs.Routine.{RoutineView, new_routine}
use Rattle.cy_comp.specs.declared.plan.Plan.{Plan}
use Rattle.wake_core.specs.declared.entries.TheConstants.{MOST_PLANNED}
use Rattle.wake_core.proofs.Cited.{planned_kept, read_at}
use Rattle.cy_comp.specs.declared.call.Out.{Out}
use Rattle.cy_comp.specs.Calls.{outs, last_outcome, is_last}
use Rattle.wake_core.specs.declared.route.Route.{Route}
use Rattle.wake_core.specs.declared.parts.Parts.{Parts}
use Rattle.wake_core.specs.Plain.{Plain, Stop, opening_world}
use Rattle.wake_core.specs.Fields.{read, no_visitor, IsFixed, IsVisited, IsRoomy}
use Rattle.wake_core.specs.Parts.{AreFit, shown_by, routine_in}
use Rattle.wake_core.specs.WorldOf.{routes_in, counts_in, stop_in}
use Rattle.cy_verify.specs.Verdict.{Task}
use Rattle.cy_verify.specs.declared.follower.Follower.{Follower}
use Rattle.cy_verify.specs.declared.walk.Walk.{Walk}
use Rattle.cy_verify.specs.private.Walking.{IsOpening}
use Rattle.wake_core.specs.Planned.{first_reader, planned_count}
use Rattle.std.proofs.Common.{false, slice_index, take}
use Rattle.cy_msg.specs.Tokens.{on_channel}
use Rattle.cy_msg.proofs.Lists.{there}
use Rattle.cy_comp.specs.declared.call.Call.{Call}
use Rattle.cy_fuse.specs.Fusion.{Arrival}
use Rattle.wake_core.specs.Sound.{IsWired}
use Rattle.cy_trace.specs.declared.trace.TraceComponent.{TraceComponent}
use Rattle.cy_verify.specs.private.Following.{IsOf, Follows}
use Rattle.cy_verify.specs.private.Walking.{IsFresh, IsWalked}
use Rattle.cy_verify.proofs.FollowersMade.{IsNew}
use Rattle.cy_verify.proofs.Heard.{get_there}
use Rattle.wake_core.specs.Run.{route_of, routes_of}

read_get : {X Y : Type 0} (g : X → Y) (d : Y) (xs : List X) (n : ℕ) (x : X) → slice_get xs n ≡ Some x → read g d xs n ≡ g x
read_get g d xs n x e = read_at g d xs n x (slice_get_within xs n x e) ∙ ap g (get_there xs n x x e)

one : {X : Type 0} {a b : X} → Some a ≡ Some b → a ≡ b
one e = cc

head_is : {X : Type 0} {a b : X} {xs ys : List X} → a ∷ xs ≡ b ∷ ys → a ≡ b
head_is e = cc

tail_is : {X : Type 0} {a b : X} {xs ys : List X} → a ∷ xs ≡ b ∷ ys → xs ≡ ys
tail_is e = cc

outs_empty : (channel : ℕ) → outs channel [] ≡ []
unfolding outs
outs_empty channel = refl

all_true : (xs : List Bool) (n : ℕ) → length xs ≡ n → ((c : ℕ) → read (λ b. b) true xs c ≡ true) → xs ≡ replicate n true
unfolding read
all_true [] n e all = ap (λ k. replicate k true) e
all_true (x ∷ xs) n e all = ap (λ y. y ∷ xs) (all 0) ∙ ap (λ l. true ∷ l) (all_true xs (length xs) refl (λ c. all (suc c))) ∙ ap (λ k. replicate k true) e

-- Nothing was called yet of any component.
abbrev pub AreCallers : List Route → List Follower → Type 0
AreCallers routes fs = (c : ℕ) (x : Route) (f : Follower) → slice_get routes c ≡ Some x → slice_get fs c ≡ Some f → f.routine ≡ new_routine x.kind MOST_PLANNED

pub callers_are : (plans : List Plan) (fs : List Follower) → map (λ (f : Follower). f.routine) fs ≡ map (λ (p : Plan). new_routine p.kind MOST_PLANNED) plans → AreCallers (routes_of plans) fs
callers_are [] fs same c x f at is = cc
callers_are (p ∷ plans) [] same c x f at is = cc
callers_are (p ∷ plans) (g ∷ fs) same zero x f at is = first same at is
  where
    first : ◌≡◌ {A = List RoutineView} (g.routine ∷ map (λ (f : Follower). f.routine) fs) (new_routine p.kind MOST_PLANNED ∷ map (λ (p : Plan). new_routine p.kind MOST_PLANNED) plans)
        → Some (route_of p) ≡ Some x → Some g ≡ Some f → f.routine ≡ new_routine x.kind MOST_PLANNED
    first same at is = ap (λ (h : Follower). h.routine) (sym (one is)) ∙ head_is same ∙ ap (λ (y : Route). new_routine y.kind MOST_PLANNED) (one at)
callers_are (p ∷ plans) (g ∷ fs) same (suc c) x f at is = callers_are plans fs (tail_is same) c x f at is

pub visitors_many : (plans : List Plan) (counts : List ℕ) (stop : Option Stop) (parts : Parts) → shown_by parts ≡ opening_world (routes_of plans) counts stop → AreFit parts → length parts.visitors ≡ length plans
unfolding shown_by
visitors_many plans counts stop parts shown fit = fit.visitors_fit ∙ ap (λ (w : Plain). length w.routes) shown ∙ length-map plans route_of

-- The parts of an opening world, and followers of them.
module _ (routes : List Route) (counts : List ℕ) (stop : Option Stop) (parts : Parts) (shown : shown_by parts ≡ opening_world routes counts stop) (fit : AreFit parts) (fs : List Follower)
    (visitors : map (λ (f : Follower). f.visitor) fs ≡ parts.visitors) (callers : AreCallers routes fs) where
  pub routes_are : routes_in parts.fixed ≡ routes
  unfolding shown_by
  routes_are = ap (λ (w : Plain). w.routes) shown

  pub counts_are : counts_in parts.fixed ≡ counts
  unfolding shown_by
  counts_are = ap (λ (w : Plain). w.counts) shown

  pub stop_is : stop_in parts.fixed ≡ stop
  unfolding shown_by
  stop_is = ap (λ (w : Plain). w.stop) shown

  pub tape_is : parts.tape.items ≡ []
  unfolding shown_by
  tape_is = ap (λ (w : Plain). w.tape) shown

  pub spent_are : parts.spent ≡ replicate (length routes) true
  unfolding shown_by
  spent_are = all_true parts.spent (length routes) (fit.spent_fit ∙ ap length routes_are) (λ c. ap (λ (w : Plain). w.spent c) shown)

  pub many : length fs ≡ length routes
  many = sym (length-map fs (λ (f : Follower). f.visitor)) ∙ ap length visitors ∙ fit.visitors_fit ∙ ap length routes_are

  visitor_at : (c : ℕ) (f : Follower) → slice_get fs c ≡ Some f → slice_get parts.visitors c ≡ Some f.visitor
  visitor_at c f e = ap (λ l. slice_get l c) (sym visitors) ∙ slice_get-map (λ (f : Follower). f.visitor) fs c ∙ ap (option_map (λ (f : Follower). f.visitor)) e

  visitor_read : (c : ℕ) (f : Follower) → slice_get fs c ≡ Some f → read (λ v. v) no_visitor parts.visitors c ≡ f.visitor
  visitor_read c f e = read_get (λ v. v) no_visitor parts.visitors c f.visitor (visitor_at c f e)

  arrivals_none : (c : ℕ) (f : Follower) → slice_get fs c ≡ Some f → f.visitor.arrivals ≡ []
  unfolding shown_by
  arrivals_none c f e = sym (read_get (λ v. v.arrivals) [] parts.visitors c f.visitor (visitor_at c f e)) ∙ ap (λ (w : Plain). w.arrivals c) shown

  its_visited : IsVisited routes counts (read (λ v. v) no_visitor parts.visitors)
  its_visited = subst (λ (l : List ℕ). IsVisited routes l (read (λ v. v) no_visitor parts.visitors)) counts_are (subst (λ (l : List Route). IsVisited l (counts_in parts.fixed) (read (λ v. v) no_visitor parts.visitors)) routes_are fit.visited)

  pub its_roomy : IsRoomy routes counts (read (λ v. v) no_visitor parts.visitors) (routine_in parts) (vec_capacity parts.tape)
  its_roomy = subst (λ (l : List ℕ). IsRoomy routes l (read (λ v. v) no_visitor parts.visitors) (routine_in parts) (vec_capacity parts.tape)) counts_are
      (subst (λ (l : List Route). IsRoomy l (counts_in parts.fixed) (read (λ v. v) no_visitor parts.visitors) (routine_in parts) (vec_capacity parts.tape)) routes_are fit.roomy)

  pub each_of : IsFixed routes counts → (c : ℕ) (x : Route) (f : Follower) → slice_get routes c ≡ Some x → slice_get fs c ≡ Some f → IsOf x (planned_count routes counts (first_reader x)) f
  each_of fixed c x f at e = record {
    kind = ap (λ (r : RoutineView). r.kind) (callers c x f at e);
    roles = ap (λ (v : VisitorView). v.roles) (sym (visitor_read c f e)) ∙ its_visited.roles c x at;
    overflow = ap (λ (v : VisitorView). v.overflow) (sym (visitor_read c f e)) ∙ its_visited.overflows c x at;
    queue = ap (λ (v : VisitorView). v.queue) (sym (visitor_read c f e)) ∙ its_visited.queues c x at;
    calls = subst (λ (r : RoutineView). planned_count routes counts (first_reader x) ≤ length r.calls + r.spare) (sym (callers c x f at e)) (planned_kept routes counts c x at fixed);
  }

  pub each_roomy : (c : ℕ) (x : Route) (f : Follower) → slice_get routes c ≡ Some x → slice_get fs c ≡ Some f → sum (map (planned_count routes counts) x.readers) ≤ length f.visitor.arrivals + f.visitor.spare
  each_roomy c x f at e = subst (λ (v : VisitorView). sum (map (planned_count routes counts) x.readers) ≤ length v.arrivals + v.spare) (visitor_read c f e) (its_roomy.arrivals c x at)

  pub each_fresh : (c : ℕ) (f : Follower) → IsNew f → slice_get fs c ≡ Some f → IsFresh f
  each_fresh c f new e =
      let x = there routes c (rw (← many) (slice_get_within fs c f e)) in
      record {
        searched = new.0;
        outputs = new.1;
        ended = new.2;
        arrivals = arrivals_none c f e;
        calls = ap (λ (r : RoutineView). r.calls) (callers c x.0 f x.1 e);
        pending = ap (λ (r : RoutineView). r.pending) (callers c x.0 f x.1 e);
      }

-- So it is the opening of a walk.
pub opens : (t : Task) (parts : Parts) (fs : Vec Follower Global) (tape : Vec Token Global) → tape.items ≡ [] → vec_capacity parts.tape ≤ vec_capacity tape → shown_by parts ≡ opening_world (routes_of t.plans) t.counts t.stop → AreFit parts → map (λ (f : Follower). f.visitor) fs.items ≡ parts.visitors → map (λ (f : Follower). f.routine) fs.items ≡ map (λ (p : Plan). new_routine p.kind MOST_PLANNED) t.plans
    → ((n : ℕ) (f : Follower) → slice_get fs.items n ≡ Some f → IsNew f) → IsFixed (routes_in parts.fixed) (counts_in parts.fixed)
    → IsOpening t record { followers = fs; tape = tape; played = 0; spent = parts.spent; fixed = parts.fixed }
opens t parts fs tape empty room shown fit visitors routines new fixed =
    let routes : List Route = routes_of t.plans in
    let callers = callers_are t.plans fs.items routines in
    let r = routes_are routes t.counts t.stop parts shown fit fs.items visitors callers in
    let n = counts_are routes t.counts t.stop parts shown fit fs.items visitors callers in
    let kept = subst (λ (l : List ℕ). IsFixed routes l) n (subst (λ (l : List Route). IsFixed l (counts_in parts.fixed)) r fixed) in
    record {
      made = record { its_routes = r; its_counts = n; its_stop = stop_is routes t.counts t.stop parts shown fit fs.items visitors callers };
      its = kept;
      are_of = record {
        many = many routes t.counts t.stop parts shown fit fs.items visitors callers;
        each = each_of routes t.counts t.stop parts shown fit fs.items visitors callers kept;
        roomy = each_roomy routes t.counts t.stop parts shown fit fs.items visitors callers;
      };
      fresh = λ c f e. each_fresh routes t.counts t.stop parts shown fit fs.items visitors callers c f (new c f e) e;
      tape = empty;
      played = refl;
      spent = spent_are routes t.counts t.stop parts shown fit fs.items visitors callers;
      roomy = let kept_room = (its_roomy routes t.counts t.stop parts shown fit fs.items visitors callers).messages in omega (arith, kept_room, room);
    }

none_last : (x : Route) → is_last (last_outcome x.kind []) ≡ false
unfolding last_outcome
none_last x = refl

-- Nothing came to a component, so it is followed along an empty tape, whatever is told of it.
fresh_follows : (x : Route) (told : TraceComponent) (f : Follower) → IsFresh f → Follows x told f []
fresh_follows x told f h = rw (fresh_is f h) record {
  searched = record { four = refl; within = λ j. none_index j; heard = λ j channel is. sym (ap (on_channel channel) (taken_none (slice_index (0 ∷ 0 ∷ 0 ∷ 0 ∷ []) j))); roles = λ n a e. cc };
  lawful = record {
    lawful = record { positions = λ n y e. cc; tails_rise = λ n y e. cc; tails_fused = λ n y e. cc; tuples = λ n y e. cc; outputs = λ n y e. cc; no_call_after_last = λ n y e. cc };
    before = λ n call t i out at. cc;
    own = λ n y e. cc;
  };
  are_told = (refl, refl);
  ended = sym (none_last x);
  outputs = sym (ap length (outs_empty x.out));
  sent = sym (outs_empty x.out);
  none_waits = refl;
}
  where
    fresh_is : (f : Follower) → IsFresh f → f ≡ record { visitor = record f.visitor { arrivals = [] }; routine = record f.routine { calls = []; pending = None }; searched = 0 ∷ 0 ∷ 0 ∷ 0 ∷ []; outputs = 0; ended = false }
    fresh_is f h =
        ap (λ (l : List Arrival). record f { visitor = record f.visitor { arrivals = l } }) h.arrivals
        ∙ ap (λ (l : List Call). record f { visitor = record f.visitor { arrivals = [] }; routine = record f.routine { calls = l } }) h.calls
        ∙ ap (λ (o : Option Out). record f { visitor = record f.visitor { arrivals = [] }; routine = record f.routine { calls = []; pending = o } }) h.pending
        ∙ ap (λ (l : List ℕ). record f { visitor = record f.visitor { arrivals = [] }; routine = record f.routine { calls = []; pending = None }; searched = l }) h.searched
        ∙ ap (λ (n : ℕ). record f { visitor = record f.visitor { arrivals = [] }; routine = record f.routine { calls = []; pending = None }; searched = 0 ∷ 0 ∷ 0 ∷ 0 ∷ []; outputs = n }) h.outputs
        ∙ ap (λ (b : Bool). record f { visitor = record f.visitor { arrivals = [] }; routine = record f.routine { calls = []; pending = None }; searched = 0 ∷ 0 ∷ 0 ∷ 0 ∷ []; outputs = 0; ended = b }) h.ended

    taken_none : (n : ℕ) → take {A = Token} n [] ≡ []
    taken_none zero = refl
    taken_none (suc n) = refl

    none_index : (j : ℕ) → slice_index (0 ∷ 0 ∷ 0 ∷ 0 ∷ []) j ≤ 0
    none_index zero = omega arith
    none_index (suc zero) = omega arith
    none_index (suc (suc zero)) = omega arith
    none_index (suc (suc (suc zero))) = omega arith
    none_index (suc (suc (suc (suc j)))) = omega arith

-- The opening is a walk, along no entry of a tape.
pub opening_walked : (t : Task) (told : List TraceComponent) (w : Walk) → IsWired (routes_of t.plans) t.counts → IsOpening t w → IsWalked t told w
opening_walked t told w wired h = record {
  known = record { wired = wired; its = h.its };
  are_of = h.are_of;
  followed = λ c x k f at its is. rw h.tape (fresh_follows x k f (h.fresh c f is));
  taped = rw (h.tape, h.played) record { numbered = λ n y e. cc; its = refl; few = omega arith; room = λ channel. omega arith; channels = λ n m e. cc };
  spent = h.spent;
  roomy = h.roomy;
}
