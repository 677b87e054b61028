-- What a component comes to that was followed to its end.
use Rattle.std.proofs.Common.{ℕ, ◌≡◌, Bool, true, false, not, ◌&&◌, ◌||◌, refl, sym, ◌∙◌, ap, subst, List, length, take, map, Some, None, Option, slice_get, is_some, if◌then◌else◌}
use Rattle.std.proofs.Math.Seq.{take-length}
use Rattle.cy_msg.specs.declared.token.Token.{Token}
use Rattle.cy_msg.specs.Tokens.{on_channel}
use Rattle.cy_fuse.specs.Fusion.{Arrival, fused}
use Rattle.cy_fuse.specs.Fetch.{fetch}
use Rattle.cy_fuse.specs.Laws.{FetchesFind}
use Rattle.cy_fuse.specs.Visitor.{position_at}
use Rattle.cy_comp.specs.declared.state.State.TheVariants.{Finished, DataWait}
use Rattle.cy_comp.specs.Calls.{cursor_after, is_last, last_outcome, outs}
use Rattle.cy_comp.specs.Routine.{RoutineView}
use Rattle.wake_core.specs.declared.route.Route.{Route}
use Rattle.wake_core.specs.Plain.{of_role}
use Rattle.cy_trace.specs.TraceOfRun.{trace_calls}
use Rattle.cy_trace.specs.declared.trace.TraceComponent.{TraceComponent}
use Rattle.cy_verify.specs.declared.follower.Follower.{Follower}
use Rattle.cy_verify.specs.private.Following.{MayFollow, Follows, Listens, HasEnded, Stays, ends_as}
use Rattle.cy_verify.proofs.Heard.{may_further}
use Rattle.cy_verify.proofs.CallMade.{same_ring, fused_most}

-- More arrivals that are told leave it followed.
pub listens_follow : {x : Route} {told : TraceComponent} {tape : List Token} {f g : Follower} → Follows x told f tape → Listens x told.roles tape f g → Follows x told g tape
listens_follow {x} {told} {tape} {f} {g} h l = record {
  searched = l.searched;
  lawful = l.lawful;
  are_told = (l.told, ap (λ (r : RoutineView). trace_calls 0 r.calls) l.same ∙ h.are_told.1 ∙ ap (λ (r : RoutineView). take (length r.calls) told.calls) (sym l.same));
  ended = l.ended ∙ h.ended ∙ ap (λ (r : RoutineView). is_last (last_outcome x.kind r.calls)) (sym l.same);
  outputs = l.outputs ∙ h.outputs ∙ ap (λ (r : RoutineView). length (outs x.out r.calls)) (sym l.same);
  sent = h.sent ∙ ap (λ (r : RoutineView). outs x.out r.calls) (sym l.same);
  none_waits = ap (λ (r : RoutineView). r.pending) l.same ∙ h.none_waits;
}

all_taken : {X : Type 0} (xs ys : List X) (n : ℕ) → xs ≡ take n ys → n ≡ length ys → xs ≡ ys
all_taken xs ys n e all = e ∙ ap (λ k. take k ys) all ∙ take-length ys

-- It has ended as is told.
module _ (law : FetchesFind) (x : Route) (told : TraceComponent) (stopped : Bool) (tape : List Token) (f g : Follower) (m : MayFollow x f tape) (h : Follows x told f tape) (st : Stays f g) (l : Listens x told.roles tape f g)
    (all_calls : length f.routine.calls ≡ length told.calls) (all_roles : length g.visitor.arrivals ≡ length told.roles)
    (whole : (j channel : ℕ) → slice_get x.readers j ≡ Some channel → of_role j g.visitor.arrivals ≡ on_channel channel tape)
    (next : cursor_after g.routine.calls ≡ told.next) (may : ends_as told.finished stopped g ≡ true) where
  abbrev pub end : Follower
  end = record g { routine = record g.routine { state = if told.finished then Finished else DataWait } }

  followed : Follows x told end tape
  followed =
      let p = listens_follow h l in
      record {
        searched = p.searched;
        lawful = p.lawful;
        are_told = p.are_told;
        ended = p.ended;
        outputs = p.outputs;
        sent = p.sent;
        none_waits = p.none_waits;
      }

  may_here : MayFollow x g tape
  may_here = may_further m st

  by_finished : told.finished ≡ true → g.ended || stopped ≡ true
  by_finished e = ap (λ (b : Bool). if b then g.ended || stopped else not g.ended && not (is_some (position_at (cursor_after g.routine.calls) g.visitor))) (sym e) ∙ may

  by_waiting : told.finished ≡ false → not g.ended && not (is_some (position_at (cursor_after g.routine.calls) g.visitor)) ≡ true
  by_waiting e = ap (λ (b : Bool). if b then g.ended || stopped else not g.ended && not (is_some (position_at (cursor_after g.routine.calls) g.visitor))) (sym e) ∙ may

  one_of : (a b : Bool) → a || b ≡ true → b ≡ false → a ≡ true
  one_of true b e n = refl
  one_of false b e n = sym n ∙ e

  both_of : (a b : Bool) → not a && not b ≡ true → (a ≡ false) × (b ≡ false)
  both_of true b e = cc
  both_of false true e = cc
  both_of false false e = (refl, refl)

  none_of : {X : Type 0} (o : Option X) → is_some o ≡ false → o ≡ None
  none_of None e = refl
  none_of (Some y) e = cc

  none_found : told.finished ≡ false → fetch (cursor_after g.routine.calls) (length (fused g.visitor.arrivals (length x.readers))) x.queue x.overflow ≡ None
  none_found e =
      let n = (both_of g.ended (is_some (position_at (cursor_after g.routine.calls) g.visitor)) (by_waiting e)).1 in
      sym (same_ring law (cursor_after g.routine.calls) (length (fused g.visitor.arrivals (length x.readers))) x.queue may_here.most x.overflow may_here.buffered (fused_most x g tape may_here l.searched))
      ∙ ap (λ q. fetch (cursor_after g.routine.calls) (length (fused g.visitor.arrivals (length x.readers))) q x.overflow) (sym may_here.its.queue)
      ∙ ap (λ o. fetch (cursor_after g.routine.calls) (length (fused g.visitor.arrivals (length x.readers))) g.visitor.queue o) (sym may_here.its.overflow)
      ∙ ap (λ (k : ℕ). fetch (cursor_after g.routine.calls) (length (fused g.visitor.arrivals k)) g.visitor.queue g.visitor.overflow) (sym may_here.its.roles)
      ∙ none_of (position_at (cursor_after g.routine.calls) g.visitor) n

  pub has_ended : HasEnded x told stopped end tape
  has_ended = record {
    follows = followed;
    roles = all_taken (map (λ (a : Arrival). a.0) g.visitor.arrivals) told.roles (length g.visitor.arrivals) l.told all_roles;
    calls = (all_taken (trace_calls 0 g.routine.calls) told.calls (length g.routine.calls) (listens_follow h l).are_told.1 (ap (λ (v : RoutineView). length v.calls) l.same ∙ all_calls));
    whole = whole;
    state = refl;
    finished = λ e n. one_of g.ended stopped (by_finished e) n;
    waits = λ e. (both_of g.ended (is_some (position_at (cursor_after g.routine.calls) g.visitor)) (by_waiting e)).0;
    found = λ e. none_found e;
    next = sym next;
  }

  pub has_ended_as : (r : RoutineView) → r ≡ record g.routine { state = if told.finished then Finished else DataWait } → HasEnded x told stopped (record g { routine = r }) tape
  has_ended_as r is = subst (λ (v : RoutineView). HasEnded x told stopped (record g { routine = v }) tape) (sym is) has_ended
