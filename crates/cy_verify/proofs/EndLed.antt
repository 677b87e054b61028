-- A run is followed to its end.
use Rattle.std.proofs.Common.{ℕ, zero, suc, ◌+◌, ◌≡◌, ◌⊎◌, inl, inr, ◌≤◌, ◌<◌, Bool, true, false, not, ◌&&◌, ◌||◌, refl, sym, ◌∙◌, ap, arith, List, [], ◌∷◌, length, take, Some, None, Option, slice_get, is_some}
use Rattle.std.proofs.Math.Seq.{take-length}
use Rattle.cy_msg.specs.declared.token.Token.{Token}
use Rattle.cy_msg.specs.Tokens.{on_channel}
use Rattle.cy_msg.proofs.Lists.{there}
use Rattle.cy_fuse.specs.Fusion.{Arrival, fused}
use Rattle.cy_fuse.specs.Fetch.{fetch}
use Rattle.cy_fuse.specs.Laws.{FetchesFind}
use Rattle.cy_fuse.specs.Visitor.{position_at}
use Rattle.cy_comp.specs.declared.call.Call.{Call}
use Rattle.cy_comp.specs.declared.call.Out.{Out}
use Rattle.cy_comp.specs.Calls.{cursor_after, last_outcome, is_last, outs}
use Rattle.cy_comp.specs.Routine.{RoutineView}
use Rattle.wake_core.specs.declared.route.Route.{Route}
use Rattle.wake_core.specs.Plain.{of_role}
use Rattle.wake_core.proofs.Cited.{outs_take, length_outs-push}
use Rattle.cy_trace.specs.declared.trace.TraceComponent.{TraceComponent}
use Rattle.cy_verify.specs.declared.follower.Follower.{Follower}
use Rattle.cy_verify.specs.private.Following.{MayFollow, Follows, HasCalled, Listens, Stays, ends_as}
use Rattle.cy_verify.specs.private.Leading.{Ended, IsHere, Awaits, Leads, CanCall}
use Rattle.cy_verify.proofs.Heard.{may_further}
use Rattle.cy_verify.proofs.CallMade.{same_ring, fused_most}
use Rattle.cy_verify.proofs.TapeGrown.{FollowingTo, length_traced}
use Rattle.cy_verify.proofs.Placed.{all_here}

-- A component was followed further, as each run leads whose tape is whole.
pub record LedWhole (x : Route) (told : TraceComponent) (tape : List Token) (f : Follower) (n : ℕ) (g : Follower) : Type 0 where
  pub to : FollowingTo x told tape f n g
  pub leads : (stopped : Bool) (r : Ended) → Leads x told stopped r f tape → tape ≡ r.tape → Leads x told stopped r g tape

-- The first so many of a list are no more than there are, or all.
take_or : {X : Type 0} (n : ℕ) (xs : List X) → (n ≤ length xs) ⊎ (take n xs ≡ xs)
take_or zero xs = inl (omega arith)
take_or (suc n) [] = inr refl
take_or (suc n) (y ∷ xs) = elim (take_or n xs) [ inl l ↦ inl (omega (arith, l)) | inr e ↦ inr (ap (λ l. y ∷ l) e) ]

-- A component was followed along the whole tape of a run.
module _ (x : Route) (told : TraceComponent) (stopped : Bool) (r : Ended) (tape : List Token) (f : Follower) (lead : Leads x told stopped r f tape) (whole : tape ≡ r.tape) where
  calls_many : length told.calls ≡ length r.calls
  calls_many = sym (ap length lead.run.calls_told) ∙ length_traced 0 r.calls

  -- Each further call can be made.
  pub can_call_on : length f.routine.calls < length told.calls → CanCall x r f tape
  can_call_on l =
      let next = there r.calls (length f.routine.calls) (omega (arith, l, calls_many)) in
      record {
        call = next.0;
        next = next.1;
        here = λ n a at _. all_here x told stopped r lead.run tape whole n a at;
      }

  -- None has an output.
  pub none_puts : (out : Out) → f.routine.pending ≡ Some out → HasCalled x told f tape → ⊥
  none_puts out waits h =
      let some : h.call.out ≡ Some out = sym h.waits ∙ waits in
      let more : length (outs x.out f.routine.calls) ≡ length (outs x.out h.earlier) + 1 = ap (λ (cs : List Call). length (outs x.out cs)) h.made ∙ length_outs-push x.out h.earlier h.call out some in
      let same : length (outs x.out h.earlier) ≡ length (outs x.out r.calls) = ap length (sym h.sent) ∙ ap (λ l. length (on_channel x.out l)) whole ∙ ap length lead.run.sent in
      too_many more same (ap (λ (cs : List Call). length (outs x.out cs)) lead.made) (beginning (length f.routine.calls))
    where
      too_many : {a b c d : ℕ} → a ≡ b + 1 → b ≡ c → a ≡ d → d ≤ c → ⊥
      too_many p q s l = omega (arith, p, q, s, l)

      fewer : (n : ℕ) (cs : List Call) → n ≤ length cs → length (outs x.out (take n cs)) ≤ length (outs x.out cs)
      fewer n cs l = let all = ap (λ (ds : List Call). length (outs x.out ds)) (take-length cs) in omega (arith, outs_take x.out cs n (length cs) l, all)

      beginning : (n : ℕ) → length (outs x.out (take n r.calls)) ≤ length (outs x.out r.calls)
      beginning n = elim (take_or n r.calls) [ inl l ↦ fewer n r.calls l | inr e ↦ rw e (omega arith) ]

  pub awaits_rest : Awaits x told.roles r.arrivals f
  awaits_rest = record { came = lead.came; roles_told = lead.run.roles_told; room = lead.room }

  pub rest_here : (n : ℕ) (a : Arrival) → slice_get r.arrivals n ≡ Some a → IsHere x r.arrivals tape n a
  rest_here n a at = all_here x told stopped r lead.run tape whole n a at

  -- All calls were made,
  pub calls_all : length f.routine.calls ≡ length told.calls → f.routine.calls ≡ r.calls
  calls_all all = lead.made ∙ ap (λ k. take k r.calls) (all ∙ calls_many) ∙ take-length r.calls

  -- and the rest of the arrivals came.
  module _ (g : Follower) (l : Listens x told.roles tape f g) (all : length f.routine.calls ≡ length told.calls) (came : g.visitor.arrivals ≡ r.arrivals) where
    pub calls_here : g.routine.calls ≡ r.calls
    calls_here = ap (λ (v : RoutineView). v.calls) l.same ∙ calls_all all

    pub came_all : (j channel : ℕ) → slice_get x.readers j ≡ Some channel → of_role j g.visitor.arrivals ≡ on_channel channel tape
    came_all j channel reads = ap (of_role j) came ∙ lead.run.whole j channel reads ∙ ap (on_channel channel) (sym whole)

    pub next_told : cursor_after g.routine.calls ≡ told.next
    next_told = ap cursor_after calls_here ∙ sym lead.run.next

    module _ (law : FetchesFind) (m : MayFollow x f tape) (st : Stays f g) (h : Follows x told f tape) where
      may : MayFollow x g tape
      may = may_further m st

      ended_is : g.ended ≡ is_last (last_outcome x.kind r.calls)
      ended_is = l.ended ∙ h.ended ∙ ap (λ (cs : List Call). is_last (last_outcome x.kind cs)) (calls_all all)

      by_ended : told.finished ≡ true → (b : Bool) → stopped ≡ b → g.ended || b ≡ true
      by_ended e true is = or_true g.ended
        where
          or_true : (b : Bool) → b || true ≡ true
          or_true true = refl
          or_true false = refl
      by_ended e false is = ap (λ b. b || false) (ended_is ∙ lead.run.finished e is)

      unended_here : told.finished ≡ false → g.ended ≡ false
      unended_here e = by (is_last (last_outcome x.kind r.calls)) refl
        where
          by : (b : Bool) → is_last (last_outcome x.kind r.calls) ≡ b → g.ended ≡ false
          by true is = absurd (both (lead.run.ended is) e)
            where
              both : {b : Bool} → b ≡ true → b ≡ false → ⊥
              both p q = cc
          by false is = ended_is ∙ is

      finds_none : told.finished ≡ false → position_at (cursor_after g.routine.calls) g.visitor ≡ None
      finds_none e =
          ap (λ (k : ℕ). fetch (cursor_after g.routine.calls) (length (fused g.visitor.arrivals k)) g.visitor.queue g.visitor.overflow) may.its.roles
          ∙ ap (λ o. fetch (cursor_after g.routine.calls) (length (fused g.visitor.arrivals (length x.readers))) g.visitor.queue o) may.its.overflow
          ∙ ap (λ q. fetch (cursor_after g.routine.calls) (length (fused g.visitor.arrivals (length x.readers))) q x.overflow) may.its.queue
          ∙ same_ring law (cursor_after g.routine.calls) (length (fused g.visitor.arrivals (length x.readers))) x.queue may.most x.overflow may.buffered (fused_most x g tape may l.searched)
          ∙ ap (λ (us : List Arrival). fetch (cursor_after g.routine.calls) (length (fused us (length x.readers))) x.queue x.overflow) came
          ∙ ap (λ (cs : List Call). fetch (cursor_after cs) (length (fused r.arrivals (length x.readers))) x.queue x.overflow) calls_here
          ∙ lead.run.waits e

      -- So it may have ended as is told.
      pub ends : ends_as told.finished stopped g ≡ true
      ends = by told.finished refl
        where
          by : (b : Bool) → told.finished ≡ b → ends_as b stopped g ≡ true
          by true e = by_ended e stopped refl
          by false e =
              ap (λ (b : Bool). not b && not (is_some (position_at (cursor_after g.routine.calls) g.visitor))) (unended_here e)
              ∙ ap (λ (o : Option ℕ). not false && not (is_some o)) (finds_none e)
