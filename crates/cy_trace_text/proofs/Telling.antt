-- Two lawful runs with one trace have come to the same.
use Rattle.std.proofs.Common.{ℕ, zero, suc, ◌≡◌, ◌≢◌, ◌≤◌, ◌<◌, ◌+◌, ◌-◌, ◌⊎◌, inl, inr, true, false, List, [], ◌∷◌, length, slice_get, Option, Some, None, option_map, refl, sym, ap, subst, ◌∙◌, arith}
use Rattle.std.specs.Option.{option_map_or}
use Rattle.std.proofs.lemmas.List.{take_all}
use Rattle.std.proofs.lemmas.Option.{same_Some, none-some, slice_get_within, slice_get-map}
use Rattle.cy_msg.specs.Tokens.{on_channel}
use Rattle.cy_msg.specs.declared.stop.Stop.{Stop}
use Rattle.cy_msg.specs.declared.token.Token.{Token}
use Rattle.cy_fuse.specs.Fusion.{fused}
use Rattle.cy_comp.specs.declared.plan.Plan.{Plan}
use Rattle.cy_comp.specs.Calls.{cursor_after, outs}
use Rattle.wake_core.specs.declared.route.Route.{Route}
use Rattle.wake_core.specs.Run.{Run, route_of, routes_of}
use Rattle.wake_core.specs.Bounds.{PlaceLaws}
use Rattle.wake_core.specs.Events.{is_finished}
use Rattle.wake_core.specs.LawfulRun.{LawfulRun}
use Rattle.wake_core.specs.Plain.{Plain, State, DataWait, Finished, hand, lists_reader, made_of, reads, of_role, taped_of}
use Rattle.wake_core.specs.declared.phase.Phase.TheVariants.{Running}
use Rattle.wake_core.specs.Rest.{run_shown}
use Rattle.cy_trace.specs.declared.trace.Trace.{Trace}
use Rattle.cy_trace.specs.declared.trace.TraceComponent.{TraceComponent}
use Rattle.cy_trace_text.specs.Telling.{AreRuns, CameToSame}
use Rattle.cy_trace.specs.TraceOfRun.{trace_calls, trace_component, trace_components, trace_of_run}
use Rattle.cy_trace.proofs.CutLaws.{mapped_some}
use Rattle.cy_trace_text.proofs.Places.{heads_same, something, tails_same}
use Rattle.cy_trace_text.proofs.SameArrivals.{none_of_role, same_arrivals}
use Rattle.cy_trace_text.proofs.SameCalls.{same_calls}
use Rattle.cy_trace_text.proofs.SameTape.{Ended, same_tapes}

module _ {tokens : List Token} {routes : List Route} {stop : Option Stop} {w : Plain} (run : LawfulRun tokens routes stop w) where
  -- At the end all that calls put out is sent.
  all_sent : (c : ℕ) (x : Route) → slice_get w.routes c ≡ Some x → on_channel x.out w.tape ≡ outs x.out (w.calls c)
  all_sent c x at =
      run.sound.consistent.delivered.history c x at
      ∙ take_all (length (on_channel x.out w.tape)) (outs x.out (w.calls c)) (omega (arith, most, made, taped))
    where
      made : made_of w.routes w.calls c ≡ length (outs x.out (w.calls c))
      made = ap (λ o. length (option_map_or (λ (y : Route). outs y.out (w.calls c)) o [])) at

      taped : taped_of w.routes w.tape c ≡ length (on_channel x.out w.tape)
      taped = ap (λ o. length (option_map_or (λ (y : Route). on_channel y.out w.tape) o [])) at

      idle : (p : ℕ) → w.hands p ≢ hand c Running
      idle p is = none-some record { croutine = c; phase = Running } (sym (run.quiet.free p) ∙ is)

      none_unsent : taped_of w.routes w.tape c < made_of w.routes w.calls c → ⊥
      none_unsent less = elim (run.quiet.ends c (slice_get_within w.routes c x at)) [
        | inl is ↦ run.sound.consistent.held.unended c less idle is
        | inr is ↦ run.sound.consistent.held.resting c less idle is.0
      ]

      most : made_of w.routes w.calls c ≤ taped_of w.routes w.tape c
      most = omega (arith, none_unsent)

  all_arrived : (c j channel : ℕ) → reads w.routes c j ≡ Some channel → of_role j (w.arrivals c) ≡ on_channel channel w.tape
  all_arrived c j channel is = run.sound.consistent.delivered.whole c j channel is (λ p. ap (λ l. lists_reader c j l) (run.quiet.owes p).filled)

  ended : Ended routes tokens w.arrivals w.calls w.tape
  ended = subst (λ r. Ended r tokens w.arrivals w.calls w.tape) run.wired (record {
    numbered = run.sound.consistent.delivered.numbered;
    played = run.exact;
    sent = all_sent;
    arrived = all_arrived;
    known = run.sound.consistent.delivered.known;
    lawful = run.sound.consistent.called.lawful;
    causal = run.sound.consistent.causal;
  })

  cursor_is : (c : ℕ) (x : Route) → slice_get routes c ≡ Some x → w.cursors c ≡ cursor_after (w.calls c)
  cursor_is c x at = run.sound.consistent.called.cursor c x (ap (λ r. slice_get r c) run.wired ∙ at)

  state_is : (c : ℕ) → c < length routes → (w.states c ≡ Finished) ⊎ (w.states c ≡ DataWait)
  state_is c less = elim (run.quiet.ends c (subst (λ r. c < length r) (sym run.wired) less)) [ inl is ↦ inl is | inr is ↦ inr is.0 ]

-- One trace of two runs is one trace of each component.
components_same : (a b : Run) (c : ℕ) (plans : List Plan) → trace_components a c plans ≡ trace_components b c plans → (i : ℕ) (p : Plan) → slice_get plans i ≡ Some p
    → trace_component p (a.arrivals (c + i)) (a.calls (c + i)) (a.ended (c + i)) ≡ trace_component p (b.arrivals (c + i)) (b.calls (c + i)) (b.ended (c + i))
components_same a b c [] same i p at = absurd (none-some p at)
components_same a b c (q ∷ plans) same zero p at =
    let place : c ≡ c + 0 = omega arith in
    let head = heads_same (trace_component q (a.arrivals c) (a.calls c) (a.ended c)) (trace_component q (b.arrivals c) (b.calls c) (b.ended c)) (trace_components a (c + 1) plans) (trace_components b (c + 1) plans) same in
    subst (λ k. trace_component p (a.arrivals k) (a.calls k) (a.ended k) ≡ trace_component p (b.arrivals k) (b.calls k) (b.ended k)) place
    (subst (λ (r : Plan). trace_component r (a.arrivals c) (a.calls c) (a.ended c) ≡ trace_component r (b.arrivals c) (b.calls c) (b.ended c)) (same_Some q p at) head)
components_same a b c (q ∷ plans) same (suc i) p at =
    let place : c + 1 + i ≡ c + suc i = omega arith in
    let rest = tails_same (trace_component q (a.arrivals c) (a.calls c) (a.ended c)) (trace_component q (b.arrivals c) (b.calls c) (b.ended c)) (trace_components a (c + 1) plans) (trace_components b (c + 1) plans) same in
    subst (λ k. trace_component p (a.arrivals k) (a.calls k) (a.ended k) ≡ trace_component p (b.arrivals k) (b.calls k) (b.ended k)) place (components_same a b (c + 1) plans rest i p at)

-- Of two ways to end, the trace tells which one it is.
same_state : (s t : State) → (s ≡ Finished) ⊎ (s ≡ DataWait) → (t ≡ Finished) ⊎ (t ≡ DataWait) → is_finished s ≡ is_finished t → t ≡ s
same_state s t (inl a) (inl b) same = b ∙ sym a
same_state s t (inr a) (inr b) same = b ∙ sym a
same_state s t (inl a) (inr b) same = let no : true ≡ false = ap is_finished (sym a) ∙ same ∙ ap is_finished b in cc
same_state s t (inr a) (inl b) same = let no : false ≡ true = ap is_finished (sym a) ∙ same ∙ ap is_finished b in cc

module _ (places : PlaceLaws) (names : List (List ℕ)) (plans : List Plan) (shadowed : ℕ) (tokens : List Token) (stop : Option Stop) (w v : Plain) (are : AreRuns names plans tokens stop w v)
    (same : trace_of_run names plans shadowed (run_shown w) ≡ trace_of_run names plans shadowed (run_shown v)) where
  component : (c : ℕ) (p : Plan) → slice_get plans c ≡ Some p → trace_component p (w.arrivals c) (w.calls c) (is_finished (w.states c)) ≡ trace_component p (v.arrivals c) (v.calls c) (is_finished (v.states c))
  component c p at =
      let place : 0 + c ≡ c = omega arith in
      subst (λ k. trace_component p (w.arrivals k) (w.calls k) (is_finished (w.states k)) ≡ trace_component p (v.arrivals k) (v.calls k) (is_finished (v.states k))) place
      (components_same (run_shown w) (run_shown v) 0 plans (ap (λ (t : Trace). t.components) same) c p at)

  plan_at : (c : ℕ) (x : Route) → slice_get (routes_of plans) c ≡ Some x → (p : Plan) × (slice_get plans c ≡ Some p) × (route_of p ≡ x)
  plan_at c x at = mapped_some route_of (slice_get plans c) x (sym (slice_get-map route_of plans c) ∙ at)

  traced : (c : ℕ) (x : Route) → slice_get (routes_of plans) c ≡ Some x → trace_calls 0 (w.calls c) ≡ trace_calls 0 (v.calls c)
  traced c x at = let p = plan_at c x at in ap (λ (t : TraceComponent). t.calls) (component c p.0 p.1)

  one_tape : w.tape ≡ v.tape
  one_tape = same_tapes places (routes_of plans) tokens w.arrivals v.arrivals w.calls v.calls w.tape v.tape (ended are.run) (ended are.other_run) traced names are.once
      (λ n t at. subst (λ k. t.channel < k) are.made.channels (are.run.sound.consistent.room.channels n t at))
      (λ n t at. subst (λ k. t.channel < k) are.other_made.channels (are.other_run.sound.consistent.room.channels n t at))
      (ap (λ (t : Trace). t.tape) same)

  one_role : (c j : ℕ) → of_role j (w.arrivals c) ≡ of_role j (v.arrivals c)
  one_role c j = by (reads (routes_of plans) c j) refl
    where
      by : (o : Option ℕ) → reads (routes_of plans) c j ≡ o → of_role j (w.arrivals c) ≡ of_role j (v.arrivals c)
      by None e =
          none_of_role j (w.arrivals c) (λ n a at is. (ended are.run).known c n a at (ap (reads (routes_of plans) c) is ∙ e))
          ∙ sym (none_of_role j (v.arrivals c) (λ n a at is. (ended are.other_run).known c n a at (ap (reads (routes_of plans) c) is ∙ e)))
      by (Some channel) e = (ended are.run).arrived c j channel e ∙ ap (on_channel channel) one_tape ∙ sym ((ended are.other_run).arrived c j channel e)

  one_arrivals : (c : ℕ) (p : Plan) → slice_get plans c ≡ Some p → w.arrivals c ≡ v.arrivals c
  one_arrivals c p at = same_arrivals (w.arrivals c) (v.arrivals c) (ap (λ (t : TraceComponent). t.roles) (component c p at)) (one_role c)

  route_at : (c : ℕ) (p : Plan) → slice_get plans c ≡ Some p → slice_get (routes_of plans) c ≡ Some (route_of p)
  route_at c p at = slice_get-map route_of plans c ∙ ap (option_map route_of) at

  one_calls : (c : ℕ) (p : Plan) → slice_get plans c ≡ Some p → w.calls c ≡ v.calls c
  one_calls c p at =
      let mine = (ended are.run).lawful c (route_of p) (route_at c p at) in
      let yours = (ended are.other_run).lawful c (route_of p) (route_at c p at) in
      same_calls p.kind (w.calls c) (v.calls c) mine.outputs yours.outputs (ap (λ (t : TraceComponent). t.calls) (component c p at))
      (λ n a b first second like. same_Some a.tuple b.tuple (sym (mine.tuples n a first) ∙ ap (λ k. slice_get (fused (w.arrivals c) (length p.readers)) (k - 1)) like.position
      ∙ ap (λ l. slice_get (fused l (length p.readers)) (b.position - 1)) (one_arrivals c p at) ∙ yours.tuples n b second))

  -- The component of a number.
  plan_of : (c : ℕ) → c < length w.routes → (p : Plan) × (slice_get plans c ≡ Some p)
  plan_of c less =
      let x = something (routes_of plans) c (subst (λ r. c < length r) are.run.wired less) in
      let p = plan_at c x.0 x.1 in
      (p.0, p.1)

  pub came_to_same : CameToSame w v
  came_to_same = record {
    arrivals = λ c less. let p = plan_of c less in sym (one_arrivals c p.0 p.1);
    calls = λ c less. let p = plan_of c less in sym (one_calls c p.0 p.1);
    cursors = λ c less.
        let p = plan_of c less in
        let there = route_at c p.0 p.1 in
        cursor_is are.other_run c (route_of p.0) there ∙ ap cursor_after (sym (one_calls c p.0 p.1)) ∙ sym (cursor_is are.run c (route_of p.0) there);
    states = λ c less.
        let p = plan_of c less in
        let known = subst (λ r. c < length r) are.run.wired less in
        same_state (w.states c) (v.states c) (state_is are.run c known) (state_is are.other_run c known) (ap (λ (t : TraceComponent). t.finished) (component c p.0 p.1));
    tape = sym one_tape;
  }
