-- The call that a fetch makes, and what it keeps.
use Rattle.std.proofs.Common.{ℕ, zero, suc, ◌+◌, ◌-◌, ◌≡◌, ◌≢◌, ◌≤◌, ◌<◌, Bool, true, false, refl, sym, ◌∙◌, ap, subst, arith, List, [], ◌∷◌, ◌++◌, length, Some, None, Option, option_map, option_and_then, slice_get, length-append}
use Rattle.std.proofs.lemmas.List.{length-take}
use Rattle.cy_msg.specs.declared.token.Tuple.{Tuple}
use Rattle.cy_msg.specs.Tokens.{on_channel}
use Rattle.cy_fuse.specs.Fusion.{fused}
use Rattle.cy_fuse.specs.Fetch.{fetch}
use Rattle.cy_fuse.specs.Laws.{FetchesFind}
use Rattle.cy_comp.specs.declared.call.Call.{Call}
use Rattle.cy_comp.specs.Step.{outcome_after, out_of}
use Rattle.cy_comp.specs.Calls.{cursor_after, tuples_of, last_outcome, is_last, outs}
use Rattle.wake_core.specs.Run.{Route, set_at}
use Rattle.wake_core.specs.Planned.{planned_count, first_reader}
use Rattle.wake_core.specs.Plain.{Plain, hand, DataWait, Asked, Running, of_role, last_of, made_of, taped_of, outs_of, tail_at, found_by}
use Rattle.wake_core.specs.Events.{call_on, next_call, after_call}
use Rattle.wake_core.specs.Sound.{HeldIn, Consistent}
use Rattle.wake_core.proofs.Places.{set_at_there, set_at_other}
use Rattle.wake_core.proofs.HeldLaws.{not_running_of}
use Rattle.wake_core.proofs.HeldCalls.{OneCall, call_held}
use Rattle.wake_core.proofs.Delivering.{phase_delivered, call_delivered}
use Rattle.wake_core.proofs.Fetching.{tail_bounded, calls_below, cursor_push, fused_few}
use Rattle.wake_core.proofs.Calling.{IsNextCall, call_called, call_causal, lawful_call}
use Rattle.wake_core.proofs.Outputs.{put_out, outs_push, held_puts, last_push}
use Rattle.wake_core.proofs.Writers.{first_reads}
use Rattle.wake_core.proofs.Rooming.{call_room}

-- How a call comes of a fetch.
pub record IsMade (w : Plain) (c : ℕ) (call : Call) : Type 0 where
  pub route : Route
  pub at : slice_get w.routes c ≡ Some route
  pub position : fetch (w.cursors c) (tail_at route w c) route.queue route.overflow ≡ Some call.position
  pub tail : call.tail ≡ tail_at route w c
  pub tuple : slice_get (fused (w.arrivals c) (length route.readers)) (call.position - 1) ≡ Some call.tuple
  pub out : call.out ≡ out_of (outcome_after route.kind (tuples_of (w.calls c)) call.tuple)

pub call_made : (w : Plain) (c : ℕ) (call : Call) → next_call w c ≡ Some call → IsMade w c call
call_made w c call e = by_route (slice_get w.routes c) refl e
  where
    by_tuple : (x : Route) → slice_get w.routes c ≡ Some x → (position : ℕ) → fetch (w.cursors c) (tail_at x w c) x.queue x.overflow ≡ Some position
        → (o : Option Tuple) → slice_get (fused (w.arrivals c) (length x.readers)) (position - 1) ≡ o
        → option_map (call_on x w c position) o ≡ Some call → IsMade w c call
    by_tuple x at position finds None is e = cc
    by_tuple x at position finds (Some tuple) is e =
        let same : call_on x w c position tuple ≡ call = cc in
        subst (IsMade w c) same record { route = x; at = at; position = finds; tail = refl; tuple = is; out = refl }

    by_position : (x : Route) → slice_get w.routes c ≡ Some x → (o : Option ℕ) → fetch (w.cursors c) (tail_at x w c) x.queue x.overflow ≡ o
        → option_and_then (λ position. option_map (call_on x w c position) (slice_get (fused (w.arrivals c) (length x.readers)) (position - 1))) o ≡ Some call
        → IsMade w c call
    by_position x at None finds e = cc
    by_position x at (Some position) finds e = by_tuple x at position finds (slice_get (fused (w.arrivals c) (length x.readers)) (position - 1)) refl e

    by_route : (o : Option Route) → slice_get w.routes c ≡ o
        → option_and_then (λ (x : Route). option_and_then (λ position.
        option_map (call_on x w c position) (slice_get (fused (w.arrivals c) (length x.readers)) (position - 1)))
        (option_and_then (λ (y : Route). fetch (w.cursors c) (tail_at y w c) y.queue y.overflow) o)) o ≡ Some call → IsMade w c call
    by_route None at e = cc
    by_route (Some x) at e = by_position x at (fetch (w.cursors c) (tail_at x w c) x.queue x.overflow) refl e

-- Where no call comes of it, a fetch finds nothing.
pub none_made : FetchesFind → (w : Plain) (c : ℕ) → next_call w c ≡ None → found_by w c ≡ None
none_made law w c e = by_route (slice_get w.routes c) e
  where
    inside : (xs : List Tuple) (position : ℕ) → 1 ≤ position → position ≤ length xs → slice_get xs (position - 1) ≢ None
    inside [] position l m = absurd (omega arith)
    inside (x ∷ xs) (suc zero) l m = λ e. cc
    inside (x ∷ xs) (suc (suc n)) l m =
        let less : suc (suc n) - 1 ≡ suc (suc n - 1) = omega arith in
        rw less (inside xs (suc n) (omega arith) (omega arith))
    inside (x ∷ xs) zero l m = absurd (omega arith)

    by_tuple : (x : Route) (position : ℕ) → (o : Option Tuple) → slice_get (fused (w.arrivals c) (length x.readers)) (position - 1) ≡ o
        → o ≢ None → option_map (call_on x w c position) o ≡ None → ⊥
    by_tuple x position None is some e = some refl
    by_tuple x position (Some tuple) is some e = cc

    by_position : (x : Route) (o : Option ℕ) → fetch (w.cursors c) (tail_at x w c) x.queue x.overflow ≡ o
        → option_and_then (λ position. option_map (call_on x w c position) (slice_get (fused (w.arrivals c) (length x.readers)) (position - 1))) o ≡ None → o ≡ None
    by_position x None finds e = refl
    by_position x (Some position) finds e =
        let b = law.bounds (w.cursors c) (tail_at x w c) x.queue x.overflow position finds in
        absurd (by_tuple x position (slice_get (fused (w.arrivals c) (length x.readers)) (position - 1)) refl (inside (fused (w.arrivals c) (length x.readers)) position b.from_one b.to_tail) e)

    by_route : (o : Option Route)
        → option_and_then (λ (x : Route). option_and_then (λ position.
        option_map (call_on x w c position) (slice_get (fused (w.arrivals c) (length x.readers)) (position - 1)))
        (option_and_then (λ (y : Route). fetch (w.cursors c) (tail_at y w c) y.queue y.overflow) o)) o ≡ None → option_and_then (λ (y : Route). fetch (w.cursors c) (tail_at y w c) y.queue y.overflow) o ≡ None
    by_route None e = refl
    by_route (Some x) e = by_position x (fetch (w.cursors c) (tail_at x w c) x.queue x.overflow) refl e

module _ (p c : ℕ) (w : Plain) (call : Call) (held : w.hands p ≡ hand c Asked) (m : IsMade w c call) where
  -- The component's own route is any that it has.
  its_route : (x : Route) → slice_get w.routes c ≡ Some x → m.route ≡ x
  its_route x at = let same : Some m.route ≡ Some x = sym m.at ∙ at in cc

  -- What a call more makes of outcomes and outputs.
  one_call : OneCall c (outcome_after m.route.kind (tuples_of (w.calls c)) call.tuple) (last_of w.routes w.calls) (last_of w.routes (set_at c (w.calls c ++ call ∷ []) w.calls))
      (made_of w.routes w.calls) (made_of w.routes (set_at c (w.calls c ++ call ∷ []) w.calls))
  one_call =
      let outs' : outs_of w.routes (set_at c (w.calls c ++ call ∷ []) w.calls) c ≡ outs_of w.routes w.calls c ++ put_out m.route.out (length (outs_of w.routes w.calls c)) call.out =
      rw (m.at, set_at_there c (w.calls c ++ call ∷ []) w.calls c refl) (outs_push m.route.out (w.calls c) call) in
      let more : made_of w.routes (set_at c (w.calls c ++ call ∷ []) w.calls) c ≡ made_of w.routes w.calls c + length (put_out m.route.out (length (outs_of w.routes w.calls c)) call.out) =
      ap length outs' ∙ length-append (outs_of w.routes w.calls c) (put_out m.route.out (length (outs_of w.routes w.calls c)) call.out) in
      record {
        outcome_of = rw (m.at, set_at_there c (w.calls c ++ call ∷ []) w.calls c refl) (last_push m.route (w.calls c) call);
        more = omega (arith, more);
        put = λ some. let one : length (put_out m.route.out (length (outs_of w.routes w.calls c)) call.out) ≡ 1 = rw m.out (held_puts m.route.out (length (outs_of w.routes w.calls c)) (outcome_after m.route.kind (tuples_of (w.calls c)) call.tuple) some) in
            omega (arith, more, one);
        last_other = λ k other. rw (set_at_other c (w.calls c ++ call ∷ []) w.calls k other) refl;
        made_other = λ k other. rw (set_at_other c (w.calls c ++ call ∷ []) w.calls k other) refl;
      }

  pub call_in : HeldIn w → HeldIn (after_call p c call w)
  call_in h = call_held p c (outcome_after m.route.kind (tuples_of (w.calls c)) call.tuple) held one_call h

  -- Before the call there is no unsent output.
  pub all_sent : Consistent w → (x : Route) → slice_get w.routes c ≡ Some x → length (outs x.out (w.calls c)) ≤ length (on_channel x.out w.tape)
  all_sent s x at =
      let no = not_running_of p c Asked held (λ e. cc) s.held in
      not_less (λ l. s.held.resting c l no (s.held.phased p c Asked DataWait held refl))
    where
      not_less : (taped_of w.routes w.tape c < made_of w.routes w.calls c → ⊥) → length (outs x.out (w.calls c)) ≤ length (on_channel x.out w.tape)
      not_less n = go (rw at at n)
        where
          go : (length (on_channel x.out w.tape) < length (outs x.out (w.calls c)) → ⊥) → length (outs x.out (w.calls c)) ≤ length (on_channel x.out w.tape)
          go n = omega (arith, n)

  next_is : Consistent w → (x : Route) → slice_get w.routes c ≡ Some x → IsNextCall x (w.arrivals c) (w.calls c) call
  next_is s x at =
      let same = its_route x at in
      let no = not_running_of p c Asked held (λ e. cc) s.held in
      let lawful = s.called.lawful c x at in
      subst (λ (x : Route). IsNextCall x (w.arrivals c) (w.calls c) call) same record {
        position = rw (sym (s.called.cursor c m.route m.at), m.tail) m.position;
        tail = m.tail;
        rises = rw m.tail (tail_bounded (tail_at m.route w c) (w.calls c) (s.called.lawful c m.route m.at).tails_fused);
        tuple = m.tuple;
        out = m.out;
        unfinished = not_last (is_last (last_outcome m.route.kind (w.calls c))) (λ l.
            let is_finished = s.held.ended c (rw m.at l) no in
            let waits = s.held.phased p c Asked DataWait held refl in cc);
      }
    where
      not_last : (b : Bool) → (b ≡ true → ⊥) → b ≡ false
      not_last true n = absurd (n refl)
      not_last false n = refl

  -- There is room for the call: as many tuples were fused as messages came that trigger it.
  pub fits : FetchesFind → Consistent w → (x : Route) → slice_get w.routes c ≡ Some x → length (w.calls c ++ call ∷ []) ≤ planned_count w.routes w.counts (first_reader x)
  fits law s x at =
      let next = next_is s x at in
      let few = calls_below law x (w.arrivals c) (w.calls c ++ call ∷ []) (lawful_call x (w.arrivals c) (w.calls c) call next (s.called.lawful c x at)) in
      let bounds = law.bounds (cursor_after (w.calls c)) call.tail x.queue x.overflow call.position next.position in
      let begun = s.delivered.begins c 0 (first_reader x) (first_reads w.routes c x at (s.wired.some_reader c x at)) in
      let arrived : length (of_role 0 (w.arrivals c)) ≤ length (on_channel (first_reader x) w.tape) = omega (arith, ap length begun, length-take (length (of_role 0 (w.arrivals c))) (on_channel (first_reader x) w.tape)) in
      omega (arith, few, cursor_push (w.calls c) call, bounds.to_tail, next.tail, fused_few (length x.readers) (w.arrivals c), arrived, s.room.taped (first_reader x))

  -- No more outputs stand on the tape than there are.
  pub sent_few : Consistent w → (x : Route) → slice_get w.routes c ≡ Some x → length (on_channel x.out w.tape) ≤ length (outs x.out (w.calls c))
  sent_few s x at = let few = s.held.few c in rw at at few

  pub call_consistent : FetchesFind → Consistent w → Consistent (after_call p c call w)
  call_consistent law s = record {
    wired = s.wired;
    held = call_in s.held;
    called = call_called c call (next_is s) s.called;
    delivered = call_delivered c call (all_sent s) (λ x at. (put_out x.out (length (outs x.out (w.calls c))) call.out, outs_push x.out (w.calls c) call))
        (phase_delivered p c Asked (hand c Running) held refl s.delivered);
    causal = call_causal c call (next_is s) s.delivered.numbered (sent_few s) s.causal;
    room = call_room c call (fits law s) s.room;
  }
