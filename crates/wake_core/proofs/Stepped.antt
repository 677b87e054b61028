-- What a step of a component on the tuple that its fetch found comes to.
use Rattle.std.proofs.Common.{ℕ, ◌+◌, ◌-◌, ◌≡◌, ◌≢◌, ◌≤◌, ◌<◌, refl, sym, ◌∙◌, ap, inl, inr, arith, Option, Some, None, List, [], ◌∷◌, ◌++◌, length, length-append, set, slice_get, option_map}
use mathlib.Core.Path.{fun_ext}
use Rattle.cy_msg.specs.declared.token.Token.{Token}
use Rattle.cy_msg.specs.declared.token.Tuple.{Tuple}
use Rattle.cy_msg.proofs.Lists.{place, get_in}
use Rattle.cy_comp.specs.declared.call.Call.{Call}
use Rattle.cy_comp.specs.Calls.{cursor_after, outs, output}
use Rattle.cy_comp.specs.Routine.{RoutineView, taken}
use Rattle.wake_core.specs.declared.found.Found.{Found}
use Rattle.wake_core.specs.Run.{Route, set_at}
use Rattle.wake_core.specs.Planned.{planned_count, first_reader}
use Rattle.wake_core.specs.Plain.{Plain, Hand, State}
use Rattle.wake_core.specs.Fields.{read, no_routine, IsRoomy}
use Rattle.wake_core.specs.private.Shown.{shown_calls, calls_at, IsWaiting, IsStepping}
use Rattle.cy_fuse.specs.Visitor.{VisitorView}
use Rattle.wake_core.proofs.Places.{set_at_there, set_at_other}
use Rattle.wake_core.proofs.Reading.{read-set}
use Rattle.wake_core.proofs.Outputs.{put_out, outs_push, next_out}
use Rattle.wake_core.specs.Laws.{call_of}

-- What is shown of the calls stays as it was, since it had the call already.
pub calls_same : (routines : List RoutineView) (found : List (Option Found)) (c : ℕ) (r : RoutineView) → c < length routines → c < length found
    → r.calls ≡ calls_at routines found c → calls_at (set routines c r) (set found c None) ≡ calls_at routines found
calls_same routines found c r within there same = fun_ext (λ k.
    ap (λ (at : ℕ → RoutineView). shown_calls (at k) (read (λ f. f) None (set found c None) k)) (read-set (λ r. r) no_routine routines c r within)
    ∙ ap (λ (at : ℕ → Option Found). shown_calls (set_at c r (read (λ r. r) no_routine routines) k) (at k)) (read-set (λ f. f) None found c None there)
    ∙ by k)
  where
    by : (k : ℕ) → shown_calls (set_at c r (read (λ r. r) no_routine routines) k) (set_at c None (read (λ f. f) None found) k) ≡ calls_at routines found k
    by k = elim (place k c) [
      | inl e ↦ ap (shown_calls (set_at c r (read (λ r. r) no_routine routines) k)) (set_at_there c None (read (λ f. f) None found) k e)
          ∙ ap (λ (r : RoutineView). r.calls) (set_at_there c r (read (λ r. r) no_routine routines) k e) ∙ same ∙ ap (calls_at routines found) (sym e)
      | inr e ↦ ap (shown_calls (set_at c r (read (λ r. r) no_routine routines) k)) (set_at_other c None (read (λ f. f) None found) k e)
          ∙ ap (λ (r : RoutineView). shown_calls r (read (λ f. f) None found k)) (set_at_other c r (read (λ r. r) no_routine routines) k e)
    ]

pub stepped_world : (w : Plain) {st : ℕ → State} {at : ℕ → List Call} → w.cursors ≡ (λ k. cursor_after (w.calls k)) → st ≡ w.states → at ≡ w.calls
    → record w { states = st; cursors = λ k. cursor_after (at k); calls = at } ≡ w
stepped_world w {st} {at} cursors states calls =
    ap (λ (f : ℕ → State). record w { states = f; cursors = λ k. cursor_after (at k); calls = at }) states
    ∙ ap (λ (f : ℕ → List Call). record w { cursors = λ k. cursor_after (f k); calls = f }) calls
    ∙ ap (λ (f : ℕ → ℕ). record w { cursors = f }) (sym cursors)

-- Nothing is to be stepped at a component any more.
pub stepped_stepping : {hands : ℕ → Option Hand} {found : ℕ → Option Found} (c : ℕ) → IsStepping hands found → IsStepping hands (set_at c None found)
stepped_stepping {hands} {found} c h = record {
  stepped = λ k still. elim (place k c) [
    | inl e ↦ set_at_there c None found k e
    | inr e ↦ set_at_other c None found k e ∙ h.stepped k still
  ];
}

past_end : {X : Type 0} (xs : List X) (n : ℕ) → slice_get xs n ≡ None → length xs ≤ n
past_end xs n e = by (λ l. get_in xs n l e)
  where
    by : (n < length xs → ⊥) → length xs ≤ n
    by f = omega (arith, f)

-- The output of the call that was made waits, where it has one.
pub stepped_waiting : {routes : List Route} {routines : ℕ → RoutineView} {found : ℕ → Option Found} {sent : ℕ → ℕ} {tape : List Token} (c position tail : ℕ) (tuple : Tuple) → found c ≢ None
    → IsWaiting routes routines found sent tape → IsWaiting routes (set_at c (taken (routines c) tuple position tail) routines) (set_at c None found) sent tape
stepped_waiting {routes} {routines} {found} {sent} {tape} c position tail tuple some h =
    let r : RoutineView = taken (routines c) tuple position tail in
    record {
      kinds = λ k x at. elim (place k c) [
        | inl e ↦ ap (λ (r : RoutineView). r.kind) (set_at_there c r routines k e) ∙ ap (λ n. (routines n).kind) (sym e) ∙ h.kinds k x at
        | inr e ↦ ap (λ (r : RoutineView). r.kind) (set_at_other c r routines k e) ∙ h.kinds k x at
      ];
      counted = h.counted;
      unsent = λ k x at. elim (place k c) [
        | inl e ↦ rw (e, set_at_there c r routines c refl) (next x (ap (slice_get routes) (sym e) ∙ at))
        | inr e ↦ rw (set_at_other c r routines k e) (h.unsent k x at)
      ];
      none_waits = λ k there. elim (place k c) [
        | inl e ↦ absurd (there (set_at_there c None found k e))
        | inr e ↦ ap (λ (r : RoutineView). r.pending) (set_at_other c r routines k e) ∙ h.none_waits k (λ n. there (set_at_other c None found k e ∙ n))
      ];
      few = λ k x at. elim (place k c) [
        | inl e ↦ rw (e, set_at_there c r routines c refl) (more x (ap (slice_get routes) (sym e) ∙ at))
        | inr e ↦ rw (set_at_other c r routines k e) (h.few k x at)
      ];
    }
  where
    all : (x : Route) → slice_get routes c ≡ Some x → sent c ≡ length (outs x.out (routines c).calls)
    all x at =
        let none = h.none_waits c some in
        let past = past_end (outs x.out (routines c).calls) (sent c) (h.unsent c x at ∙ ap (option_map (output x.out (sent c + 1))) none) in
        let few = h.few c x at in
        omega (arith, past, few)

    next : (x : Route) → slice_get routes c ≡ Some x → slice_get (outs x.out ((routines c).calls ++ call_of (routines c) (tuple, position, tail) ∷ [])) (sent c) ≡ option_map (output x.out (sent c + 1)) (call_of (routines c) (tuple, position, tail)).out
    next x at = ap (λ l. slice_get l (sent c)) (outs_push x.out (routines c).calls (call_of (routines c) (tuple, position, tail))) ∙ next_out x.out (outs x.out (routines c).calls) (call_of (routines c) (tuple, position, tail)).out (sent c) (all x at)

    more : (x : Route) → slice_get routes c ≡ Some x → sent c ≤ length (outs x.out ((routines c).calls ++ call_of (routines c) (tuple, position, tail) ∷ []))
    more x at = omega (arith, all x at, ap length (outs_push x.out (routines c).calls (call_of (routines c) (tuple, position, tail))), length-append (outs x.out (routines c).calls) (put_out x.out (length (outs x.out (routines c).calls)) (call_of (routines c) (tuple, position, tail)).out))

-- A call more takes the room of one.
pub stepped_roomy : {routes : List Route} {counts : List ℕ} {visitors : ℕ → VisitorView} {routines : ℕ → RoutineView} {tape : ℕ} (c position tail : ℕ) (tuple : Tuple) → 1 ≤ (routines c).spare
    → IsRoomy routes counts visitors routines tape → IsRoomy routes counts visitors (set_at c (taken (routines c) tuple position tail) routines) tape
stepped_roomy {routes} {counts} {visitors} {routines} {tape} c position tail tuple some h =
    let r : RoutineView = taken (routines c) tuple position tail in
    record {
      arrivals = h.arrivals;
      calls = λ k x at. elim (place k c) [
        | inl e ↦ rw (e, set_at_there c r routines c refl) (same (planned_count routes counts (first_reader x)) (h.calls c x (ap (slice_get routes) (sym e) ∙ at)))
        | inr e ↦ rw (set_at_other c r routines k e) (h.calls k x at)
      ];
      messages = h.messages;
    }
  where
    same : (planned : ℕ) → planned ≤ length (routines c).calls + (routines c).spare → planned ≤ length ((routines c).calls ++ call_of (routines c) (tuple, position, tail) ∷ []) + ((routines c).spare - 1)
    same planned l = omega (arith, l, some, length-append (routines c).calls (call_of (routines c) (tuple, position, tail) ∷ []))
