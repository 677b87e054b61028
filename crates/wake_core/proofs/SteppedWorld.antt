-- A component that is to be stepped in a world, over its fields.
use Rattle.std.proofs.Common.{ℕ, ◌-◌, ◌^◌, ◌≡◌, ◌≢◌, ◌≤◌, ◌<◌, ◌∷◌, refl, sym, ◌∙◌, ap, arith, Option, Some, None, [], length, length-append, get_or, set, option_map, slice_get, le_trans}
use Rattle.cy_msg.specs.declared.token.Tuple.{Tuple}
use Rattle.cy_msg.proofs.Lists.{there, get_last}
use Rattle.cy_fuse.specs.Laws.{FetchesFind}
use Rattle.cy_comp.specs.declared.call.Call.{Call}
use Rattle.cy_comp.specs.declared.call.Outcome.{Outcome}
use Rattle.cy_comp.specs.Routine.{RoutineView, taken, answer_to, MayTake}
use Rattle.wake_core.specs.declared.world.World.{World}
use Rattle.wake_core.specs.declared.found.Found.{Found}
use Rattle.cy_comp.specs.Step.{outcome_after}
use Rattle.cy_comp.specs.Calls.{cursor_after, last_outcome, tuples_of}
use Rattle.wake_core.specs.declared.entries.TheConstants.{MOST_PLANNED}
use Rattle.wake_core.specs.Plain.{Ready, last_of}
use Rattle.wake_core.specs.WorldOf.{plain_of, to_step}
use Rattle.wake_core.specs.WorldCalls.{in_hand, MayStep}
use Rattle.wake_core.specs.Fields.{read, no_routine}
use Rattle.wake_core.specs.private.Shown.{shown_calls, calls_at}
use Rattle.wake_core.proofs.Arriving.{fused_planned, planned_trigger}
use Rattle.wake_core.proofs.Reading.{read_is, read-set_same}
use Rattle.wake_core.proofs.Joining.{fused_messages}
use Rattle.wake_core.proofs.Outputs.{last_push}
use Rattle.wake_core.specs.Laws.{call_of}
use Rattle.wake_core.proofs.Stepped.{calls_same, stepped_world}

-- A component is to be stepped on what was found.
pub record IsToStep (s : World) (n : ℕ) (r : RoutineView) (f : Found) (tuple : Tuple) : Type 0 where
  pub known : n < length (plain_of s).routes
  pub routine : read (λ r. r) no_routine s.routines.items n ≡ r
  pub found : read (λ f. f) None s.found.items n ≡ Some f
  pub given : f.tuple ≡ tuple

-- What is to be stepped was found.
pub found_there : (s : World) (p n : ℕ) (tuple : Tuple) → n ≡ in_hand p (plain_of s) → MayStep p tuple (plain_of s) (to_step s) → to_step s n ≡ Some tuple
found_there s p n tuple is may = ap (to_step s) is ∙ may.given

pub none_found : (s : World) (n : ℕ) (tuple : Tuple) (o : Option Found) → n < length (plain_of s).routes → o ≡ get_or s.found.items n o → to_step s n ≡ Some tuple → o ≡ None → ⊥
unfolding plain_of to_step
none_found s n tuple o known at some none = absurd_none (sym (ap (option_map (λ (f : Found). f.tuple)) (read_is (λ f. f) None s.found.items n o (omega (arith, known, s.sized.found_fit)) at ∙ none)) ∙ some)
  where
    absurd_none : None ≡ Some tuple → ⊥
    absurd_none e = cc

pub to_be_stepped : (s : World) (n : ℕ) (r : RoutineView) (f : Found) (tuple : Tuple) (o : Option Found) → n < length (plain_of s).routes → r ≡ get_or s.routines.items n r → o ≡ get_or s.found.items n o → o ≡ Some f
    → to_step s n ≡ Some tuple → IsToStep s n r f tuple
unfolding plain_of to_step
to_be_stepped s n r f tuple o known routine at is given =
    let found : read (λ f. f) None s.found.items n ≡ Some f = read_is (λ f. f) None s.found.items n o (omega (arith, known, s.sized.found_fit)) at ∙ is in
    record {
      known = known;
      routine = read_is (λ r. r) no_routine s.routines.items n r (omega (arith, known, s.sized.routines_fit)) routine;
      found = found;
      given = one_of (sym (ap (option_map (λ (f : Found). f.tuple)) found) ∙ given);
    }
  where
    one_of : {a b : Tuple} → Some a ≡ Some b → a ≡ b
    one_of e = cc

module _ (s : World) (n : ℕ) (r : RoutineView) (f : Found) (tuple : Tuple) (t : IsToStep s n r f tuple) where
  pub some_found : read (λ f. f) None s.found.items n ≢ None
  some_found none = some_none (sym t.found ∙ none)
    where
      some_none : Some f ≡ None → ⊥
      some_none e = cc

  -- What is shown of its calls has the call already.
  pub shown_step : (taken r tuple f.position f.tail).calls ≡ (plain_of s).calls n
  unfolding plain_of
  shown_step = ap (λ (x : Tuple). (taken r x f.position f.tail).calls) (sym t.given)
      ∙ sym (ap (shown_calls (read (λ r. r) no_routine s.routines.items n)) t.found ∙ ap (λ (r : RoutineView). shown_calls r (Some f)) t.routine)

  pub step_effect : (routine : RoutineView) → routine ≡ taken r tuple f.position f.tail → r ≡ get_or s.routines.items n r
      → record (plain_of s) {
        states = read (λ r. r.state) Ready (set s.routines.items n routine);
        cursors = λ k. cursor_after (calls_at (set s.routines.items n routine) (set s.found.items n None) k);
        calls = calls_at (set s.routines.items n routine) (set s.found.items n None);
      } ≡ plain_of s
  unfolding plain_of
  step_effect routine is place = stepped_world (plain_of s) refl
      (read-set_same (λ r. r.state) Ready s.routines.items n routine r (ap (λ (r : RoutineView). r.state) is ∙ ap (λ (r : RoutineView). r.state) place))
      (calls_same s.routines.items s.found.items n routine (omega (arith, t.known, s.sized.routines_fit)) (omega (arith, t.known, s.sized.found_fit)) (ap (λ (r : RoutineView). r.calls) is ∙ shown_step))

  pub as_read : (routine : RoutineView) → routine ≡ taken r tuple f.position f.tail → routine ≡ taken (read (λ r. r) no_routine s.routines.items n) tuple f.position f.tail
  as_read routine is = is ∙ ap (λ (r : RoutineView). taken r tuple f.position f.tail) (sym t.routine)

  its_call : Call
  its_call = call_of r (tuple, f.position, f.tail)

  call_there : slice_get ((plain_of s).calls n) (length r.calls) ≡ Some its_call
  unfolding its_call
  call_there = ap (λ l. slice_get l (length r.calls)) (sym shown_step) ∙ get_last r.calls its_call

  pub outcome_shown : (o : Outcome) → o ≡ answer_to r tuple → last_of (plain_of s).routes (plain_of s).calls n ≡ Some o
  unfolding plain_of its_call
  outcome_shown o is =
      let x = there s.fixed.routes.items n t.known in
      let kind : r.kind ≡ x.0.kind = ap (λ (r : RoutineView). r.kind) (sym t.routine) ∙ s.waiting.kinds n x.0 x.1 in
      rw x.1 (ap (last_outcome x.0.kind) (sym shown_step) ∙ last_push x.0 r.calls its_call ∙ ap (λ k. Some (outcome_after k (tuples_of r.calls) tuple)) (sym kind) ∙ ap (λ (o : Outcome). Some o) (sym is))

  pub room_left : 1 ≤ (read (λ r. r) no_routine s.routines.items n).spare
  unfolding plain_of its_call
  room_left =
      let x = there s.fixed.routes.items n t.known in
      let planned = s.roomy.calls n x.0 x.1 in
      let called = s.sound.consistent.room.called n x.0 x.1 in
      omega (arith, planned, called, ap length shown_step, length-append r.calls (its_call ∷ []), ap (λ (r : RoutineView). length r.calls) t.routine)

  -- The component may be stepped.
  pub may_take : FetchesFind → MayTake r tuple f.position
  unfolding plain_of its_call
  may_take law =
      let x = there s.fixed.routes.items n t.known in
      let lawful = s.sound.consistent.called.lawful n x.0 x.1 in
      let bounds = law.bounds _ _ _ _ _ (lawful.positions (length r.calls) its_call call_there) in
      let fused_tail = lawful.tails_fused (length r.calls) its_call call_there in
      let few = le_trans (fused_planned (plain_of s) n x.0 x.1 s.sound.consistent) (planned_trigger s.fixed.routes.items s.fixed.counts.items n x.0 x.1) in
      let room = room_left in
      record {
        none_waits = ap (λ (r : RoutineView). r.pending) (sym t.routine) ∙ s.waiting.none_waits n some_found;
        room = omega (arith, room, ap (λ (r : RoutineView). r.spare) t.routine);
        in_range = below bounds.to_tail fused_tail few s.fixed.lawful.limited;
        needed = rw (
          ap (λ (r : RoutineView). r.kind) (sym t.routine) ∙ s.waiting.kinds n x.0 x.1,
          fused_messages (length x.0.readers) ((plain_of s).arrivals n) (s.fixed.lawful.some_reader n x.0 x.1) (s.fixed.lawful.few_readers n x.0 x.1) (f.position - 1) tuple (lawful.tuples (length r.calls) its_call call_there),
        ) (s.fixed.lawful.needed n x.0 x.1);
      }
    where
      below : {a b c d : ℕ} → a ≤ b → b ≤ c → c ≤ d → d ≤ MOST_PLANNED → a < 2 ^ 64 - 1
      below p q r s = omega (arith)
