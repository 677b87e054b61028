-- A component that is called where its croutine is in hand, in a world, over its fields.
use Rattle.std.proofs.Common.{ℕ, ◌-◌, ◌^◌, ◌≡◌, ◌≢◌, ◌≤◌, ◌<◌, ◌∷◌, ◌++◌, refl, sym, ◌∙◌, ap, subst, inl, inr, arith, Option, Some, None, is_some, List, [], length, length-append, get_or, set, slice_get, option_map, le_trans}
use mathlib.Core.Path.{fun_ext}
use Rattle.cy_msg.specs.declared.token.Token.{Token}
use Rattle.cy_msg.specs.declared.token.Tuple.{Tuple}
use Rattle.cy_msg.proofs.Lists.{place, get_last, there}
use Rattle.cy_fuse.specs.Laws.{FetchesFind}
use Rattle.cy_fuse.specs.Visitor.{VisitorView, visited}
use Rattle.cy_comp.specs.declared.call.Call.{Call}
use Rattle.cy_comp.specs.declared.call.Outcome.{Outcome}
use Rattle.cy_comp.specs.Step.{outcome_after}
use Rattle.cy_comp.specs.Calls.{cursor_after, last_outcome, tuples_of}
use Rattle.cy_comp.specs.Routine.{RoutineView, taken, answer_to, MayTake}
use Rattle.wake_core.specs.declared.world.World.{World}
use Rattle.wake_core.specs.declared.found.Found.{Found}
use Rattle.wake_core.specs.declared.entries.TheConstants.{MOST_PLANNED}
use Rattle.wake_core.specs.Run.{Route, set_at}
use Rattle.wake_core.specs.Plain.{Plain, Hand, hand, State, Ready, DataWait, Checked, Asked, Empty, Running, last_of, unsent_of}
use Rattle.wake_core.specs.Events.{Asks, Fetches, next_call, after_ask, after_call, after_none, after_fetch}
use Rattle.wake_core.specs.Sound.{Sound}
use Rattle.wake_core.specs.WorldOf.{plain_of, to_step}
use Rattle.wake_core.specs.Fields.{read, no_visitor, no_routine, IsRoomy}
use Rattle.wake_core.specs.private.Shown.{shown_calls, calls_at, IsWaiting}
use Rattle.wake_core.specs.Turns.{IsInHand, Calls}
use Rattle.wake_core.specs.Laws.{call_of}
use Rattle.wake_core.proofs.Places.{set_at_same, set_at_there, set_at_other, set_at_again, set_at_itself}
use Rattle.wake_core.proofs.HeldLaws.{not_running_of}
use Rattle.wake_core.proofs.Reading.{read_is, read-set}
use Rattle.wake_core.proofs.Outputs.{last_push}
use Rattle.wake_core.proofs.Joining.{fused_messages}
use Rattle.wake_core.proofs.Arriving.{fused_planned, planned_trigger}
use Rattle.wake_core.proofs.Fetched.{next_visited}
use Rattle.wake_core.proofs.Shown.{calls_stepped, none_waiting, called_world, found_waiting}
use Rattle.wake_core.proofs.Stepped.{stepped_waiting, stepped_roomy}
use Rattle.wake_core.proofs.Storing.{waiting_stored, roomy_stored, routines_stored, states_stored, calls_stored, stored_world}
use Rattle.wake_core.proofs.Sounding.{ask_sound, fetch_sound}

-- A component that isn't to be stepped shows the calls of its new routine.
calls_written : (routines : List RoutineView) (found : List (Option Found)) (c : ℕ) (r : RoutineView) → c < length routines → read (λ f. f) None found c ≡ None
    → calls_at (set routines c r) found ≡ set_at c r.calls (calls_at routines found)
calls_written routines found c r within none = fun_ext (λ k.
    ap (λ (at : ℕ → RoutineView). shown_calls (at k) (read (λ f. f) None found k)) (read-set (λ r. r) no_routine routines c r within)
    ∙ by k)
  where
    by : (k : ℕ) → shown_calls (set_at c r (read (λ r. r) no_routine routines) k) (read (λ f. f) None found k) ≡ set_at c r.calls (calls_at routines found) k
    by k = elim (place k c) [
      | inl e ↦ ap (λ (x : RoutineView). shown_calls x (read (λ f. f) None found k)) (set_at_there c r (read (λ r. r) no_routine routines) k e)
          ∙ ap (shown_calls r) (ap (read (λ f. f) None found) e ∙ none) ∙ sym (set_at_there c r.calls (calls_at routines found) k e)
      | inr e ↦ ap (λ (x : RoutineView). shown_calls x (read (λ f. f) None found k)) (set_at_other c r (read (λ r. r) no_routine routines) k e) ∙ sym (set_at_other c r.calls (calls_at routines found) k e)
    ]

-- Two routines, one of which is the other that waits, are the same but for their state.
same_state : (f : ℕ → RoutineView) (c : ℕ) (r new : RoutineView) → new ≡ record r { state = DataWait } → (k : ℕ) → record (set_at c new f k) { state = DataWait } ≡ record (set_at c r f k) { state = DataWait }
same_state f c r new is k = elim (place k c) [
  | inl e ↦ ap (λ (x : RoutineView). record x { state = DataWait }) (set_at_there c new f k e ∙ is) ∙ ap (λ (x : RoutineView). record x { state = DataWait }) (sym (set_at_there c r f k e))
  | inr e ↦ ap (λ (x : RoutineView). record x { state = DataWait }) (set_at_other c new f k e ∙ sym (set_at_other c r f k e))
]

-- A component is called at once: nothing was to be stepped, and nothing is.
call_waiting : {routes : List Route} {routines : ℕ → RoutineView} {found : ℕ → Option Found} {sent : ℕ → ℕ} {tape : List Token} (c position tail : ℕ) (tuple : Tuple) (new : RoutineView)
    → found c ≡ None → (routines c).pending ≡ None → new ≡ record (taken (routines c) tuple position tail) { state = DataWait }
    → IsWaiting routes routines found sent tape → IsWaiting routes (set_at c new routines) found sent tape
call_waiting {routes} {routines} {found} {sent} {tape} c position tail tuple new none pending is h =
    let f : Option Found = Some record { tuple = tuple; position = position; tail = tail } in
    let there : set_at c f found c ≢ None = λ e. some_none (sym (set_at_same c f found) ∙ e) in
    let stepped : IsWaiting routes (set_at c (taken (routines c) tuple position tail) routines) (set_at c None (set_at c f found)) sent tape = stepped_waiting c position tail tuple there (found_waiting c f pending h) in
    let back : set_at c None (set_at c f found) ≡ found = set_at_again c f None found ∙ ap (λ o. set_at c o found) (sym none) ∙ set_at_itself c found in
    waiting_stored DataWait (same_state routines c (taken (routines c) tuple position tail) new is) (subst (λ x. IsWaiting routes (set_at c (taken (routines c) tuple position tail) routines) x sent tape) back stepped)
  where
    some_none : {x : Found} → Some x ≡ None → ⊥
    some_none e = cc

call_roomy : {routes : List Route} {counts : List ℕ} {visitors : ℕ → VisitorView} {routines : ℕ → RoutineView} {tape : ℕ} (c position tail : ℕ) (tuple : Tuple) (new : RoutineView)
    → 1 ≤ (routines c).spare → new ≡ record (taken (routines c) tuple position tail) { state = DataWait }
    → IsRoomy routes counts visitors routines tape → IsRoomy routes counts visitors (set_at c new routines) tape
call_roomy {routines = routines} c position tail tuple new some is h =
    roomy_stored DataWait (same_state routines c (taken (routines c) tuple position tail) new is) (stepped_roomy c position tail tuple some h)

-- The croutine in hand is READY and holds nothing back, and its component has a routine.
pub record IsToCall (s : World) (n : ℕ) (r : RoutineView) : Type 0 where
  pub held : IsInHand n Checked (plain_of s)
  pub none_held : unsent_of (plain_of s) n ≡ None
  pub routine : r ≡ get_or s.routines.items n r
  pub law : FetchesFind

-- A croutine in hand is one of the components.
pub hand_in : (s : World) (n : ℕ) → IsInHand n Checked (plain_of s) → n < length (plain_of s).routes
unfolding plain_of
hand_in s n h = s.sound.consistent.held.known 0 n Checked h.held

-- .. and is not to be stepped.
known_found : (s : World) (n : ℕ) → IsInHand n Checked (plain_of s) → read (λ f. f) None s.found.items n ≡ None
unfolding plain_of
known_found s n h = s.stepping.stepped n (not_running_of 0 n Checked h.held (λ e. cc) s.sound.consistent.held)

pub known_stepped : (s : World) (n : ℕ) → IsInHand n Checked (plain_of s) → to_step s n ≡ None
unfolding to_step
known_stepped s n h = ap (option_map (λ (f : Found). f.tuple)) (known_found s n h)

module _ (s : World) (n : ℕ) (r : RoutineView) (t : IsToCall s n r) where
  known : n < length (plain_of s).routes
  known = hand_in s n t.held

  within : n < length s.routines.items
  unfolding plain_of
  within = omega (arith, known, s.sized.routines_fit)

  its_routine : read (λ r. r) no_routine s.routines.items n ≡ r
  its_routine = read_is (λ r. r) no_routine s.routines.items n r within t.routine

  its_found : read (λ f. f) None s.found.items n ≡ None
  its_found = known_found s n t.held

  its_calls : r.calls ≡ (plain_of s).calls n
  unfolding plain_of
  its_calls = calls_stepped s.routines.items s.found.items n r its_routine its_found

  its_pending : (read (λ r. r) no_routine s.routines.items n).pending ≡ None
  unfolding plain_of
  its_pending =
      let x = there s.fixed.routes.items n known in
      none_waiting (plain_of s).calls n x.0 s.waiting x.1 (ap (λ (r : RoutineView). r.calls) its_routine ∙ its_calls) t.none_held

  -- It asks, and then fetches.
  abbrev asked : Plain
  asked = after_ask 0 n (plain_of s)

  asks : Asks 0 n (plain_of s) asked
  asks = record { held = t.held.held; none_held = t.none_held; effect = refl }

  asked_sound : Sound asked
  unfolding plain_of
  asked_sound = ask_sound 0 n (plain_of s) asked asks s.sound

  asked_held : asked.hands 0 ≡ hand n Asked
  asked_held = set_at_same 0 (hand n Asked) (plain_of s).hands

  pub call_next : (v : VisitorView) (index : ℕ) (o : Option (Tuple × ℕ × ℕ)) → v ≡ get_or s.visitors.items n v → index ≡ cursor_after r.calls → o ≡ visited index v
      → next_call asked n ≡ option_map (call_of r) o
  unfolding plain_of
  call_next v index o visitor cursor found =
      let x = there s.fixed.routes.items n known in
      let fits : n < length s.visitors.items = omega (arith, known, s.sized.visitors_fit) in
      let view = read_is (λ v. v) no_visitor s.visitors.items n v fits visitor in
      next_visited t.law asked n index x.0 r v x.1 (ap (λ (r : RoutineView). r.kind) (sym its_routine) ∙ s.waiting.kinds n x.0 x.1) its_calls
      (sym (read_is (λ v. v.arrivals) [] s.visitors.items n v fits visitor))
      (ap (λ (v : VisitorView). v.roles) (sym view) ∙ s.visited.roles n x.0 x.1)
      (ap (λ (v : VisitorView). v.queue) (sym view) ∙ s.visited.queues n x.0 x.1)
      (ap (λ (v : VisitorView). v.overflow) (sym view) ∙ s.visited.overflows n x.0 x.1)
      (s.fixed.lawful.buffered n x.0 x.1)
      (cursor ∙ ap cursor_after its_calls)
      asked_sound.consistent
      ∙ ap (option_map (call_of r)) (sym found)

  fetched : (o : Option Call) → next_call asked n ≡ o → (v : Plain) → v ≡ after_fetch 0 n o asked → Fetches 0 n asked v
  fetched o next v is = record { held = asked_held; effect = is ∙ ap (λ (x : Option Call). after_fetch 0 n x asked) (sym next) }

  -- It finds a tuple.
  module _ (tuple : Tuple) (position tail : ℕ) (next : next_call asked n ≡ Some (call_of r (tuple, position, tail))) where
    abbrev made : Plain
    made = after_call 0 n (call_of r (tuple, position, tail)) asked

    made_sound : Sound made
    made_sound = fetch_sound t.law 0 n asked made (fetched (Some (call_of r (tuple, position, tail))) next made refl) asked_sound

    made_calls : made.calls n ≡ r.calls ++ call_of r (tuple, position, tail) ∷ []
    made_calls = set_at_same n ((plain_of s).calls n ++ call_of r (tuple, position, tail) ∷ []) (plain_of s).calls ∙ ap (λ (l : List Call). l ++ call_of r (tuple, position, tail) ∷ []) (sym its_calls)

    call_there : slice_get (made.calls n) (length r.calls) ≡ Some (call_of r (tuple, position, tail))
    call_there = ap (λ l. slice_get l (length r.calls)) made_calls ∙ get_last r.calls (call_of r (tuple, position, tail))

    pub call_room : 1 ≤ r.spare
    unfolding plain_of
    call_room =
        let x = there s.fixed.routes.items n known in
        let planned = s.roomy.calls n x.0 x.1 in
        let called = made_sound.consistent.room.called n x.0 x.1 in
        omega (arith, planned, called, ap length made_calls, length-append r.calls (call_of r (tuple, position, tail) ∷ []), ap (λ (r : RoutineView). length r.calls) its_routine, ap (λ (r : RoutineView). r.spare) its_routine)

    -- The component may be called on it.
    pub may_call : (asking : RoutineView) → asking ≡ record r { state = DataWait } → MayTake asking tuple position
    unfolding plain_of
    may_call asking is =
        let x = there s.fixed.routes.items n known in
        let lawful = made_sound.consistent.called.lawful n x.0 x.1 in
        let bounds = t.law.bounds _ _ _ _ _ (lawful.positions (length r.calls) (call_of r (tuple, position, tail)) call_there) in
        let fused_tail = lawful.tails_fused (length r.calls) (call_of r (tuple, position, tail)) call_there in
        let few = le_trans (fused_planned made n x.0 x.1 made_sound.consistent) (planned_trigger s.fixed.routes.items s.fixed.counts.items n x.0 x.1) in
        let may : MayTake (record r { state = DataWait }) tuple position = record {
          none_waits = ap (λ (r : RoutineView). r.pending) (sym its_routine) ∙ its_pending;
          room = call_room;
          in_range = below bounds.to_tail fused_tail few s.fixed.lawful.limited;
          needed = rw (
            ap (λ (r : RoutineView). r.kind) (sym its_routine) ∙ s.waiting.kinds n x.0 x.1,
            fused_messages (length x.0.readers) ((plain_of s).arrivals n) (s.fixed.lawful.some_reader n x.0 x.1) (s.fixed.lawful.few_readers n x.0 x.1) (position - 1) tuple (lawful.tuples (length r.calls) (call_of r (tuple, position, tail)) call_there),
          ) (s.fixed.lawful.needed n x.0 x.1);
        } in
        subst (λ (x : RoutineView). MayTake x tuple position) (sym is) may
      where
        below : {a b c d : ℕ} → a ≤ b → b ≤ c → c ≤ d → d ≤ MOST_PLANNED → a < 2 ^ 64 - 1
        below p q r s = omega (arith)

    last_made : last_of made.routes made.calls n ≡ Some (answer_to r tuple)
    unfolding plain_of
    last_made =
        let x = there s.fixed.routes.items n known in
        let kind : r.kind ≡ x.0.kind = ap (λ (r : RoutineView). r.kind) (sym its_routine) ∙ s.waiting.kinds n x.0 x.1 in
        rw x.1 (ap (last_outcome x.0.kind) made_calls ∙ last_push x.0 r.calls (call_of r (tuple, position, tail)) ∙ ap (λ k. Some (outcome_after k (tuples_of r.calls) tuple)) (sym kind))

    -- It was: its routine has the call.
    module _ (new : RoutineView) (is : new ≡ record (taken r tuple position tail) { state = DataWait }) where
      as_read : new ≡ record (taken (read (λ r. r) no_routine s.routines.items n) tuple position tail) { state = DataWait }
      as_read = is ∙ ap (λ (r : RoutineView). record (taken r tuple position tail) { state = DataWait }) (sym its_routine)

      pub made_waiting : IsWaiting s.fixed.routes.items (read (λ r. r) no_routine (set s.routines.items n new)) (read (λ f. f) None s.found.items) (read (λ n. n) 0 s.sent.items) s.tape.items
      made_waiting = rw (read-set (λ r. r) no_routine s.routines.items n new within) (call_waiting n position tail tuple new its_found its_pending as_read s.waiting)

      pub made_roomy : (tape : ℕ) → IsRoomy s.fixed.routes.items s.fixed.counts.items (read (λ v. v) no_visitor s.visitors.items) (read (λ r. r) no_routine s.routines.items) tape
          → IsRoomy s.fixed.routes.items s.fixed.counts.items (read (λ v. v) no_visitor s.visitors.items) (read (λ r. r) no_routine (set s.routines.items n new)) tape
      made_roomy tape h = rw (read-set (λ r. r) no_routine s.routines.items n new within) (call_roomy n position tail tuple new (subst (λ (r : RoutineView). 1 ≤ r.spare) (sym its_routine) call_room) as_read h)

      pub made_world : (hands : ℕ → Option Hand) → hands ≡ set_at 0 (hand n Running) (plain_of s).hands
          → record (plain_of s) {
            states = read (λ r. r.state) Ready (set s.routines.items n new);
            cursors = λ k. cursor_after (calls_at (set s.routines.items n new) s.found.items k);
            calls = calls_at (set s.routines.items n new) s.found.items;
            hands = hands;
          } ≡ made
      unfolding plain_of
      made_world hands in_hand =
          let w = plain_of s in
          let cs = calls_at (set s.routines.items n new) s.found.items in
          let states : read (λ r. r.state) Ready (set s.routines.items n new) ≡ set_at n DataWait w.states =
          read-set (λ r. r.state) Ready s.routines.items n new within ∙ ap (λ (x : RoutineView). set_at n x.state w.states) is in
          let calls : cs ≡ set_at n (w.calls n ++ call_of r (tuple, position, tail) ∷ []) w.calls =
          calls_written s.routines.items s.found.items n new within its_found
          ∙ ap (λ (l : List Call). set_at n l w.calls) (ap (λ (x : RoutineView). x.calls) is ∙ ap (λ (l : List Call). l ++ call_of r (tuple, position, tail) ∷ []) its_calls) in
          ap (λ (st : ℕ → State). record w { states = st; cursors = λ k. cursor_after (cs k); calls = cs; hands = hands }) states
          ∙ called_world asked 0 n (call_of r (tuple, position, tail)) refl calls (in_hand ∙ sym (set_at_again 0 (hand n Asked) (hand n Running) w.hands))

      pub made_event : (v : Plain) (o : Outcome) → v ≡ made → o ≡ answer_to r tuple → Calls n (Some o) (plain_of s) v
      made_event v o is_made is_answer = record {
        between = asked;
        asks = asks;
        fetches = fetched (Some (call_of r (tuple, position, tail))) next v is_made;
        found = ap is_some (sym next);
        outcome = λ q e. ap (λ (x : Plain). last_of x.routes x.calls n) is_made ∙ last_made ∙ ap (λ (x : Outcome). Some x) (sym is_answer) ∙ e;
      }

      pub made_still : (v : Plain) → v ≡ made → Sound v
      made_still v is_made = subst Sound (sym is_made) made_sound

  -- It finds nothing.
  module _ (none : next_call asked n ≡ None) (new : RoutineView) (is : new ≡ record r { state = DataWait }) where
    as_asked : new ≡ record (read (λ r. r) no_routine s.routines.items n) { state = DataWait }
    as_asked = is ∙ ap (λ (r : RoutineView). record r { state = DataWait }) (sym its_routine)

    abbrev missed : Plain
    missed = after_none 0 n asked

    pub missed_waiting : IsWaiting s.fixed.routes.items (read (λ r. r) no_routine (set s.routines.items n new)) (read (λ f. f) None s.found.items) (read (λ n. n) 0 s.sent.items) s.tape.items
    missed_waiting = waiting_stored DataWait (routines_stored s.routines.items n new DataWait within as_asked) s.waiting

    pub missed_roomy : (tape : ℕ) → IsRoomy s.fixed.routes.items s.fixed.counts.items (read (λ v. v) no_visitor s.visitors.items) (read (λ r. r) no_routine s.routines.items) tape
        → IsRoomy s.fixed.routes.items s.fixed.counts.items (read (λ v. v) no_visitor s.visitors.items) (read (λ r. r) no_routine (set s.routines.items n new)) tape
    missed_roomy tape h = roomy_stored DataWait (routines_stored s.routines.items n new DataWait within as_asked) h

    pub missed_world : (hands : ℕ → Option Hand) → hands ≡ set_at 0 (hand n Empty) (plain_of s).hands
        → record (plain_of s) {
          states = read (λ r. r.state) Ready (set s.routines.items n new);
          cursors = λ k. cursor_after (calls_at (set s.routines.items n new) s.found.items k);
          calls = calls_at (set s.routines.items n new) s.found.items;
          hands = hands;
        } ≡ missed
    unfolding plain_of
    missed_world hands in_hand =
        stored_world (plain_of s) 0 n DataWait Empty (states_stored s.routines.items n new DataWait within as_asked) (calls_stored s.routines.items s.found.items n new DataWait within as_asked) in_hand
        ∙ ap (λ (h : ℕ → Option Hand). record asked { hands = h }) (sym (set_at_again 0 (hand n Asked) (hand n Empty) (plain_of s).hands))

    pub missed_event : (v : Plain) → v ≡ missed → Calls n None (plain_of s) v
    missed_event v is_missed = record {
      between = asked;
      asks = asks;
      fetches = fetched None none v is_missed;
      found = ap is_some (sym none);
      outcome = λ q e. absurd (none_some q e);
    }
      where
        none_some : (q : Outcome) → None ≡ Some q → ⊥
        none_some q e = cc

    pub missed_still : (v : Plain) → v ≡ missed → Sound v
    missed_still v is_missed = fetch_sound t.law 0 n asked v (fetched None none v is_missed) asked_sound
