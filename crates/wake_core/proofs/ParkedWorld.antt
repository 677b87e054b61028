-- A croutine that is parked, in a world at rest, over its fields.
use Rattle.std.proofs.Common.{ℕ, ◌+◌, ◌≡◌, ◌<◌, ◌&&◌, true, not, refl, sym, ◌∙◌, ap, arith, Option, Some, None, [], length, get_or, set, is_some, option_map}
use Rattle.cy_msg.proofs.Lists.{there}
use Rattle.cy_fuse.specs.Laws.{FetchesFind}
use Rattle.cy_fuse.specs.Visitor.{VisitorView, position_at}
use Rattle.cy_comp.specs.Calls.{cursor_after, output}
use Rattle.cy_comp.specs.Routine.{RoutineView}
use Rattle.wake_core.specs.declared.world.World.{World}
use Rattle.wake_core.specs.Plain.{Hand, Ready, DataWait, unsent_of, found_by, taped_of}
use Rattle.wake_core.specs.WorldOf.{plain_of}
use Rattle.wake_core.specs.Fields.{read, no_visitor, no_routine}
use Rattle.wake_core.specs.private.Shown.{calls_at}
use Rattle.wake_core.specs.Rest.{IsAtRest}
use Rattle.wake_core.specs.Turns.{is_ready, finds_nothing, parked_world}
use Rattle.wake_core.proofs.Reading.{read_is, read-set}
use Rattle.wake_core.proofs.Fetched.{found_visited}
use Rattle.wake_core.proofs.Shown.{calls_stepped}
use Rattle.wake_core.proofs.Showing.{unsent_is}
use Rattle.wake_core.proofs.Storing.{routines_stored, states_stored, calls_stored, stored_parts}

-- The world is at rest, and its component has a routine and a visitor.
pub record IsToPark (s : World) (n : ℕ) (r : RoutineView) : Type 0 where
  pub rest : IsAtRest (plain_of s)
  pub known : n < length (plain_of s).routes
  pub routine : r ≡ get_or s.routines.items n r
  pub law : FetchesFind

module _ (s : World) (n : ℕ) (r : RoutineView) (t : IsToPark s n r) where
  within : n < length s.routines.items
  unfolding plain_of
  within = let known = t.known in omega (arith, known, s.sized.routines_fit)

  its_routine : read (λ r. r) no_routine s.routines.items n ≡ r
  its_routine = read_is (λ r. r) no_routine s.routines.items n r within t.routine

  its_found : read (λ f. f) None s.found.items n ≡ None
  unfolding plain_of
  its_found = s.stepping.stepped n (λ p e. none_some (sym (t.rest p).hand ∙ e))
    where
      none_some : {h : Hand} → None ≡ Some h → ⊥
      none_some e = cc

  its_calls : r.calls ≡ (plain_of s).calls n
  unfolding plain_of
  its_calls = calls_stepped s.routines.items s.found.items n r its_routine its_found

  state_shown : is_ready r.state ≡ is_ready ((plain_of s).states n)
  unfolding plain_of
  state_shown = ap is_ready (sym (read_is (λ r. r.state) Ready s.routines.items n r within t.routine))

  unsent_shown : is_some r.pending ≡ is_some (unsent_of (plain_of s) n)
  unfolding plain_of
  unsent_shown =
      let x = there s.fixed.routes.items n t.known in
      ap (λ (r : RoutineView). is_some r.pending) (sym its_routine)
      ∙ some_mapped (output x.0.out (taped_of s.fixed.routes.items s.tape.items n + 1)) (read (λ r. r) no_routine s.routines.items n).pending
      ∙ ap is_some (sym (unsent_is s.fixed.routes.items (plain_of s).calls s.tape.items n x.0 x.1 (sym its_calls ∙ ap (λ (r : RoutineView). r.calls) (sym its_routine)) s.waiting))
    where
      some_mapped : {X Y : Type 0} (f : X → Y) (o : Option X) → is_some o ≡ is_some (option_map f o)
      some_mapped f None = refl
      some_mapped f (Some x) = refl

  found_shown : (v : VisitorView) (index : ℕ) → v ≡ get_or s.visitors.items n v → index ≡ cursor_after r.calls → is_some (position_at index v) ≡ is_some (found_by (plain_of s) n)
  unfolding plain_of
  found_shown v index visitor cursor =
      let x = there s.fixed.routes.items n t.known in
      let known = t.known in
      let fits : n < length s.visitors.items = omega (arith, known, s.sized.visitors_fit) in
      let view = read_is (λ v. v) no_visitor s.visitors.items n v fits visitor in
      ap is_some (found_visited t.law (plain_of s) n index x.0 v x.1
      (sym (read_is (λ v. v.arrivals) [] s.visitors.items n v fits visitor))
      (ap (λ (v : VisitorView). v.roles) (sym view) ∙ s.visited.roles n x.0 x.1)
      (ap (λ (v : VisitorView). v.queue) (sym view) ∙ s.visited.queues n x.0 x.1)
      (ap (λ (v : VisitorView). v.overflow) (sym view) ∙ s.visited.overflows n x.0 x.1)
      (s.fixed.lawful.buffered n x.0 x.1)
      (cursor ∙ ap cursor_after its_calls)
      s.sound.consistent)

  -- What the call tests is what the plain world says.
  pub tests : (v : VisitorView) → v ≡ get_or s.visitors.items n v → (is_ready r.state && not (is_some r.pending) && not (is_some (position_at (cursor_after r.calls) v))) ≡ finds_nothing n (plain_of s)
  tests v visitor = rw (state_shown, unsent_shown, found_shown v (cursor_after r.calls) visitor refl) refl

  -- The world in which it was parked.
  module _ (new : RoutineView) (is : new ≡ record r { state = DataWait }) where
    as_asked : new ≡ record (read (λ r. r) no_routine s.routines.items n) { state = DataWait }
    as_asked = is ∙ ap (λ (r : RoutineView). record r { state = DataWait }) (sym its_routine)

    pub asked_same : (c : ℕ) → record (read (λ r. r) no_routine (set s.routines.items n new) c) { state = DataWait } ≡ record (read (λ r. r) no_routine s.routines.items c) { state = DataWait }
    asked_same = routines_stored s.routines.items n new DataWait within as_asked

    pub parked_shown : record (plain_of s) {
      states = read (λ r. r.state) Ready (set s.routines.items n new);
      spent = read (λ b. b) true (set s.spent.items n true);
      cursors = λ k. cursor_after (calls_at (set s.routines.items n new) s.found.items k);
      calls = calls_at (set s.routines.items n new) s.found.items;
    } ≡ parked_world n (plain_of s)
    unfolding plain_of
    parked_shown =
        let known = t.known in
        let fits : n < length s.spent.items = omega (arith, known, s.sized.spent_fit) in
        stored_parts (plain_of s) n DataWait (states_stored s.routines.items n new DataWait within as_asked) (read-set (λ b. b) true s.spent.items n true fits)
        (calls_stored s.routines.items s.found.items n new DataWait within as_asked) refl
