-- What a fetch finds in a world, over its fields.
use Rattle.std.proofs.Common.{ℕ, ◌≡◌, ◌<◌, ◌∷◌, ◌++◌, sym, ◌∙◌, ap, arith, Option, Some, None, List, [], length, get_or, option_map}
use Rattle.cy_msg.specs.declared.token.Tuple.{Tuple}
use Rattle.cy_msg.proofs.Lists.{there}
use Rattle.cy_fuse.specs.Laws.{FetchesFind}
use Rattle.cy_fuse.specs.Visitor.{VisitorView, visited}
use Rattle.cy_comp.specs.declared.call.Call.{Call}
use Rattle.cy_comp.specs.Calls.{cursor_after}
use Rattle.cy_comp.specs.Routine.{RoutineView}
use Rattle.wake_core.specs.declared.world.World.{World}
use Rattle.wake_core.specs.declared.found.Found.{Found}
use Rattle.wake_core.specs.Plain.{hand, Asked}
use Rattle.wake_core.specs.Events.{next_call}
use Rattle.wake_core.specs.WorldOf.{plain_of, to_step}
use Rattle.wake_core.specs.WorldCalls.{in_hand, MayFetch}
use Rattle.wake_core.specs.Fields.{read, no_visitor, no_routine}
use Rattle.wake_core.specs.private.Shown.{shown_calls}
use Rattle.wake_core.proofs.Reading.{read_is}
use Rattle.wake_core.specs.Laws.{call_of}
use Rattle.wake_core.proofs.Fetched.{next_visited}
use Rattle.wake_core.proofs.Shown.{calls_stepped, asked_unsent, asked_stepped, none_waiting}

-- A croutine that asks, and the routine and the visitor of its component.
pub record IsAsking (s : World) (p n : ℕ) (r : RoutineView) : Type 0 where
  pub held : (plain_of s).hands p ≡ hand n Asked
  pub known : n < length (plain_of s).routes
  pub routine : r ≡ get_or s.routines.items n r

pub asking : (s : World) (p n : ℕ) (r : RoutineView) → n ≡ in_hand p (plain_of s) → n < length (plain_of s).routes → MayFetch p (plain_of s) → r ≡ get_or s.routines.items n r → IsAsking s p n r
asking s p n r is known may routine = record { held = may ∙ ap (λ k. hand k Asked) (sym is); known = known; routine = routine }

module _ (s : World) (p n : ℕ) (r : RoutineView) (a : IsAsking s p n r) where
  its_routine : read (λ r. r) no_routine s.routines.items n ≡ r
  unfolding plain_of
  its_routine = read_is (λ r. r) no_routine s.routines.items n r (omega (arith, a.known, s.sized.routines_fit)) a.routine

  its_found : read (λ f. f) None s.found.items n ≡ None
  unfolding plain_of
  its_found = asked_stepped (plain_of s) p n a.held s.sound.consistent.held s.stepping

  pub its_calls : r.calls ≡ (plain_of s).calls n
  unfolding plain_of
  its_calls = calls_stepped s.routines.items s.found.items n r its_routine its_found

  pub none_pending : (read (λ r. r) no_routine s.routines.items n).pending ≡ None
  unfolding plain_of
  none_pending =
      let x = there s.fixed.routes.items n a.known in
      none_waiting (plain_of s).calls n x.0 s.waiting x.1 (ap (λ (r : RoutineView). r.calls) its_routine ∙ its_calls) (asked_unsent (plain_of s) p n a.held s.sound.consistent.held)

  -- The call that comes of the fetch is on what the visitor finds.
  pub fetch_next : FetchesFind → (v : VisitorView) (index : ℕ) (o : Option (Tuple × ℕ × ℕ)) → v ≡ get_or s.visitors.items n v → index ≡ cursor_after r.calls → o ≡ visited index v
      → next_call (plain_of s) n ≡ option_map (call_of r) o
  unfolding plain_of
  fetch_next law v index o visitor cursor found =
      let x = there s.fixed.routes.items n a.known in
      let within : n < length s.visitors.items = omega (arith, a.known, s.sized.visitors_fit) in
      let view = read_is (λ v. v) no_visitor s.visitors.items n v within visitor in
      next_visited law (plain_of s) n index x.0 r v x.1 (ap (λ (r : RoutineView). r.kind) (sym its_routine) ∙ s.waiting.kinds n x.0 x.1) its_calls
      (sym (read_is (λ v. v.arrivals) [] s.visitors.items n v within visitor))
      (ap (λ (v : VisitorView). v.roles) (sym view) ∙ s.visited.roles n x.0 x.1)
      (ap (λ (v : VisitorView). v.queue) (sym view) ∙ s.visited.queues n x.0 x.1)
      (ap (λ (v : VisitorView). v.overflow) (sym view) ∙ s.visited.overflows n x.0 x.1)
      (s.fixed.lawful.buffered n x.0 x.1)
      (cursor ∙ ap cursor_after its_calls)
      s.sound.consistent
      ∙ ap (option_map (call_of r)) (sym found)

  pub shown_found : (f : Found) → shown_calls (read (λ r. r) no_routine s.routines.items n) (Some f) ≡ (plain_of s).calls n ++ call_of r (f.tuple, f.position, f.tail) ∷ []
  unfolding plain_of
  shown_found f = ap (λ (r : RoutineView). shown_calls r (Some f)) its_routine ∙ ap (λ (l : List Call). l ++ call_of r (f.tuple, f.position, f.tail) ∷ []) its_calls

  pub none_to_step : to_step s n ≡ None
  unfolding plain_of to_step
  none_to_step = ap (option_map (λ (f : Found). f.tuple)) its_found
