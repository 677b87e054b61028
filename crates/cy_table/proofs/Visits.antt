-- What the steps of a visitor's door may do, by their laws.
use Rattle.std.proofs.Common.{ℕ, ◌+◌, ◌*◌, ◌-◌, ◌≡◌, ◌≢◌, ◌≤◌, ◌<◌, refl, sym, ◌∙◌, ap, ap₂, subst, inl, inr, List, [], ◌∷◌, length, length-append, slice_index, Option, None, Some, arith}
use mathlib.Core.Option.{none}
use Rattle.atomic_table.specs.Table.{State as Table, step, keeps, takes, gives}
use Rattle.cy_msg.specs.declared.token.Tuple.{Tuple}
use Rattle.cy_fuse.specs.Visitor.{VisitorView, arrived}
use Rattle.cy_comp.specs.declared.call.Call.{Call}
use Rattle.cy_comp.specs.Step.{out_of}
use Rattle.cy_comp.specs.Routine.{RoutineView, answer_to}
use Rattle.wake_core.specs.declared.entries.TheConstants.{MOST_PLANNED}
use Rattle.wake_core.specs.declared.route.Route.{Route}
use Rattle.wake_core.specs.declared.phase.Phase.TheVariants.{Asked}
use Rattle.wake_core.specs.Plain.{Plain}
use Rattle.wake_core.specs.Events.{next_call, after_fetch}
use Rattle.cy_table.specs.declared.part.Part.{Part}
use Rattle.cy_table.specs.declared.part.Part.TheVariants as part
use Rattle.cy_table.specs.Seats.{Seat, Grip, Visit}
use Rattle.cy_table.specs.Seats.Entry.{Saw}
use Rattle.cy_table.specs.Deeds as deed
use Rattle.cy_table.specs.Shown.{Rooms, roles_at, queue_at, overflow_at, visitor_at}
use Rattle.cy_table.specs.Rule.{IsVisitorOf}
use Rattle.cy_table.specs.Steps.{Sits, visiting, filling, called, fetching}
use Rattle.cy_table.specs.Laws.{VisitorDoorSwaps, FillStores, FetchStores, RoomsLeft}
use Rattle.cy_table.specs.Plays.{Thread, in_hand, VisitTells, visited, first_fill, later_fills, filled, finding, fetched, no_deed, fill_deed, fetch_deed}
use Rattle.cy_table.proofs.Places.{place}
use Rattle.cy_table.proofs.Holding.{croutine_known, routine_known}
use Rattle.cy_table.proofs.Doors.{visitor_known}
use Rattle.cy_table.proofs.Marking.{leaves_as, Plays}
use Rattle.cy_table.proofs.Allowing.{moved_then, still_then, noting_then}

room_left : (x room have : ℕ) → x ≡ room - have → have < room → 1 ≤ x
room_left x room have e less = omega (arith, e, less)

pub visits : VisitorDoorSwaps → RoomsLeft → (made : Plain) (slots id c : ℕ) (m : Thread) → m.0.live ≢ 0 → m.0.visit ≡ None → c < length made.routes
    → Plays made slots id m (4 * c + 7) (λ _. 1) (visited (step slots (4 * c + 7) 1 0 none) m) (no_deed (step slots (4 * c + 7) 1 0 none) m)
visits law rooms made slots id c m live bare less = record {
  each = λ s k deep at bound.
      let inside : c < length k.world.routes = subst (λ (l : List Route). c < length l) (sym k.components) less in
      let sits : Sits k.rooms k.world s id m.0 = record { rules = k.rules; at = at; live = live } in
      let tell = λ (found : ℕ) (n : Thread) (a : VisitTells c m found n). λ (d : ℕ) (e : 4 * c + 7 ≡ 4 * d + 7). subst (λ j. VisitTells j m found n) (let h : c ≡ d = omega arith in h) a in
      elim (place (slice_index s.words (4 * c + 7)) 0) [
        | inl free ↦ let a = law.open_door k.rooms k.world s id c m.0 m.1 sits inside bare free in
            let known = (k.rules.knows id m.0 at).made live in
            let queue = ap (λ (y : VisitorView). y.queue) a.2 ∙ ap₂ (λ (l : List Route) (n : List ℕ). queue_at l n c) (sym known.0) (sym known.1) in
            let roles = ap (λ (y : VisitorView). y.roles) a.2 ∙ ap (λ (l : List Route). roles_at l c) (sym known.0) in
            let overflow = ap (λ (y : VisitorView). y.overflow) a.2 ∙ ap (λ (l : List Route). overflow_at l c) (sym known.0) in
            let spare = ap (λ (y : VisitorView). y.spare) a.2 in (
              visiting m.0 c a.0,
              takes (2 * c + 2) (part.Visitor a.0),
              a.1,
              still_then k id m.0 (visiting m.0 c a.0) a.3 refl,
              tell (slice_index s.words (4 * c + 7)) (visiting m.0 c a.0, (2 * c + 2, part.Visitor a.0) ∷ m.1) record {
                open_door = λ z. (a.0, refl, queue, roles, overflow, λ j later e. room_left a.0.spare (k.rooms.arrivals c) (length (k.world.arrivals c)) spare (rooms.fill k.rooms k.world s id m.0 c j later sits e inside));
                shut_door = λ ne. absurd (ne free);
              },
            )
        | inr shut ↦ (
          m.0,
          keeps,
          tt,
          still_then k id m.0 m.0 (law.shut_door k.rooms k.world s id c m.0 m.1 sits inside shut) refl,
          tell (slice_index s.words (4 * c + 7)) m record { open_door = λ z. absurd (shut z); shut_door = λ ne. refl },
        )
      ];
}

pub fills : FillStores → (made : Plain) (slots id c j : ℕ) (x : VisitorView) (v : Seat) (more : List (ℕ × Part)) (m : Thread) → v.live ≢ 0 → v.fills ≡ (c, j) ∷ later_fills v.fills → c < length made.routes
    → m ≡ (visiting v c x, (2 * c + 2, part.Visitor (arrived x j v.token)) ∷ more)
    → Plays made slots id m (4 * c + 7) (λ _. 0) (λ _. filled (step slots (4 * c + 7) 0 0 none) m 0) (λ _. fill_deed (step slots (4 * c + 7) 0 0 none) m 0)
fills law made slots id c j x v more m live owes less is = subst (λ z. Plays made slots id z (4 * c + 7) (λ _. 0) (λ _. filled (step slots (4 * c + 7) 0 0 none) z 0) (λ _. fill_deed (step slots (4 * c + 7) 0 0 none) z 0)) (sym is)
    record {
      each = λ s k deep at bound.
          let u = visiting v c x in
          let a : Visit = record { component = c; visitor = x } in
          let inside : c < length k.world.routes = subst (λ (l : List Route). c < length l) (sym k.components) less in
          let sits : Sits k.rooms k.world s id u = record { rules = k.rules; at = at; live = live } in (
            filling u c j (later_fills v.fills),
            gives,
            tt,
            leaves_as (ap (λ (l : List (ℕ × ℕ)). deed.Fill (first_fill l).0 (first_fill l).1 ∷ []) (sym owes)) (moved_then k id u (filling u c j (later_fills v.fills)) (deed.Fill c j) (law.fill k.rooms k.world s id u a j (later_fills v.fills) more sits refl owes inside) refl),
            ap (λ (l : List (ℕ × ℕ)). let n : Thread = (filling u (first_fill l).0 (first_fill l).1 (later_fills l), more) in n) (sym owes),
          );
    }

-- How many calls the croutine in hand has; and how many after a fetch.
calls_in_hand : (r : Rooms) (w : Plain) (s : Table Part Seat) (id : ℕ) (v : Seat) (g : Grip) → Sits r w s id v → RoomsLeft → v.hand ≡ Some g → length g.routine.calls ≤ MOST_PLANNED
calls_in_hand r w s id v g sits rooms e =
    subst (λ (l : List Call). length l ≤ MOST_PLANNED) (ap (λ (y : RoutineView). y.calls) (sym (routine_known r w s id v sits g e)))
    (rooms.calls r w s g.croutine sits.rules (croutine_known r w s id v sits g e))

few_then : (g : Grip) (o : Option (Tuple × ℕ × ℕ)) → length g.routine.calls ≤ MOST_PLANNED → ((f : Tuple × ℕ × ℕ) → o ≡ Some f → length g.routine.calls < MOST_PLANNED) → length (called g o).routine.calls ≤ MOST_PLANNED
few_then g None few less = few
few_then g (Some f) few less =
    let one = less f refl in
    let call : Call = record { position = f.1; tail = f.2; tuple = f.0; out = out_of (answer_to g.routine f.0) } in
    let added = length-append g.routine.calls (call ∷ []) in
    omega (arith, one, added)

-- A fetch leaves what arrived.
arrivals_kept : (p c : ℕ) (o : Option Call) (w : Plain) → (after_fetch p c o w).arrivals c ≡ w.arrivals c
arrivals_kept p c None w = refl
arrivals_kept p c (Some call) w = refl

pub fetches : FetchStores → RoomsLeft → (made : Plain) (slots id c : ℕ) (x : VisitorView) (v : Seat) (more : List (ℕ × Part)) (m : Thread) → v.live ≢ 0 → v.hand ≡ Some (in_hand v) → (in_hand v).croutine ≡ c
    → (in_hand v).phase ≡ Asked → c < length made.routes → m ≡ (visiting v c x, (2 * c + 2, part.Visitor x) ∷ more)
    → Plays made slots id m (4 * c + 7) (λ _. 0) (λ _. fetched (step slots (4 * c + 7) 0 0 none) m 0) (λ _. fetch_deed (step slots (4 * c + 7) 0 0 none) m 0)
fetches law rooms made slots id c x v more m live has same asked less is = subst (λ z. Plays made slots id z (4 * c + 7) (λ _. 0) (λ _. fetched (step slots (4 * c + 7) 0 0 none) z 0) (λ _. fetch_deed (step slots (4 * c + 7) 0 0 none) z 0)) (sym is)
    record {
      each = λ s k deep at bound.
          let u = visiting v c x in
          let g = in_hand v in
          let a : Visit = record { component = c; visitor = x } in
          let inside : c < length k.world.routes = subst (λ (l : List Route). c < length l) (sym k.components) less in
          let sits : Sits k.rooms k.world s id u = record { rules = k.rules; at = at; live = live } in
          let fits = λ (f : Tuple × ℕ × ℕ) (e : finding u ≡ Some f). rooms.fetch k.rooms k.world s id u g a f sits has asked refl (sym same) e in
          let calls = calls_in_hand k.rooms k.world s id u g sits rooms has in
          let is : x ≡ visitor_at k.rooms k.world g.croutine = visitor_known k.rooms k.world s id u sits a refl inside ∙ ap (visitor_at k.rooms k.world) (sym same) in
          let b = law.fetch k.rooms k.world s id u g a more sits has asked refl (sym same) in
          let arrivals = ap (λ (w : Plain). w.arrivals g.croutine) b.happens.effect ∙ arrivals_kept id g.croutine (next_call k.world g.croutine) k.world in
          let saw : IsVisitorOf b.world g.croutine x = record {
            arrivals = ap (λ (y : VisitorView). y.arrivals) is ∙ sym arrivals;
            roles = ap (λ (y : VisitorView). y.roles) is ∙ ap (λ (l : List Route). roles_at l g.croutine) (sym b.routes);
            queue = ap (λ (y : VisitorView). y.queue) is ∙ ap₂ (λ (l : List Route) (n : List ℕ). queue_at l n g.croutine) (sym b.routes) (sym b.counts);
            overflow = ap (λ (y : VisitorView). y.overflow) is ∙ ap (λ (l : List Route). overflow_at l g.croutine) (sym b.routes);
          } in (
            fetching u g x (finding u),
            gives,
            tt,
            noting_then k id u (fetching u g x (finding u)) (deed.Fetch g.croutine) b (Saw g.croutine x) refl saw,
            record { thread = refl; fits = λ f e. (fits f e).0; few = few_then g (finding u) calls (λ f e. (fits f e).1) },
          );
    }
