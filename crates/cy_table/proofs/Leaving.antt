-- There is room for what a seat is to put.
use Rattle.std.proofs.Common.{ℕ, ◌^◌, ◌-◌, ◌≡◌, ◌≤◌, ◌<◌, sym, ◌∙◌, ap, ap₂, subst, List, ◌∷◌, length, option_map, Option, Some, arith}
use Rattle.std.specs.Option.{option_map_or}
use Rattle.atomic_table.specs.Table.{State as Table}
use Rattle.cy_msg.specs.declared.token.Token.{Token}
use Rattle.cy_msg.specs.declared.token.Tuple.{Tuple}
use Rattle.cy_fuse.specs.Visitor.{visited}
use Rattle.cy_comp.specs.declared.call.Out.{Out}
use Rattle.cy_comp.specs.Calls.{cursor_after}
use Rattle.cy_comp.specs.declared.kind.Kind.TheVariants.{Pass}
use Rattle.cy_comp.specs.Kind.{messages_needed}
use Rattle.cy_comp.specs.Routine.{RoutineView, MayTake}
use Rattle.cy_msg.specs.Tuple.{messages_of}
use Rattle.wake_core.specs.declared.entries.TheConstants.{MOST_PLANNED}
use Rattle.wake_core.specs.declared.route.Route.{Route}
use Rattle.wake_core.specs.declared.phase.Phase.TheVariants.{Asked}
use Rattle.wake_core.specs.Planned.{planned_count, first_reader}
use Rattle.wake_core.specs.Plain.{Plain, unsent_of}
use Rattle.wake_core.specs.Laws.{RoomLaws, FoundLaws, call_of}
use Rattle.wake_core.specs.TapeLaws.{UnsentLaws}
use Rattle.cy_table.specs.declared.part.Part.{Part}
use Rattle.cy_table.specs.Seats.{Seat, Grip, Visit}
use Rattle.cy_table.specs.Shown.{Rooms, out_in}
use Rattle.cy_table.specs.Rule.{Rules}
use Rattle.cy_table.specs.Steps.{Sits, MayTape}
use Rattle.cy_table.proofs.Holding.{seat_is, in_phase, routine_known, croutine_known}
use Rattle.cy_table.proofs.Sending.{shown_by, next_known}
use Rattle.cy_table.proofs.Fetching.{route_there, next_is}

pub play_room : (r : Rooms) (w : Plain) (s : Table Part Seat) (v : Seat) → Sits r w s 0 v → RoomLaws → (t : Token) → MayTape v t → length w.tape < r.tape
play_room r w s v sits law t may =
    let less = law.message w t (next_known r w s v sits t may) sits.rules.sound.consistent in
    let room = sits.rules.roomy.tape in
    omega (arith, less, room)

module _ (r : Rooms) (w : Plain) (s : Table Part Seat) (id : ℕ) (v : Seat) (sits : Sits r w s id v) (law : RoomLaws) where
  pub send_room : (g : Grip) (o : Out) → v.hand ≡ Some g → g.routine.pending ≡ Some o → length w.tape < r.tape
  send_room g o e pends =
      let by = shown_by (unsent_of w g.croutine) o (sym (ap (λ (y : RoutineView). y.pending) (routine_known r w s id v sits g e)) ∙ pends) in
      let less = law.output w g.croutine by.from by.is sits.rules.sound.consistent in
      let room = sits.rules.roomy.tape in
      omega (arith, less, room)

  pub fill_room : (c j : ℕ) (later : List (ℕ × ℕ)) → v.fills ≡ (c, j) ∷ later → c < length w.routes → length (w.arrivals c) < r.arrivals c
  fill_room c j later first inside =
      let u = route_there w.routes c inside in
      let fills : w.fills id ≡ (c, j) ∷ later = sits.rules.shows.threads.fills_are id ∙ (ap (λ (z : Seat). z.fills) (seat_is r w s id v sits) ∙ first) in
      let less = law.next_arrival w id c j later u.route fills u.at sits.rules.sound.consistent in
      let room = sits.rules.roomy.arrivals c u.route u.at in
      omega (arith, less, room)

-- No component has more calls than a world keeps.
pub calls_kept : FoundLaws → (r : Rooms) (w : Plain) (s : Table Part Seat) (c : ℕ) → Rules r w s → c < length w.routes → length (w.calls c) ≤ MOST_PLANNED
calls_kept law r w s c rules inside =
    let u = route_there w.routes c inside in
    let called = rules.sound.consistent.room.called c u.route u.at in
    let most = law.planned w.routes w.counts c u.route u.at rules.fixed in
    omega (arith, called, most)

-- A tuple that a fetch finds may be taken.
module _ (r : Rooms) (w : Plain) (s : Table Part Seat) (id : ℕ) (v : Seat) (sits : Sits r w s id v) (rooms : RoomLaws) (law : FoundLaws) (unsent : UnsentLaws) where
  in_range : (position planned : ℕ) → position ≤ planned → planned ≤ MOST_PLANNED → position < 2 ^ 64 - 1
  in_range position planned few most = omega (arith, few, most)

  pub fetch_fits : (g : Grip) (a : Visit) (f : Tuple × ℕ × ℕ) → v.hand ≡ Some g → g.phase ≡ Asked → v.visit ≡ Some a → a.component ≡ g.croutine
      → visited (cursor_after g.routine.calls) a.visitor ≡ Some f → MayTake g.routine f.0 f.1 × (length g.routine.calls < MOST_PLANNED)
  fetch_fits g a f e asked has one is =
      let c : ℕ = g.croutine in
      let u = route_there w.routes c (croutine_known r w s id v sits g e) in
      let known = routine_known r w s id v sits g e in
      let held = in_phase r w s id v sits g Asked e asked in
      let consistent = sits.rules.sound.consistent in
      let next = next_is r w s id v sits g e asked a has one law ∙ ap (option_map (call_of g.routine)) is in
      let less = rooms.call w id c u.route (call_of g.routine f) held next u.at consistent in
      let room = sits.rules.roomy.calls c u.route u.at in
      let most = law.planned w.routes w.counts c u.route u.at sits.rules.fixed in
      let spare = ap (λ (x : RoutineView). x.spare) known in
      let calls = ap (λ (x : RoutineView). length x.calls) known in
      let kind : g.routine.kind ≡ u.route.kind = ap (λ (x : RoutineView). x.kind) known ∙ ap (λ (o : Option Route). option_map_or (λ (y : Route). y.kind) o Pass) u.at in
      let needed = sits.rules.fixed.needed c u.route u.at in
      let messages : length (messages_of f.0) ≡ length u.route.readers = law.messages w c u.route (call_of g.routine f) next u.at sits.rules.fixed in (
        record {
          none_waits = ap (λ (x : RoutineView). x.pending) known ∙ ap (option_map out_in) (unsent.asked w id c held consistent.held);
          room = omega (arith, less, room, spare);
          in_range = in_range f.1 (planned_count w.routes w.counts (first_reader u.route)) (law.position w c u.route (call_of g.routine f) next u.at consistent) most;
          needed = subst (λ (p : ℕ × ℕ). p.0 ≤ p.1) (ap₂ (λ (x : ℕ) (y : ℕ). (x, y)) (sym (ap messages_needed kind)) (sym messages)) needed;
        },
        omega (arith, less, most, calls),
      )
