-- A visitor's door is left after a fetch.
use Rattle.std.proofs.Common.{ℕ, ◌+◌, ◌-◌, ◌*◌, ◌≡◌, ◌≤◌, ◌<◌, refl, sym, ◌∙◌, ap, subst, ⊎_elim, List, [], ◌∷◌, ◌++◌, length, length-set, length-append, take, get_or, slice_get, option_map, Option, Some, None, arith}
use Rattle.std.proofs.lemmas.Option.{slice_get_cases}
use Rattle.std.proofs.Math.Seq.{take-length}
use Rattle.std.specs.Option.{option_map_or}
use mathlib.Core.Option.{some}
use Rattle.atomic_table.specs.Table.{State as Table, stepped, gives}
use Rattle.cy_msg.specs.declared.token.Token.{Token}
use Rattle.cy_msg.specs.declared.token.Tuple.{Tuple}
use Rattle.cy_fuse.specs.declared.overflow.Overflow.TheVariants.{Newest}
use Rattle.cy_fuse.specs.Visitor.{VisitorView, visited}
use Rattle.cy_comp.specs.declared.kind.Kind.TheVariants.{Pass}
use Rattle.cy_comp.specs.declared.call.Call.{Call}
use Rattle.cy_comp.specs.declared.call.Out.{Out}
use Rattle.cy_comp.specs.Calls.{cursor_after, outs, output}
use Rattle.cy_comp.specs.Routine.{RoutineView, taken}
use Rattle.wake_core.specs.declared.route.Route.{Route}
use Rattle.wake_core.specs.declared.phase.Phase.TheVariants.{Asked, Empty, Running}
use Rattle.wake_core.specs.Run.{set_at}
use Rattle.wake_core.specs.Plain.{Plain, hand, outs_of, made_of, taped_of, unsent_of}
use Rattle.wake_core.specs.Events.{Fetches, next_call, after_none, after_call, after_fetch}
use Rattle.wake_core.specs.Fields.{queue_of}
use Rattle.wake_core.specs.Laws.{KeepsSound, KeepsCalls, FoundLaws, ShowsComponent, call_of}
use Rattle.wake_core.specs.TapeLaws.{UnsentLaws}
use Rattle.cy_table.specs.declared.part.Part.{Part}
use Rattle.cy_table.specs.declared.part.Part.TheVariants as part
use Rattle.cy_table.specs.Seats.{Seat, Grip, Visit}
use Rattle.cy_table.specs.Shown.{Rooms, Home, spread, routine_of, kind_at, routine_at, visitor_at, out_in}
use Rattle.cy_table.specs.Rule.{Shows}
use Rattle.cy_table.specs.Steps.{Sits, Becomes, called, fetching}
use Rattle.cy_table.proofs.Places.{there, other, after, spread_gives}
use Rattle.cy_table.proofs.Parts.{routine_beside, routine_turned, same_words, threads_hand}
use Rattle.cy_table.proofs.Knowing.{Grows, nothing_grows, rules_after, seen_grows}
use Rattle.cy_table.proofs.Holding.{get_in, wide_is, deep_is, seat_is, seat_in, hand_is, in_phase, routine_known, croutine_known, mine}
use Rattle.cy_table.proofs.Doors.{visitor_others, visitor_given, visitor_known}

pub record IsRoute (routes : List Route) (c : ℕ) : Type 0 where
  pub route : Route
  pub at : slice_get routes c ≡ Some route

pub route_there : (routes : List Route) (c : ℕ) → c < length routes → IsRoute routes c
route_there routes c less = ⊎_elim
    (λ (p : (x : Route) × (c < length routes) × (slice_get routes c ≡ Some x) × (get_or routes c x ≡ x)). record { route = p.0; at = p.2 })
    (λ (p : (length routes ≤ c) × (slice_get routes c ≡ None)). absurd (omega (arith, less, p.0)))
    (slice_get_cases routes c).1

begins_same : (xs ys : List Call) → xs ≡ ys → take (length xs) ys ≡ xs
begins_same xs ys e = ap (take (length xs)) (sym e) ∙ take-length xs

less_room : (room : ℕ) (calls : List Call) (x : Call) → (room - length calls) - 1 ≡ room - length (calls ++ x ∷ [])
less_room room calls x = omega (arith, length-append calls (x ∷ []))

out_back : (channel n : ℕ) (o : Option Out) → option_map out_in (option_map (output channel n) o) ≡ o
out_back channel n None = refl
out_back channel n (Some out) = refl

all_taped : (outputs : List Token) (n : ℕ) → n ≤ length outputs → slice_get outputs n ≡ None → n ≡ length outputs
all_taped outputs n few none = by (λ l. get_in outputs n l none)
  where
    by : (n < length outputs → ⊥) → n ≡ length outputs
    by shut = omega (arith, shut, few)

-- The output of a call more, where all outputs before it stand on the tape.
unsent_new : UnsentLaws → (w w' : Plain) (c : ℕ) (call : Call) (u : IsRoute w.routes c) → w'.routes ≡ w.routes → w'.tape ≡ w.tape → w'.calls c ≡ w.calls c ++ call ∷ [] → taped_of w.routes w.tape c ≤ made_of w.routes w.calls c
    → unsent_of w c ≡ None → call.out ≡ option_map out_in (slice_get (outs_of w.routes w'.calls c) (taped_of w.routes w.tape c))
unsent_new law w w' c call u routes tape calls few none =
    let channel : ℕ = u.route.out in
    let n : ℕ = taped_of w.routes w.tape c in
    let n_is : n ≡ length (outs channel (w.calls c)) =
    all_taped (outs_of w.routes w.calls c) n few none ∙ ap (λ (o : Option Route). length (option_map_or (λ (y : Route). outs y.out (w.calls c)) o [])) u.at in
    let found : slice_get (outs_of w.routes w'.calls c) n ≡ option_map (output channel (n + 1)) call.out =
    ap (λ (o : Option Route). slice_get (option_map_or (λ (y : Route). outs y.out (w'.calls c)) o []) n) u.at
    ∙ (ap (λ (l : List Call). slice_get (outs channel l) n) calls
    ∙ subst (λ m. slice_get (outs channel (w.calls c ++ call ∷ [])) m ≡ option_map (output channel (m + 1)) call.out) (sym n_is) (law.called channel (w.calls c) call)) in
    sym (ap (option_map out_in) found ∙ out_back channel (n + 1) call.out)

module _ (r : Rooms) (w : Plain) (s : Table Part Seat) (id : ℕ) (v : Seat) (sits : Sits r w s id v) (g : Grip) (e : v.hand ≡ Some g) (asked : g.phase ≡ Asked)
    (a : Visit) (has : v.visit ≡ Some a) (one : a.component ≡ g.croutine) (finds : FoundLaws) where
  inside : a.component < length w.routes
  inside = let less = croutine_known r w s id v sits g e in omega (arith, one, less)

  -- The call that the event makes is on what the visitor finds.
  pub next_is : next_call w g.croutine ≡ option_map (call_of g.routine) (visited (cursor_after g.routine.calls) a.visitor)
  next_is =
      let c : ℕ = g.croutine in
      let u = route_there w.routes c (croutine_known r w s id v sits g e) in
      let known = routine_known r w s id v sits g e in
      let seen : a.visitor ≡ visitor_at r w c = visitor_known r w s id v sits a has inside ∙ ap (visitor_at r w) one in
      let cursor : w.cursors c ≡ cursor_after g.routine.calls = sits.rules.sound.consistent.called.cursor c u.route u.at ∙ sym (ap (λ (x : RoutineView). cursor_after x.calls) known) in
      let shows : ShowsComponent w c u.route g.routine a.visitor = record {
        kind = ap (λ (x : RoutineView). x.kind) known ∙ ap (λ (o : Option Route). option_map_or (λ (y : Route). y.kind) o Pass) u.at;
        calls = ap (λ (x : RoutineView). x.calls) known;
        arrivals = ap (λ (x : VisitorView). x.arrivals) seen;
        roles = ap (λ (x : VisitorView). x.roles) seen ∙ ap (λ (o : Option Route). option_map_or (λ (y : Route). length y.readers) o 0) u.at;
        queue = ap (λ (x : VisitorView). x.queue) seen ∙ ap (λ (o : Option Route). option_map_or (queue_of w.routes w.counts) o 1) u.at;
        overflow = ap (λ (x : VisitorView). x.overflow) seen ∙ ap (λ (o : Option Route). option_map_or (λ (y : Route). y.overflow) o Newest) u.at;
      } in
      finds.visitor w c u.route g.routine a.visitor shows u.at (sits.rules.fixed.buffered c u.route u.at) sits.rules.sound.consistent
      ∙ ap (λ (i : ℕ). option_map (call_of g.routine) (visited i a.visitor)) cursor

  -- The visitor is as it was, in any world that has the same arrivals.
  module _ (unsent : UnsentLaws) (out : List (ℕ × Part)) (sound : KeepsSound (Fetches id g.croutine)) (calls : KeepsCalls (Fetches id g.croutine)) where
    none_fetched : visited (cursor_after g.routine.calls) a.visitor ≡ None
        → Becomes r (Fetches id g.croutine) w (stepped s (4 * a.component + 7) 0 id ((2 * a.component + 2, part.Visitor a.visitor) ∷ out) (fetching v g a.visitor None) gives)
    none_fetched is =
        let t = spread s in
        let c : ℕ = g.croutine in
        let i : ℕ = 4 * a.component + 7 in
        let back : Home = some (some (part.Visitor a.visitor)) in
        let h = set_at (2 * a.component + 2) back t.home in
        let v' : Seat = fetching v g a.visitor None in
        let w' : Plain = after_none id c w in
        let at = seat_is r w s id v sits in
        let k = mine r w s id v sits in
        let happens : Fetches id c w w' = record {
          held = in_phase r w s id v sits g Asked e asked;
          effect = ap (λ (n : Option Call). after_fetch id c n w) (sym (next_is ∙ ap (option_map (call_of g.routine)) is));
        } in
        let shows : Shows r w' (after t i 0 id v' h) = record {
          parts = visitor_given sits.rules.shows.parts id v' a a.visitor (visitor_at r w') (routine_at r w') (ap (λ (z : Seat). z.tape) (sym at)) (ap (λ (z : Seat). z.visit) at ∙ has) refl
              (visitor_known r w s id v sits a has inside) (λ d ne. refl)
              (λ d less. routine_beside sits.rules.shows.parts i 0 id v' h d less (other i 0 t.word (4 * d + 4) (λ z. omega arith)) (other (2 * a.component + 2) back t.home (2 * d + 1) (λ z. omega arith))
              (sym (ap (routine_of d) (hand_is r w s id v sits g e))));
          words = same_words i 0 (visitor_others (length w.routes) a.component 0 t.word) sits.rules.shows.words;
          threads = threads_hand sits.rules.shows.threads id v v' at refl refl refl refl (hand c Empty) refl;
        } in record {
          world = w';
          routes = refl;
          counts = refl;
          stop = refl;
          happens = happens;
          rules = rules_after r w s id v sits w' refl refl refl (nothing_grows w.routes w.tape w.clock w.calls w.closing w.raised id) v' i 0 ((2 * a.component + 2, part.Visitor a.visitor) ∷ out) gives (sound w w' happens sits.rules.sound)
              (subst (Shows r w')
              (sym (spread_gives s i 0 id v' out (omega (arith, wide_is r w s id v sits, inside)) (seat_in r w s id v sits) (2 * a.component + 2) (part.Visitor a.visitor) (omega (arith, deep_is r w s id v sits, inside)))) shows)
              (length-set s.homes (2 * a.component + 2) (some (part.Visitor a.visitor))) refl refl
              record {
                made = k.made;
                joined = λ z. absurd (sits.live z);
                calls = (begins_same g.routine.calls (w.calls c) (ap (λ (x : RoutineView). x.calls) (routine_known r w s id v sits g e)), k.calls);
                past = k.past;
                closes = k.closes;
                player = k.player;
              };
        }

    some_fetched : (f : Tuple × ℕ × ℕ) → visited (cursor_after g.routine.calls) a.visitor ≡ Some f
        → Becomes r (Fetches id g.croutine) w (stepped s (4 * a.component + 7) 0 id ((2 * a.component + 2, part.Visitor a.visitor) ∷ out) (fetching v g a.visitor (Some f)) gives)
    some_fetched f is =
        let t = spread s in
        let c : ℕ = g.croutine in
        let i : ℕ = 4 * a.component + 7 in
        let back : Home = some (some (part.Visitor a.visitor)) in
        let h = set_at (2 * a.component + 2) back t.home in
        let v' : Seat = fetching v g a.visitor (Some f) in
        let call : Call = call_of g.routine f in
        let more : List Call = w.calls c ++ call ∷ [] in
        let w' : Plain = after_call id c call w in
        let at = seat_is r w s id v sits in
        let k = mine r w s id v sits in
        let known = routine_known r w s id v sits g e in
        let u = route_there w.routes c (croutine_known r w s id v sits g e) in
        let held = in_phase r w s id v sits g Asked e asked in
        let calls_are : w'.calls c ≡ more = there c more w.calls c refl in
        let happens : Fetches id c w w' = record {
          held = held;
          effect = ap (λ (n : Option Call). after_fetch id c n w) (sym (next_is ∙ ap (option_map (call_of g.routine)) is));
        } in
        let grown : g.routine.calls ++ call ∷ [] ≡ w'.calls c = ap (λ (x : RoutineView). x.calls ++ call ∷ []) known ∙ sym calls_are in
        let waits : call.out ≡ option_map out_in (unsent_of w' c) = unsent_new unsent w w' c call u refl refl calls_are (sits.rules.sound.consistent.held.few c) (unsent.asked w id c held sits.rules.sound.consistent.held) in
        let room : g.routine.spare - 1 ≡ r.calls c - length (w'.calls c) =
        ap (λ (x : RoutineView). x.spare - 1) known ∙ (less_room (r.calls c) (w.calls c) call ∙ ap (λ (l : List Call). r.calls c - length l) (sym calls_are)) in
        let routine_is : taken g.routine f.0 f.1 f.2 ≡ routine_at r w' c = λ j. record { kind = (known j).kind; state = (known j).state; calls = grown j; pending = waits j; spare = room j } in
        let with_calls : (d : ℕ) → List Call → RoutineView = λ d l. record {
          kind = kind_at w.routes d;
          state = w.states d;
          calls = l;
          pending = option_map out_in (slice_get (option_map_or (λ (x : Route). outs x.out l) (slice_get w.routes d) []) (taped_of w.routes w.tape d));
          spare = r.calls d - length l;
        } in
        let begins = calls w w' happens in
        let grows : Grows w.routes w.tape w.tape w.clock w.clock w.calls w'.calls w.closing w.closing w.raised w.raised id = record { rises = omega arith; begins = begins; closes = λ z. z; player = λ ne. (refl, refl, refl, refl) } in
        let shows : Shows r w' (after t i 0 id v' h) = record {
          parts = visitor_given sits.rules.shows.parts id v' a a.visitor (visitor_at r w') (routine_at r w') (ap (λ (z : Seat). z.tape) (sym at)) (ap (λ (z : Seat). z.visit) at ∙ has) refl
              (visitor_known r w s id v sits a has inside) (λ d ne. refl)
              (λ d less. routine_turned sits.rules.shows.parts i 0 id v' h (routine_at r w') g (called g (Some f)) (hand_is r w s id v sits g e) refl refl routine_is
              (λ b ne. ap (with_calls b) (sym (other c more w.calls b ne)))
              d less (other i 0 t.word (4 * d + 4) (λ z. omega arith)) (other (2 * a.component + 2) back t.home (2 * d + 1) (λ z. omega arith)));
          words = same_words i 0 (visitor_others (length w.routes) a.component 0 t.word) sits.rules.shows.words;
          threads = threads_hand sits.rules.shows.threads id v v' at refl refl refl refl (hand c Running) refl;
        } in record {
          world = w';
          routes = refl;
          counts = refl;
          stop = refl;
          happens = happens;
          rules = rules_after r w s id v sits w' refl refl refl grows v' i 0 ((2 * a.component + 2, part.Visitor a.visitor) ∷ out) gives (sound w w' happens sits.rules.sound)
              (subst (Shows r w')
              (sym (spread_gives s i 0 id v' out (omega (arith, wide_is r w s id v sits, inside)) (seat_in r w s id v sits) (2 * a.component + 2) (part.Visitor a.visitor) (omega (arith, deep_is r w s id v sits, inside)))) shows)
              (length-set s.homes (2 * a.component + 2) (some (part.Visitor a.visitor))) refl refl
              record {
                made = k.made;
                joined = λ z. absurd (sits.live z);
                calls = (begins_same (g.routine.calls ++ call ∷ []) (w'.calls c) grown, seen_grows w.calls w'.calls v.seen begins k.calls);
                past = k.past;
                closes = k.closes;
                player = k.player;
              };
        }

    pub fetch_becomes : (o : Option (Tuple × ℕ × ℕ)) → visited (cursor_after g.routine.calls) a.visitor ≡ o
        → Becomes r (Fetches id g.croutine) w (stepped s (4 * a.component + 7) 0 id ((2 * a.component + 2, part.Visitor a.visitor) ∷ out) (fetching v g a.visitor o) gives)
    fetch_becomes None is = none_fetched is
    fetch_becomes (Some f) is = some_fetched f is
