-- A visitor's door is left after a fill.
use Rattle.std.proofs.Common.{ℕ, ◌+◌, ◌-◌, ◌*◌, ◌≡◌, ◌≢◌, ◌<◌, ◌==◌, refl, sym, ◌∙◌, ap, ap₂, subst, List, [], ◌∷◌, ◌++◌, length, length-set, length-append, cond, Some, arith}
use mathlib.Core.Option.{some}
use Rattle.atomic_table.specs.Table.{State as Table, stepped, gives}
use Rattle.cy_msg.specs.declared.token.Token.{Token}
use Rattle.cy_fuse.specs.Fusion.{Arrival}
use Rattle.cy_fuse.specs.Visitor.{VisitorView, arrived}
use Rattle.wake_core.specs.Run.{set_at}
use Rattle.wake_core.specs.Plain.{Plain}
use Rattle.wake_core.specs.Events.{Fills, after_fill}
use Rattle.wake_core.specs.Laws.{KeepsSound}
use Rattle.cy_table.specs.declared.part.Part.{Part}
use Rattle.cy_table.specs.declared.part.Part.TheVariants as part
use Rattle.cy_table.specs.Seats.{Seat, Visit}
use Rattle.cy_table.specs.Shown.{Rooms, Home, spread, routine_of, hand_of, routine_at, visitor_at}
use Rattle.cy_table.specs.Rule.{Shows}
use Rattle.cy_table.specs.Steps.{Sits, Becomes, filling}
use Rattle.cy_table.proofs.Places.{there, other, shown_still, shown_anew, token_later, after, spread_gives}
use Rattle.cy_table.proofs.Parts.{routine_beside, same_words}
use Rattle.cy_table.proofs.Knowing.{nothing_grows, rules_after}
use Rattle.cy_table.proofs.Holding.{wide_is, deep_is, seat_is, seat_in, mine}
use Rattle.cy_table.proofs.Doors.{visitor_others, visitor_given, visitor_known}

less_room : (room : ℕ) (arrivals : List Arrival) (a : Arrival) → (room - length arrivals) - 1 ≡ room - length (arrivals ++ a ∷ [])
less_room room arrivals a = omega (arith, length-append arrivals (a ∷ []))

pub fill_becomes : (r : Rooms) (w : Plain) (s : Table Part Seat) (id : ℕ) (v : Seat) → Sits r w s id v → (a : Visit) (j : ℕ) (later : List (ℕ × ℕ)) → v.visit ≡ Some a → v.fills ≡ (a.component, j) ∷ later
    → a.component < length w.routes → (out : List (ℕ × Part)) → KeepsSound (Fills id a.component j)
    → Becomes r (Fills id a.component j) w
    (stepped s (4 * a.component + 7) 0 id ((2 * a.component + 2, part.Visitor (arrived a.visitor j v.token)) ∷ out) (filling v a.component j later) gives)
fill_becomes r w s id v sits a j later has first less out keep =
    let t = spread s in
    let c : ℕ = a.component in
    let i : ℕ = 4 * c + 7 in
    let x' : VisitorView = arrived a.visitor j v.token in
    let back : Home = some (some (part.Visitor x')) in
    let h = set_at (2 * c + 2) back t.home in
    let v' : Seat = filling v c j later in
    let w' : Plain = after_fill id c j later w in
    let at = seat_is r w s id v sits in
    let th = sits.rules.shows.threads in
    let k = mine r w s id v sits in
    let known : a.visitor ≡ visitor_at r w c = visitor_known r w s id v sits a has less in
    let fills_are : w.fills id ≡ (c, j) ∷ later = th.fills_are id ∙ (ap (λ (u : Seat). u.fills) at ∙ first) in
    let owes : w.fills id ≢ [] = λ z. omega (arith, ap length (sym fills_are ∙ z)) in
    let token_is : w.tokens id ≡ v.token = th.token_is id owes ∙ ap (λ (u : Seat). u.token) at in
    let news_is : w.news id ≡ v.news = th.news_are id ∙ ap (λ (u : Seat). u.news) at in
    let more : List Arrival = w.arrivals c ++ (j, w.tokens id) ∷ [] in
    let arrives : (d : ℕ) → List Arrival → VisitorView = λ d l. record (visitor_at r w d) { spare = r.arrivals d - length l; arrivals = l } in
    let room : (r.arrivals c - length (w.arrivals c)) - 1 ≡ r.arrivals c - length more = less_room (r.arrivals c) (w.arrivals c) (j, w.tokens id) in
    let filled : x' ≡ visitor_at r w' c =
    ap₂ (λ (y : VisitorView) (m : Token). arrived y j m) known (sym token_is)
    ∙ (ap (λ n. let z : VisitorView = record (visitor_at r w c) { spare = n; arrivals = more } in z) room ∙ ap (arrives c) (sym (there c more w.arrivals c refl))) in
    let happens : Fills id c j w w' = record {
      later = later;
      first = fills_are;
      effect = refl;
    } in
    let shows : Shows r w' (after t i 0 id v' h) = record {
      parts = visitor_given sits.rules.shows.parts id v' a x' (visitor_at r w') (routine_at r w') (ap (λ (u : Seat). u.tape) (sym at)) (ap (λ (u : Seat). u.visit) at ∙ has) refl filled
          (λ d ne. ap (arrives d) (sym (other c more w.arrivals d ne)))
          (λ d inside. routine_beside sits.rules.shows.parts i 0 id v' h d inside (other i 0 t.word (4 * d + 4) (λ e. omega arith)) (other (2 * c + 2) back t.home (2 * d + 1) (λ e. omega arith))
          (ap (λ (u : Seat). routine_of d u.hand) (sym at)));
      words = same_words i 0 (visitor_others (length w.routes) c 0 t.word) sits.rules.shows.words;
      threads = record {
        hand_is = shown_still (λ (u : Seat). hand_of u.hand) t.seat w.hands th.hand_is id v' (ap (λ (u : Seat). hand_of u.hand) (sym at));
        fills_are = shown_anew (λ (u : Seat). u.fills) t.seat w.fills th.fills_are id v' later refl;
        news_are = shown_anew (λ (u : Seat). u.news) t.seat w.news th.news_are id v' (cond (j == 0) (w.news id ++ c ∷ []) (w.news id)) (ap (λ (l : List ℕ). cond (j == 0) (l ++ c ∷ []) l) news_is);
        clearing_is = shown_still (λ (u : Seat). u.clearing) t.seat w.clearing th.clearing_is id v' (ap (λ (u : Seat). u.clearing) (sym at));
        token_is = token_later t.seat w.tokens w.fills th.token_is id v' later owes (ap (λ (u : Seat). u.token) (sym at));
      };
    } in record {
      world = w';
      routes = refl;
      counts = refl;
      stop = refl;
      happens = happens;
      rules = rules_after r w s id v sits w' refl refl refl (nothing_grows w.routes w.tape w.clock w.calls w.closing w.raised id) v' i 0 ((2 * c + 2, part.Visitor x') ∷ out) gives (keep w w' happens sits.rules.sound)
          (subst (Shows r w') (sym (spread_gives s i 0 id v' out (omega (arith, wide_is r w s id v sits, less)) (seat_in r w s id v sits) (2 * c + 2) (part.Visitor x') (omega (arith, deep_is r w s id v sits, less)))) shows)
          (length-set s.homes (2 * c + 2) (some (part.Visitor x'))) refl refl
          record { made = k.made; joined = λ z. absurd (sits.live z); calls = k.calls; past = k.past; closes = k.closes; player = k.player };
    }
