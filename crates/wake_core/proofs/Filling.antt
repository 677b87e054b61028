-- What the arrival of a message at a reader comes to.
use Rattle.std.proofs.Common.{ℕ, zero, suc, ◌+◌, ◌-◌, ◌≡◌, ◌≤◌, ◌<◌, ◌==◌, Bool, true, false, if◌then◌else◌, refl, sym, ◌∙◌, ap, inl, inr, arith, Option, Some, None, List, [], ◌∷◌, ◌++◌, length, length-append, get_or, set, slice_get, drop, map, sum}
use Rattle.std.proofs.lemmas.Option.{slice_get_within}
use Rattle.cy_msg.specs.declared.token.Token.{Token}
use Rattle.cy_msg.proofs.Lists.{place}
use Rattle.cy_fuse.specs.Fusion.{Arrival}
use Rattle.cy_fuse.specs.Visitor.{VisitorView, arrived}
use Rattle.cy_comp.specs.Routine.{RoutineView}
use Rattle.wake_core.specs.declared.owed.Owed.{Owed}
use Rattle.wake_core.specs.Run.{Route, set_at, readers_of}
use Rattle.wake_core.specs.Planned.{planned_count}
use Rattle.wake_core.specs.Plain.{Plain, blank, reads, lists_reader}
use Rattle.wake_core.specs.Events.{Fills, after_fill}
use Rattle.wake_core.specs.private.Owing.{FilledFirst, MayFillFirst}
use Rattle.wake_core.specs.Fields.{read, IsVisited, IsRoomy}
use Rattle.wake_core.specs.private.Shown.{fills_of, IsOwing}
use Rattle.wake_core.specs.Sound.{Sound}
use Rattle.wake_core.proofs.Places.{set_at_there, set_at_other}
use Rattle.wake_core.proofs.Reading.{read-set, read-set_same, read_is, read_within}
use Rattle.wake_core.proofs.Readers.{lists_reader_first}
use Rattle.wake_core.proofs.Delivering.{owes_channel}
use Rattle.wake_core.proofs.Totals.{arrival_room}
use Rattle.wake_core.proofs.Owing.{drop_first, drop_rest, owed_with, reads_known}

-- The thread that has to fill a reader is known, ..
pub fill_thread : (routes : List Route) (owed : List Owed) (p : ℕ) (r : ℕ × ℕ) → slice_get (read (fills_of routes) [] owed p) 0 ≡ Some r → p < length owed
fill_thread routes owed p r first = read_within (fills_of routes) [] owed p (λ e. none (ap (λ xs. slice_get xs 0) (sym e) ∙ first))
  where
    none : None ≡ Some r → ⊥
    none e = cc

-- .. and so is the reader.
pub fill_reads : (w : Plain) (p v j : ℕ) → slice_get (w.fills p) 0 ≡ Some (v, j) → Sound w → (lists_reader v j (w.fills p) ≡ true) × (reads w.routes v j ≡ Some (w.tokens p).channel)
fill_reads w p v j first s =
    let among : lists_reader v j (w.fills p) ≡ true = by (w.fills p) first in
    (among, owes_channel s.consistent.delivered p v j among)
  where
    by : (xs : List (ℕ × ℕ)) → slice_get xs 0 ≡ Some (v, j) → lists_reader v j xs ≡ true
    by [] e = cc
    by (r ∷ xs) e = let same : (v, j) ≡ r = cc in ap (λ r. lists_reader v j (r ∷ xs)) (sym same) ∙ lists_reader_first v j xs

pub fill_known : (w : Plain) (p v j : ℕ) → slice_get (w.fills p) 0 ≡ Some (v, j) → Sound w → v < length w.routes
fill_known w p v j first s = reads_known w.routes v j (w.tokens p).channel (fill_reads w p v j first s).1

-- What a thread has to fill at its first.
pub fills_first : (routes : List Route) (owed : List Owed) (p : ℕ) (o : Owed) (r : ℕ × ℕ) → p < length owed → o ≡ get_or owed p o → slice_get (read (fills_of routes) [] owed p) 0 ≡ Some r
    → slice_get (fills_of routes o) 0 ≡ Some r
fills_first routes owed p o r lt at first = ap (λ xs. slice_get xs 0) (sym (read_is (fills_of routes) [] owed p o lt at)) ∙ first

some_left : {X : Type 0} (xs : List X) (k : ℕ) (x : X) → slice_get (drop (length xs - k) xs) 0 ≡ Some x → 1 ≤ k
some_left xs k x e =
    let within = slice_get_within xs (length xs - k) x (sym (drop_first xs (length xs - k)) ∙ e) in
    omega (arith, within)

pub may_fill_first : {routes : List Route} (o : Owed) (r : ℕ × ℕ) → slice_get (fills_of routes o) 0 ≡ Some r → IsOwing routes o → MayFillFirst o
may_fill_first {routes} o r first h =
    let some = some_left (readers_of routes o.token.channel) o.fills r first in
    record { some = some; room = omega (arith, some, h.news, h.news_room) }

-- The others are left.
pub fills_later : {routes : List Route} {v j : ℕ} (o n : Owed) → slice_get (fills_of routes o) 0 ≡ Some (v, j) → FilledFirst v j o n → IsOwing routes o → fills_of routes o ≡ (v, j) ∷ fills_of routes n
fills_later {routes} {v} {j} o n first is h =
    let readers : List (ℕ × ℕ) = readers_of routes o.token.channel in
    let next : length readers - o.fills + 1 ≡ length readers - n.fills = omega (arith, is.fills, h.fills) in
    drop_rest readers (length readers - o.fills) (v, j) first
    ∙ ap (λ k. (v, j) ∷ drop k readers) next
    ∙ ap (λ (t : Token). (v, j) ∷ drop (length (readers_of routes t.channel) - n.fills) (readers_of routes t.channel)) (sym is.token)

told_more : (v j : ℕ) (xs : List ℕ) → length (if j == 0 then xs ++ v ∷ [] else xs) ≤ length xs + 1
told_more v j xs = by (j == 0)
  where
    by : (b : Bool) → length (if b then xs ++ v ∷ [] else xs) ≤ length xs + 1
    by true = omega (arith, length-append xs (v ∷ []))
    by false = omega arith

told_no_less : (v j : ℕ) (xs : List ℕ) → length xs ≤ length (if j == 0 then xs ++ v ∷ [] else xs)
told_no_less v j xs = by (j == 0)
  where
    by : (b : Bool) → length xs ≤ length (if b then xs ++ v ∷ [] else xs)
    by true = omega (arith, length-append xs (v ∷ []))
    by false = omega arith

pub filled_owing : {routes : List Route} {v j : ℕ} {o n : Owed} → FilledFirst v j o n → IsOwing routes o → IsOwing routes n
filled_owing {routes} {v} {j} {o} {n} is h =
    let more = told_more v j o.news.items in
    let less = told_no_less v j o.news.items in
    record {
      fills = rw is.token (omega (arith, is.fills, h.fills));
      looked = rw (is.looked, is.news) (omega (arith, less, h.looked));
      news = rw is.news (omega (arith, more, is.fills, h.news));
      clearing = rw (is.looked, is.news, is.clearing) (omega (arith, more, is.fills, h.clearing, h.looked));
      news_room = rw is.room h.news_room;
      clearing_room = rw is.clearing h.clearing_room;
    }

drop_told : (v j k : ℕ) (xs : List ℕ) → k ≤ length xs → drop k (if j == 0 then xs ++ v ∷ [] else xs) ≡ (if j == 0 then drop k xs ++ v ∷ [] else drop k xs)
drop_told v j k xs l = by (j == 0)
  where
    behind : (k : ℕ) (xs ys : List ℕ) → k ≤ length xs → drop k (xs ++ ys) ≡ drop k xs ++ ys
    behind zero xs ys l = refl
    behind (suc k) [] ys l = absurd (omega arith)
    behind (suc k) (x ∷ xs) ys l = behind k xs ys (omega arith)

    by : (b : Bool) → drop k (if b then xs ++ v ∷ [] else xs) ≡ (if b then drop k xs ++ v ∷ [] else drop k xs)
    by true = behind k xs (v ∷ []) l
    by false = refl

-- What a world shows after an arrival.
pub filled_world : (w : Plain) (routes : List Route) (visitors : List VisitorView) (owed : List Owed) (p v j : ℕ) (t : Token) (o n : Owed) (old new : VisitorView) → p < length owed → v < length visitors
    → o ≡ get_or owed p o → old ≡ get_or visitors v old → new ≡ arrived old j t → read (λ o. o.token) blank owed p ≡ t → FilledFirst v j o n → o.looked ≤ length o.news.items
    → record w { arrivals = read (λ v. v.arrivals) [] (set visitors v new); fills = read (fills_of routes) [] (set owed p n); news = read (λ o. drop o.looked o.news.items) [] (set owed p n); clearing = read (λ o. o.clearing.items) [] (set owed p n); tokens = read (λ o. o.token) blank (set owed p n) }
    ≡ record w {
      arrivals = set_at v (read (λ v. v.arrivals) [] visitors v ++ (j, read (λ o. o.token) blank owed p) ∷ []) (read (λ v. v.arrivals) [] visitors);
      fills = set_at p (fills_of routes n) (read (fills_of routes) [] owed);
      news = set_at p (if j == 0 then read (λ o. drop o.looked o.news.items) [] owed p ++ v ∷ [] else read (λ o. drop o.looked o.news.items) [] owed p) (read (λ o. drop o.looked o.news.items) [] owed);
      clearing = read (λ o. o.clearing.items) [] owed;
      tokens = read (λ o. o.token) blank owed;
    }
filled_world w routes visitors owed p v j t o n old new lt within at there is sent filled looked =
    ap (λ (a : ℕ → List Arrival). record w { arrivals = a; fills = read (fills_of routes) [] (set owed p n); news = read (λ o. drop o.looked o.news.items) [] (set owed p n); clearing = read (λ o. o.clearing.items) [] (set owed p n); tokens = read (λ o. o.token) blank (set owed p n) })
    (read-set (λ v. v.arrivals) [] visitors v new within ∙ ap (λ (l : List Arrival). set_at v l (read (λ v. v.arrivals) [] visitors)) arrivals)
    ∙ owed_with record w { arrivals = set_at v (read (λ v. v.arrivals) [] visitors v ++ (j, read (λ o. o.token) blank owed p) ∷ []) (read (λ v. v.arrivals) [] visitors) }
    (read-set (fills_of routes) [] owed p n lt)
    (read-set (λ o. drop o.looked o.news.items) [] owed p n lt ∙ ap (λ (l : List ℕ). set_at p l (read (λ o. drop o.looked o.news.items) [] owed)) news)
    (read-set_same (λ o. o.clearing.items) [] owed p n o (ap (λ c. c.items) filled.clearing ∙ ap (λ (o : Owed). o.clearing.items) at))
    (read-set_same (λ o. o.token) blank owed p n o (filled.token ∙ ap (λ (o : Owed). o.token) at))
  where
    arrivals : new.arrivals ≡ read (λ v. v.arrivals) [] visitors v ++ (j, read (λ o. o.token) blank owed p) ∷ []
    arrivals = ap (λ (v : VisitorView). v.arrivals) is ∙ ap (λ (l : List Arrival). l ++ (j, t) ∷ []) (sym (read_is (λ v. v.arrivals) [] visitors v old within there))
        ∙ ap (λ (s : Token). read (λ v. v.arrivals) [] visitors v ++ (j, s) ∷ []) (sym sent)

    news : drop n.looked n.news.items ≡ (if j == 0 then read (λ o. drop o.looked o.news.items) [] owed p ++ v ∷ [] else read (λ o. drop o.looked o.news.items) [] owed p)
    news = rw (filled.looked, filled.news) (drop_told v j o.looked o.news.items looked)
        ∙ ap (λ (l : List ℕ). if j == 0 then l ++ v ∷ [] else l) (sym (read_is (λ o. drop o.looked o.news.items) [] owed p o lt at))

pub fills : {p v j : ℕ} {w u : Plain} (later : List (ℕ × ℕ)) → w.fills p ≡ (v, j) ∷ later → u ≡ after_fill p v j later w → Fills p v j w u
fills later first effect = record { later = later; first = first; effect = effect }

-- A visitor keeps its queue, its readers and where it goes on, and has less room by what it has more.
pub filled_visited : {routes : List Route} {counts : List ℕ} {visitors : ℕ → VisitorView} (v j : ℕ) (t : Token) → IsVisited routes counts visitors → IsVisited routes counts (set_at v (arrived (visitors v) j t) visitors)
filled_visited {visitors = visitors} v j t h = record {
  queues = λ k x at. elim (place k v) [
    | inl e ↦ ap (λ (a : VisitorView). a.queue) (set_at_there v (arrived (visitors v) j t) visitors k e) ∙ ap (λ k. (visitors k).queue) (sym e) ∙ h.queues k x at
    | inr e ↦ ap (λ (a : VisitorView). a.queue) (set_at_other v (arrived (visitors v) j t) visitors k e) ∙ h.queues k x at
  ];
  roles = λ k x at. elim (place k v) [
    | inl e ↦ ap (λ (a : VisitorView). a.roles) (set_at_there v (arrived (visitors v) j t) visitors k e) ∙ ap (λ k. (visitors k).roles) (sym e) ∙ h.roles k x at
    | inr e ↦ ap (λ (a : VisitorView). a.roles) (set_at_other v (arrived (visitors v) j t) visitors k e) ∙ h.roles k x at
  ];
  overflows = λ k x at. elim (place k v) [
    | inl e ↦ ap (λ (a : VisitorView). a.overflow) (set_at_there v (arrived (visitors v) j t) visitors k e) ∙ ap (λ k. (visitors k).overflow) (sym e) ∙ h.overflows k x at
    | inr e ↦ ap (λ (a : VisitorView). a.overflow) (set_at_other v (arrived (visitors v) j t) visitors k e) ∙ h.overflows k x at
  ];
}

pub filled_roomy : {routes : List Route} {counts : List ℕ} {visitors : ℕ → VisitorView} {routines : ℕ → RoutineView} {tape : ℕ} (v j : ℕ) (t : Token) → 1 ≤ (visitors v).spare
    → IsRoomy routes counts visitors routines tape → IsRoomy routes counts (set_at v (arrived (visitors v) j t) visitors) routines tape
filled_roomy {routes} {counts} {visitors} {routines} {tape} v j t some h = record {
  arrivals = λ k x at. elim (place k v) [
    | inl e ↦ rw (set_at_there v (arrived (visitors v) j t) visitors k e) (same (sum (map (planned_count routes counts) x.readers)) (h.arrivals v x (ap (slice_get routes) (sym e) ∙ at)))
    | inr e ↦ rw (set_at_other v (arrived (visitors v) j t) visitors k e) (h.arrivals k x at)
  ];
  calls = h.calls;
  messages = h.messages;
}
  where
    same : (planned : ℕ) → planned ≤ length (visitors v).arrivals + (visitors v).spare → planned ≤ length ((visitors v).arrivals ++ (j, t) ∷ []) + ((visitors v).spare - 1)
    same planned l = omega (arith, l, some, length-append (visitors v).arrivals ((j, t) ∷ []))

-- The visitor takes the message.
pub fill_role : (w : Plain) {visitors : ℕ → VisitorView} (p v j : ℕ) → slice_get (w.fills p) 0 ≡ Some (v, j) → Sound w → IsVisited w.routes w.counts visitors → (x : Route) → slice_get w.routes v ≡ Some x → j < (visitors v).roles
fill_role w p v j first s h x at = rw (h.roles v x at) (by (slice_get x.readers j) refl)
  where
    by : (o : Option ℕ) → slice_get x.readers j ≡ o → j < length x.readers
    by (Some r) is = slice_get_within x.readers j r is
    by None is = absurd (none (sym (rw at is) ∙ (fill_reads w p v j first s).1))
      where
        none : None ≡ Some (w.tokens p).channel → ⊥
        none e = cc

pub fill_room : (w : Plain) {visitors : ℕ → VisitorView} {routines : ℕ → RoutineView} {tape : ℕ} (p v j : ℕ) → slice_get (w.fills p) 0 ≡ Some (v, j) → Sound w → IsRoomy w.routes w.counts visitors routines tape → w.arrivals v ≡ (visitors v).arrivals → (x : Route) → slice_get w.routes v ≡ Some x
    → 1 ≤ (visitors v).spare
fill_room w p v j first s h same x at =
    let room = arrival_room w p v j x (fill_reads w p v j first s).0 at s.consistent in
    omega (arith, room, h.arrivals v x at, ap length same)
