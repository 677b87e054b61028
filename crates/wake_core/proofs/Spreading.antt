-- The events by which a message comes to all of its readers, and what holds then.
use Rattle.std.proofs.Common.{ℕ, ◌-◌, ◌≡◌, ◌≤◌, ◌<◌, ◌==◌, ◌&&◌, ◌≢◌, ◌||◌, not, Bool, true, false, refl, sym, ◌∙◌, ap, subst, inl, inr, arith, List, [], ◌∷◌, ◌++◌, append_assoc, length, drop, Some, slice_get, get_or, set, if◌then◌else◌}
use Rattle.std.proofs.lemmas.Bool.Decides.{eqb_tells}
use Rattle.std.proofs.lemmas.List.{append-nil, length-set}
use Rattle.std.proofs.Math.Seq.{drop-length}
use Rattle.cy_msg.proofs.Lists.{there}
use Rattle.cy_fuse.specs.Fusion.{Arrival}
use Rattle.cy_fuse.specs.Visitor.{VisitorView, arrived}
use Rattle.cy_comp.specs.Routine.{RoutineView}
use Rattle.wake_core.specs.declared.owed.Owed.{Owed}
use Rattle.wake_core.specs.Run.{Route, set_at, arrive, readers_of}
use Rattle.wake_core.specs.Plain.{Plain, State, Ready, blank, lists_reader}
use Rattle.wake_core.specs.Events.{is_waiting, after_fill}
use Rattle.wake_core.specs.Fields.{read, no_visitor, no_routine, IsVisited, IsRoomy}
use Rattle.wake_core.specs.private.Shown.{fills_of, IsOwing}
use Rattle.wake_core.specs.Laws as event
use Rattle.wake_core.specs.Laws.{Events}
use Rattle.wake_core.specs.Sound.{Sound}
use Rattle.wake_core.specs.Turns.{Delivers, flag_after}
use Rattle.wake_core.specs.private.Delivery.{arrived_at, arrived_at_all, MayArrive, MayArriveAtAll, cleared_by, cleared_by_all, AreReaders}
use Rattle.wake_core.proofs.Places.{set_at_same, set_at_other, set_at_again, set_at_itself}
use Rattle.wake_core.proofs.Reading.{read-set, read-set_same, read_at}
use Rattle.wake_core.proofs.Owing.{owed_with}
use Rattle.wake_core.proofs.Filling.{fill_known, fill_role, fill_room, filled_visited, filled_roomy}
use Rattle.wake_core.proofs.Sounding.{fill_sound}
use Rattle.wake_core.proofs.Telling.{firsts, flags_after, all_told}
use Rattle.wake_core.proofs.Ways.{linked}

-- All readers that a thread still had to fill were filled.
abbrev pub filled_all : List (ℕ × ℕ) → (p : ℕ) → Plain → Plain
filled_all rs p w = record w {
  arrivals = arrive rs (w.tokens p) w.arrivals;
  fills = set_at p [] w.fills;
  news = set_at p (w.news p ++ firsts rs) w.news;
}

pub all_filled : (rs : List (ℕ × ℕ)) (p : ℕ) (w : Plain) → w.fills p ≡ rs → Events w (filled_all rs p w)
all_filled [] p w filled =
    subst (λ (f : ℕ → List (ℕ × ℕ)). Events w (record w { fills = f; news = set_at p (w.news p ++ []) w.news })) (sym (ap (λ l. set_at p l w.fills) (sym filled) ∙ set_at_itself p w.fills))
    (subst (λ (n : ℕ → List ℕ). Events w (record w { news = n })) (sym (ap (λ l. set_at p l w.news) (append-nil (w.news p)) ∙ set_at_itself p w.news)) event.none)
all_filled (r ∷ rest) p w first =
    subst (λ (n : ℕ → List ℕ). Events w (record w { arrivals = arrive (r ∷ rest) (w.tokens p) w.arrivals; fills = set_at p [] w.fills; news = n }))
    (ap (λ l. set_at p (l ++ firsts rest) (set_at p told w.news)) (set_at_same p told w.news) ∙ set_at_again p told (told ++ firsts rest) w.news ∙ ap (λ l. set_at p l w.news) (joined (r.1 == 0)))
    (subst (λ (f : ℕ → List (ℕ × ℕ)). Events w (record w { arrivals = arrive (r ∷ rest) (w.tokens p) w.arrivals; fills = f; news = set_at p (set_at p told w.news p ++ firsts rest) (set_at p told w.news) }))
    (set_at_again p rest [] w.fills)
    (event.more (event.fill {w = w} {v = after_fill p r.0 r.1 rest w} (record { later = rest; first = first; effect = refl }))
    (all_filled rest p (after_fill p r.0 r.1 rest w) (set_at_same p rest w.fills))))
  where
    told : List ℕ
    told = if r.1 == 0 then w.news p ++ r.0 ∷ [] else w.news p

    joined : (b : Bool) → (if b then w.news p ++ r.0 ∷ [] else w.news p) ++ firsts rest ≡ w.news p ++ (if b then r.0 ∷ firsts rest else firsts rest)
    joined true = append_assoc (w.news p) (r.0 ∷ []) (firsts rest)
    joined false = refl

-- .. and all who wait were told, where nothing else was to be told.
pub all_delivered : (rs : List (ℕ × ℕ)) (p : ℕ) (w : Plain) → w.fills p ≡ rs → w.news p ≡ [] → w.clearing p ≡ []
    → Events w (record w { arrivals = arrive rs (w.tokens p) w.arrivals; fills = set_at p [] w.fills; spent = flags_after rs w.states w.spent })
all_delivered rs p w fills looked cleared =
    subst (λ (n : ℕ → List ℕ). Events w (record w { arrivals = arrive rs (w.tokens p) w.arrivals; fills = set_at p [] w.fills; news = n; spent = flags_after rs w.states w.spent }))
    (set_at_again p (w.news p ++ firsts rs) [] w.news ∙ ap (λ l. set_at p l w.news) (sym looked) ∙ set_at_itself p w.news)
    (linked (all_filled rs p w fills)
    (all_told rs p (filled_all rs p w) (set_at_same p [] w.fills) (set_at_same p (w.news p ++ firsts rs) w.news ∙ ap (λ l. l ++ firsts rs) looked) cleared))

-- Visitors show what arrived, are those of the components, and have room.
pub record Fits (routes : List Route) (counts : List ℕ) (routines : ℕ → RoutineView) (tape : ℕ) (arrivals : ℕ → List Arrival) (visitors : List VisitorView) : Type 0 where
  pub size : length visitors ≡ length routes
  pub shown : read (λ v. v.arrivals) [] visitors ≡ arrivals
  pub visited : IsVisited routes counts (read (λ v. v) no_visitor visitors)
  pub roomy : IsRoomy routes counts (read (λ v. v) no_visitor visitors) routines tape

-- One reader is filled.
module _ (r : ℕ × ℕ) (rest : List (ℕ × ℕ)) (p : ℕ) (w : Plain) (routines : ℕ → RoutineView) (tape : ℕ) (visitors : List VisitorView) (first : w.fills p ≡ r ∷ rest) (s : Sound w)
    (fits : Fits w.routes w.counts routines tape w.arrivals visitors) where
  first_is : slice_get (w.fills p) 0 ≡ Some r
  first_is = ap (λ l. slice_get l 0) first

  known : r.0 < length w.routes
  known = fill_known w p r.0 r.1 first_is s

  within : r.0 < length visitors
  within = rw fits.size known

  view : read (λ v. v) no_visitor visitors r.0 ≡ get_or visitors r.0 no_visitor
  view = read_at (λ v. v) no_visitor visitors r.0 no_visitor within

  had : w.arrivals r.0 ≡ (get_or visitors r.0 no_visitor).arrivals
  had = ap (λ (f : ℕ → List Arrival). f r.0) (sym fits.shown) ∙ read_at (λ v. v.arrivals) [] visitors r.0 no_visitor within

  room_there : 1 ≤ (read (λ v. v) no_visitor visitors r.0).spare
  room_there =
      let x = there w.routes r.0 known in
      fill_room w p r.0 r.1 first_is s fits.roomy (had ∙ ap (λ (v : VisitorView). v.arrivals) (sym view)) x.0 x.1

  pub one_may : MayArrive r visitors
  one_may =
      let x = there w.routes r.0 known in
      record {
        known = within;
        role = subst (λ (v : VisitorView). r.1 < v.roles) view (fill_role w p r.0 r.1 first_is s fits.visited x.0 x.1);
        room = subst (λ (v : VisitorView). 1 ≤ v.spare) view room_there;
      }

  set_visitors : read (λ v. v) no_visitor (arrived_at r (w.tokens p) visitors) ≡ set_at r.0 (arrived (read (λ v. v) no_visitor visitors r.0) r.1 (w.tokens p)) (read (λ v. v) no_visitor visitors)
  set_visitors = read-set (λ v. v) no_visitor visitors r.0 (arrived (get_or visitors r.0 no_visitor) r.1 (w.tokens p)) within
      ∙ ap (λ (v : VisitorView). set_at r.0 (arrived v r.1 (w.tokens p)) (read (λ v. v) no_visitor visitors)) (sym view)

  pub one_fits : Fits w.routes w.counts routines tape (set_at r.0 (w.arrivals r.0 ++ (r.1, w.tokens p) ∷ []) w.arrivals) (arrived_at r (w.tokens p) visitors)
  one_fits = record {
    size = length-set visitors r.0 (arrived (get_or visitors r.0 no_visitor) r.1 (w.tokens p)) ∙ fits.size;
    shown = read-set (λ v. v.arrivals) [] visitors r.0 (arrived (get_or visitors r.0 no_visitor) r.1 (w.tokens p)) within
        ∙ ap (λ (l : List Arrival). set_at r.0 (l ++ (r.1, w.tokens p) ∷ []) (read (λ v. v.arrivals) [] visitors)) (sym had)
        ∙ ap (λ (f : ℕ → List Arrival). set_at r.0 (w.arrivals r.0 ++ (r.1, w.tokens p) ∷ []) f) fits.shown;
    visited = rw set_visitors (filled_visited r.0 r.1 (w.tokens p) fits.visited);
    roomy = rw set_visitors (filled_roomy r.0 r.1 (w.tokens p) room_there fits.roomy);
  }

-- All that a thread still has to fill may be filled, and the visitors are fit then.
pub record MayFillAll (rs : List (ℕ × ℕ)) (p : ℕ) (w : Plain) (routines : ℕ → RoutineView) (tape : ℕ) (visitors : List VisitorView) : Type 0 where
  pub may : MayArriveAtAll rs (w.tokens p) visitors
  pub known : AreReaders rs (length w.routes)
  pub fits : Fits w.routes w.counts routines tape (arrive rs (w.tokens p) w.arrivals) (arrived_at_all rs (w.tokens p) visitors)

pub all_may : (rs : List (ℕ × ℕ)) (p : ℕ) (w : Plain) (routines : ℕ → RoutineView) (tape : ℕ) (visitors : List VisitorView) → w.fills p ≡ rs → Sound w → Fits w.routes w.counts routines tape w.arrivals visitors
    → MayFillAll rs p w routines tape visitors
all_may [] p w routines tape visitors none s fits = record { may = tt; known = tt; fits = fits }
all_may (r ∷ rest) p w routines tape visitors first s fits =
    let others = all_may rest p (after_fill p r.0 r.1 rest w) routines tape (arrived_at r (w.tokens p) visitors) (set_at_same p rest w.fills)
    (fill_sound p r.0 r.1 w (after_fill p r.0 r.1 rest w) record { later = rest; first = first; effect = refl } s)
    (one_fits r rest p w routines tape visitors first s fits) in
    record {
      may = (one_may r rest p w routines tape visitors first s fits, others.may);
      known = (fill_known w p r.0 r.1 (ap (λ l. slice_get l 0) first) s, others.known);
      fits = others.fits;
    }

-- The flags that a list of them shows.
length_cleared : (r : ℕ × ℕ) (routines : List RoutineView) (spent : List Bool) → length (cleared_by r routines spent) ≡ length spent
length_cleared r routines spent = by (r.1 == 0 && is_waiting (get_or routines r.0 no_routine).state)
  where
    by : (b : Bool) → length (if b then set spent r.0 false else spent) ≡ length spent
    by true = length-set spent r.0 false
    by false = refl

pub length_cleared_all : (rs : List (ℕ × ℕ)) (routines : List RoutineView) (spent : List Bool) → length (cleared_by_all rs routines spent) ≡ length spent
length_cleared_all [] routines spent = refl
length_cleared_all (r ∷ rest) routines spent = length_cleared_all rest routines (cleared_by r routines spent) ∙ length_cleared r routines spent

pub flags_cleared : (rs : List (ℕ × ℕ)) (routines : List RoutineView) (spent : List Bool) → AreReaders rs (length routines) → length spent ≡ length routines
    → read (λ b. b) true (cleared_by_all rs routines spent) ≡ flags_after rs (read (λ r. r.state) Ready routines) (read (λ b. b) true spent)
flags_cleared [] routines spent known size = refl
flags_cleared (r ∷ rest) routines spent known size =
    flags_cleared rest routines (cleared_by r routines spent) known.1 (length_cleared r routines spent ∙ size)
    ∙ ap (flags_after rest (read (λ r. r.state) Ready routines)) one
  where
    within : r.0 < length spent
    within = rw size known.0

    by : (b : Bool) → read (λ b. b) true (if b then set spent r.0 false else spent) ≡ (if b then set_at r.0 false (read (λ b. b) true spent) else read (λ b. b) true spent)
    by true = read-set (λ b. b) true spent r.0 false within
    by false = refl

    one : read (λ b. b) true (cleared_by r routines spent)
        ≡ (if r.1 == 0 && is_waiting (read (λ r. r.state) Ready routines r.0) then set_at r.0 false (read (λ b. b) true spent) else read (λ b. b) true spent)
    one = by (r.1 == 0 && is_waiting (get_or routines r.0 no_routine).state)
        ∙ ap (λ (t : State). if r.1 == 0 && is_waiting t then set_at r.0 false (read (λ b. b) true spent) else read (λ b. b) true spent) (sym (read_at (λ r. r.state) Ready routines r.0 no_routine known.0))

-- A thread has nothing more to fill.
pub none_owing : {routes : List Route} {o : Owed} → IsOwing routes o → IsOwing routes record o { fills = 0 }
none_owing h = record {
  fills = omega arith;
  looked = h.looked;
  news = omega (arith, h.news);
  clearing = omega (arith, h.clearing);
  news_room = h.news_room;
  clearing_room = h.clearing_room;
}

none_left : (routes : List Route) (o : Owed) → fills_of routes record o { fills = 0 } ≡ []
none_left routes o =
    let readers = readers_of routes o.token.channel in
    let all : length readers - 0 ≡ length readers = omega arith in
    ap (λ k. drop k readers) all ∙ drop-length readers

-- What a world shows then, where these arrived and the flags are these.
pub delivered_world : (w : Plain) (routes : List Route) (owed : List Owed) (p : ℕ) (o : Owed) {arrivals more : ℕ → List Arrival} {flags fewer : ℕ → Bool} → p < length owed → o ≡ get_or owed p o → arrivals ≡ more → flags ≡ fewer
    → record w { arrivals = arrivals; spent = flags; fills = read (fills_of routes) [] (set owed p record o { fills = 0 }); news = read (λ o. drop o.looked o.news.items) [] (set owed p record o { fills = 0 }); clearing = read (λ o. o.clearing.items) [] (set owed p record o { fills = 0 }); tokens = read (λ o. o.token) blank (set owed p record o { fills = 0 }) }
    ≡ record w {
      arrivals = more;
      spent = fewer;
      fills = set_at p [] (read (fills_of routes) [] owed);
      news = read (λ o. drop o.looked o.news.items) [] owed;
      clearing = read (λ o. o.clearing.items) [] owed;
      tokens = read (λ o. o.token) blank owed;
    }
delivered_world w routes owed p o {arrivals = arrivals} {more = more} {flags = flags} {fewer = fewer} lt at came cleared =
    let n : Owed = record o { fills = 0 } in
    ap (λ (a : ℕ → List Arrival). record w { arrivals = a; spent = flags; fills = read (fills_of routes) [] (set owed p n); news = read (λ o. drop o.looked o.news.items) [] (set owed p n); clearing = read (λ o. o.clearing.items) [] (set owed p n); tokens = read (λ o. o.token) blank (set owed p n) }) came
    ∙ ap (λ (f : ℕ → Bool). record w { arrivals = more; spent = f; fills = read (fills_of routes) [] (set owed p n); news = read (λ o. drop o.looked o.news.items) [] (set owed p n); clearing = read (λ o. o.clearing.items) [] (set owed p n); tokens = read (λ o. o.token) blank (set owed p n) }) cleared
    ∙ owed_with record w { arrivals = more; spent = fewer }
    (read-set (fills_of routes) [] owed p n lt ∙ ap (λ l. set_at p l (read (fills_of routes) [] owed)) (none_left routes o))
    (read-set_same (λ o. drop o.looked o.news.items) [] owed p n o (ap (λ (o : Owed). drop o.looked o.news.items) at))
    (read-set_same (λ o. o.clearing.items) [] owed p n o (ap (λ (o : Owed). o.clearing.items) at))
    (read-set_same (λ o. o.token) blank owed p n o (ap (λ (o : Owed). o.token) at))

-- A flag is as the first readers of those that wait leave it.
by_first : (b waits rest flag : Bool) → (if b && waits then false else flag) && not (waits && rest) ≡ flag && not (waits && (b || rest))
by_first true true rest false = refl
by_first true true rest true = refl
by_first true false rest false = refl
by_first true false rest true = refl
by_first false true rest flag = refl
by_first false false rest flag = refl

told_flag : (rs : List (ℕ × ℕ)) (states : ℕ → State) (spent : ℕ → Bool) (c : ℕ) → flags_after rs states spent c ≡ spent c && not (is_waiting (states c) && lists_reader c 0 rs)
told_flag [] states spent c = by (is_waiting (states c)) (spent c)
  where
    by : (waits flag : Bool) → flag ≡ flag && not (waits && false)
    by true true = refl
    by true false = refl
    by false true = refl
    by false false = refl
told_flag (r ∷ rest) states spent c = elim (eqb_tells r.0 c) [
  | inl h ↦ told_flag rest states (if r.1 == 0 && is_waiting (states r.0) then set_at r.0 false spent else spent) c
      ∙ ap (λ (b : Bool). b && not (is_waiting (states c) && lists_reader c 0 rest)) (here h.1 (r.1 == 0 && is_waiting (states r.0)) ∙ ap (λ (k : ℕ). if r.1 == 0 && is_waiting (states k) then false else spent c) h.1)
      ∙ by_first (r.1 == 0) (is_waiting (states c)) (lists_reader c 0 rest) (spent c)
      ∙ ap (λ (b : Bool). spent c && not (is_waiting (states c) && (b && r.1 == 0 || lists_reader c 0 rest))) (sym h.0)
  | inr h ↦ told_flag rest states (if r.1 == 0 && is_waiting (states r.0) then set_at r.0 false spent else spent) c
      ∙ ap (λ (b : Bool). b && not (is_waiting (states c) && lists_reader c 0 rest)) (other h.1 (r.1 == 0 && is_waiting (states r.0)))
      ∙ ap (λ (b : Bool). spent c && not (is_waiting (states c) && (b && r.1 == 0 || lists_reader c 0 rest))) (sym h.0)
]
  where
    here : r.0 ≡ c → (b : Bool) → (if b then set_at r.0 false spent else spent) c ≡ (if b then false else spent c)
    here e true = ap (λ k. set_at k false spent c) e ∙ set_at_same c false spent
    here e false = refl

    other : r.0 ≢ c → (b : Bool) → (if b then set_at r.0 false spent else spent) c ≡ spent c
    other ne true = set_at_other r.0 false spent c (λ e. ne (sym e))
    other ne false = refl

pub delivers : {p : ℕ} {w v : Plain} {rs : List (ℕ × ℕ)} → w.fills p ≡ rs → w.news p ≡ [] → w.clearing p ≡ [] → v ≡ record w { arrivals = arrive rs (w.tokens p) w.arrivals; fills = set_at p [] w.fills; spent = flags_after rs w.states w.spent }
    → Delivers p w v
delivers {p} {w} {v} {rs} fills looked cleared e = record {
  events = subst (Events w) (sym e) (all_delivered rs p w fills looked cleared);
  same = e ∙ ap (λ (x : Plain). record w { arrivals = x.arrivals; fills = x.fills; news = x.news; clearing = x.clearing; spent = x.spent }) (sym e);
  arrivals = ap (λ (x : Plain). x.arrivals) e ∙ ap (λ l. arrive l (w.tokens p) w.arrivals) (sym fills);
  fills = ap (λ (x : Plain). x.fills) e;
  news = ap (λ (x : Plain). x.news) e ∙ sym (set_at_itself p w.news) ∙ ap (λ l. set_at p l w.news) looked;
  clearing = ap (λ (x : Plain). x.clearing) e ∙ sym (set_at_itself p w.clearing) ∙ ap (λ l. set_at p l w.clearing) cleared;
  spent = λ c. ap (λ (x : Plain). x.spent c) e ∙ told_flag rs w.states w.spent c ∙ ap (λ l. flag_after l w c) (sym fills);
}
