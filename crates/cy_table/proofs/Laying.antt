-- Words and slots that are laid out for a world.
use Rattle.std.proofs.Common.{ℕ, zero, suc, ◌+◌, ◌-◌, ◌*◌, ◌≡◌, ◌≢◌, ◌≤◌, ◌<◌, ◌⊎◌, true, refl, sym, ◌∙◌, ap, ap₂, subst, inl, inr, List, [], ◌∷◌, ◌++◌, length, map, set, replicate, slice_index, slice_get, get_or, get_or-set_same, get_or-set_other, length-set, option_map, Option, Some, None, vec_capacity, arith}
use Rattle.std.specs.Option.{option_map_or}
use Rattle.std.proofs.Math.Seq.{take-length}
use Rattle.std.proofs.lemmas.Option.{slice_get_within}
use mathlib.Core.Option as maybe
use mathlib.Core.Option.{some, some-ne-none, some-injective}
use lib.ListN.{get_elem?}
use Rattle.atomic_table.specs.Table.{opening}
use Rattle.cy_fuse.specs.declared.overflow.Overflow.{Overflow}
use Rattle.cy_fuse.specs.declared.overflow.Overflow.TheVariants.{Newest}
use Rattle.cy_fuse.specs.Fusion.{Arrival}
use Rattle.cy_fuse.specs.Visitor.{VisitorView}
use Rattle.cy_comp.specs.declared.kind.Kind.{Kind}
use Rattle.cy_comp.specs.declared.kind.Kind.TheVariants.{Pass}
use Rattle.cy_comp.specs.declared.call.Out.{Out}
use Rattle.cy_comp.specs.Calls.{output}
use Rattle.cy_comp.specs.Routine.{RoutineView}
use Rattle.wake_core.specs.declared.route.Route.{Route}
use Rattle.wake_core.specs.declared.parts.Parts.{Parts}
use Rattle.wake_core.specs.declared.world.World.{World}
use Rattle.cy_comp.specs.declared.state.State.{State}
use Rattle.wake_core.specs.Plain.{Plain, Ready}
use Rattle.wake_core.specs.Fields.{read, no_routine, no_visitor, IsFixed, queue_of}
use Rattle.wake_core.specs.WorldOf.{plain_of, routes_in, counts_in, stop_in}
use Rattle.wake_core.specs.Parts.{routine_in, shown_by, AreFit}
use Rattle.cy_table.specs.declared.part.Part.{Part}
use Rattle.cy_table.specs.declared.part.Part.TheVariants as part
use Rattle.cy_table.specs.Layout.{state_number, yes_or_no, stop_number}
use Rattle.cy_table.specs.Seats.{Seat, Sight, TapeView}
use Rattle.cy_table.specs.Seats.{AreSeen}
use Rattle.cy_table.specs.Shown.{Rooms, AreRoomy, LiesOpen, kind_at, roles_at, queue_at, overflow_at, out_in, pending_at, routine_at, visitor_at, tape_at}
use Rattle.cy_table.specs.Rule.{Way, AreSo, IsMarked}
use Rattle.cy_table.specs.Plays.{calls_from, rule_for, seat_for}
use Rattle.cy_table.specs.Sights.{first_sight, sight_for}
use Rattle.cy_table.specs.Laws.{TableEnds}
use Rattle.wake_core.specs.Laws.{FoundLaws, ThreadLaws}
use Rattle.wake_core.specs.Rest.{IsAtRest, at_rest}
use Rattle.wake_core.specs.Sound.{Sound}
use Rattle.cy_table.specs.Ends.{AreWords, AreSlots, HaveFewCalls, laid}

-- What is read of an element is that of the element that is read.
pub read_of : {X Y : Type 0} (g : X → Y) (d : X) (xs : List X) (k : ℕ) → read g (g d) xs k ≡ g (read (λ x. x) d xs k)
unfolding read
read_of g d [] k = refl
read_of g d (x ∷ xs) zero = refl
read_of g d (x ∷ xs) (suc k) = read_of g d xs k

pub read_item : {X : Type 0} (d x : X) (xs ys : List X) (i : ℕ) → xs ≡ ys → i < length xs → x ≡ get_or xs i x → read (λ y. y) d ys i ≡ x
unfolding read
read_item d x xs ys i same l is = ap (λ zs. read (λ y. y) d zs i) (sym same) ∙ go d x xs i l is
  where
    go : {X : Type 0} (d x : X) (xs : List X) (i : ℕ) → i < length xs → x ≡ get_or xs i x → read (λ y. y) d xs i ≡ x
    go d x [] i l is = absurd (omega (arith, l))
    go d x (y ∷ xs) zero l is = sym is
    go d x (y ∷ xs) (suc i) l is = go d x xs i (omega (arith, l)) is

pub read_or : {X : Type 0} (d e : X) (xs ys : List X) (i : ℕ) → xs ≡ ys → i < length xs → get_or xs i e ≡ read (λ y. y) d ys i
read_or d e xs ys i same l = sym (read_item d (get_or xs i e) xs ys i same l (go e (get_or xs i e) xs i l))
  where
    go : {X : Type 0} (a b : X) (xs : List X) (i : ℕ) → i < length xs → get_or xs i a ≡ get_or xs i b
    go a b [] i l = absurd (omega (arith, l))
    go a b (y ∷ xs) zero l = refl
    go a b (y ∷ xs) (suc i) l = go a b xs i (omega (arith, l))

-- The words, where those of the first k components are laid.
pub record WordsTo (k n : ℕ) (p : Parts) (words : List ℕ) : Type 0 where
  pub wide : length words ≡ 4 * n + 5
  pub clock_is : slice_index words 1 ≡ p.clock
  pub closing_is : slice_index words 2 ≡ yes_or_no p.closing
  pub stop_is : slice_index words (4 * n + 4) ≡ stop_number (stop_in p.fixed) p.raised
  pub tape_free : slice_index words 3 ≡ 0
  pub state : (c : ℕ) → c < k → slice_index words (4 * c + 5) ≡ state_number (routine_in p c).state
  pub flag : (c : ℕ) → c < k → slice_index words (4 * c + 6) ≡ yes_or_no (read (λ b. b) true p.spent c)
  pub free : (c : ℕ) → c < n → slice_index words (4 * c + 4) ≡ 0
  pub visitor_free : (c : ℕ) → c < n → slice_index words (4 * c + 7) ≡ 0

module _ (ws : List ℕ) (i j x y : ℕ) where
  both_other : (k : ℕ) → k ≢ i → k ≢ j → get_or (set (set ws i x) j y) k 0 ≡ get_or ws k 0
  both_other k a b = get_or-set_other (set ws i x) j k y 0 b ∙ get_or-set_other ws i k x 0 a

  both_first : i < length ws → i ≢ j → get_or (set (set ws i x) j y) i 0 ≡ x
  both_first l a = get_or-set_other (set ws i x) j i y 0 a ∙ get_or-set_same ws i x 0 l

  both_second : j < length ws → get_or (set (set ws i x) j y) j 0 ≡ y
  both_second l = get_or-set_same (set ws i x) j y 0 (omega (arith, l, length-set ws i x))

  both_length : length (set (set ws i x) j y) ≡ length ws
  both_length = length-set (set ws i x) j y ∙ length-set ws i x

last_or : (c k : ℕ) → c < k + 1 → (c ≡ k) ⊎ (c < k)
last_or zero zero l = inl refl
last_or zero (suc k) l = inr (omega arith)
last_or (suc c) zero l = absurd (omega (arith, l))
last_or (suc c) (suc k) l = elim (last_or c k (omega (arith, l))) [ inl e ↦ inl (ap suc e) | inr less ↦ inr (omega (arith, less)) ]

-- The words of one component more.
pub words_more : {k n x y : ℕ} {p : Parts} {ws : List ℕ} → WordsTo k n p ws → k < n → x ≡ state_number (routine_in p k).state → y ≡ yes_or_no (read (λ b. b) true p.spent k) → WordsTo (k + 1) n p (set (set ws (4 * k + 5) x) (4 * k + 6) y)
words_more {k} {n} {x} {y} {p} {ws} h l state_is flag_is =
    let i : ℕ = 4 * k + 5 in
    let j : ℕ = 4 * k + 6 in
    let in_i : i < length ws = omega (arith, l, h.wide) in
    let in_j : j < length ws = omega (arith, l, h.wide) in
    record {
      wide = both_length ws i j x y ∙ h.wide;
      clock_is = both_other ws i j x y 1 (λ e. omega arith) (λ e. omega arith) ∙ h.clock_is;
      closing_is = both_other ws i j x y 2 (λ e. omega arith) (λ e. omega arith) ∙ h.closing_is;
      stop_is = both_other ws i j x y (4 * n + 4) (λ e. omega arith) (λ e. omega arith) ∙ h.stop_is;
      tape_free = both_other ws i j x y 3 (λ e. omega arith) (λ e. omega arith) ∙ h.tape_free;
      state = λ c less. elim (last_or c k less) [
        | inl e ↦ subst (λ d. get_or (set (set ws i x) j y) (4 * d + 5) 0 ≡ state_number (routine_in p d).state) (sym e) (both_first ws i j x y in_i (λ z. omega arith) ∙ state_is)
        | inr before ↦ both_other ws i j x y (4 * c + 5) (λ z. omega (arith, before)) (λ z. omega arith) ∙ h.state c before
      ];
      flag = λ c less. elim (last_or c k less) [
        | inl e ↦ subst (λ d. get_or (set (set ws i x) j y) (4 * d + 6) 0 ≡ yes_or_no (read (λ b. b) true p.spent d)) (sym e) (both_second ws i j x y in_j ∙ flag_is)
        | inr before ↦ both_other ws i j x y (4 * c + 6) (λ z. omega arith) (λ z. omega (arith, before)) ∙ h.flag c before
      ];
      free = λ c less. both_other ws i j x y (4 * c + 4) (λ z. omega arith) (λ z. omega arith) ∙ h.free c less;
      visitor_free = λ c less. both_other ws i j x y (4 * c + 7) (λ z. omega arith) (λ z. omega arith) ∙ h.visitor_free c less;
    }

equal_at : (n k d : ℕ) → get_or (replicate n d) k d ≡ d
equal_at zero k d = refl
equal_at (suc n) zero d = refl
equal_at (suc n) (suc k) d = equal_at n k d

-- .. of all.
pub words_done : {k n : ℕ} {p : Parts} {ws : List ℕ} → WordsTo k n p ws → n ≤ k → n ≡ length (routes_in p.fixed) → AreWords (shown_by p) ws
unfolding shown_by
words_done {k} {n} {p} {ws} h all size = record {
  wide = h.wide ∙ ap (λ m. 4 * m + 5) size;
  clock_is = h.clock_is;
  closing_is = h.closing_is;
  stop_is = ap (λ m. slice_index ws (4 * m + 4)) (sym size) ∙ h.stop_is;
  tape_free = h.tape_free;
  state = λ c less. h.state c (omega (arith, less, size, all)) ∙ ap state_number (sym (read_of (λ (r : RoutineView). r.state) no_routine p.routines c));
  flag = λ c less. h.flag c (omega (arith, less, size, all));
  free = λ c less. h.free c (omega (arith, less, size));
  visitor_free = λ c less. h.visitor_free c (omega (arith, less, size));
}

-- One component more is laid.
two_more : (xs ys : List Part) (a b : Part) → ((xs ++ a ∷ []) ++ b ∷ []) ++ ys ≡ xs ++ a ∷ b ∷ ys
two_more [] ys a b = refl
two_more (x ∷ xs) ys a b = ap (λ l. x ∷ l) (two_more xs ys a b)

pub laid_step : (start : List Part) {first both all : List Part} {rs rest : List RoutineView} {vs more : List VisitorView} {r : RoutineView} {v : VisitorView} → first ≡ start ++ part.Routine r ∷ [] → both ≡ first ++ part.Visitor v ∷ []
    → rs ≡ r ∷ rest → vs ≡ v ∷ more → start ++ laid rs vs ≡ all → both ++ laid rest more ≡ all
laid_step start {first} {both} {all} {rs} {rest} {vs} {more} {r} {v} a b d e so_far =
    ap (λ (l : List Part). l ++ laid rest more) (b ∙ ap (λ (l : List Part). l ++ part.Visitor v ∷ []) a)
    ∙ two_more start (laid rest more) (part.Routine r) (part.Visitor v)
    ∙ sym (ap₂ (λ (x : List RoutineView) (y : List VisitorView). start ++ laid x y) d e)
    ∙ so_far

-- The slots of components that are laid one after another.
laid_length : (rs : List RoutineView) (vs : List VisitorView) → length vs ≡ length rs → length (laid rs vs) ≡ 2 * length rs
laid_length [] vs e = refl
laid_length (r ∷ rs) [] e = absurd (omega (arith, e))
laid_length (r ∷ rs) (v ∷ vs) e = omega (arith, laid_length rs vs (omega (arith, e)))

laid_routine : (rs : List RoutineView) (vs : List VisitorView) (c : ℕ) → length vs ≡ length rs → c < length rs → get_elem? (laid rs vs) (2 * c) ≡ some (part.Routine (read (λ r. r) no_routine rs c))
unfolding read
laid_routine [] vs c e l = absurd (omega (arith, l))
laid_routine (r ∷ rs) [] c e l = absurd (omega (arith, e))
laid_routine (r ∷ rs) (v ∷ vs) zero e l = refl
laid_routine (r ∷ rs) (v ∷ vs) (suc c) e l = let next : 2 * suc c ≡ suc (suc (2 * c)) = omega arith in ap (get_elem? (laid (r ∷ rs) (v ∷ vs))) next ∙ laid_routine rs vs c (omega (arith, e)) (omega (arith, l))

-- A visitor, by its parts.
visitor_is : (v : VisitorView) {queue roles spare : ℕ} {overflow : Overflow} {arrivals : List Arrival} → v.queue ≡ queue → v.roles ≡ roles → v.overflow ≡ overflow → v.spare ≡ spare → v.arrivals ≡ arrivals
    → v ≡ record { queue = queue; roles = roles; overflow = overflow; spare = spare; arrivals = arrivals }
visitor_is v queue roles overflow spare arrivals = rw (← queue, ← roles, ← overflow, ← spare, ← arrivals) refl

laid_visitor : (rs : List RoutineView) (vs : List VisitorView) (c : ℕ) → length vs ≡ length rs → c < length rs → get_elem? (laid rs vs) (2 * c + 1) ≡ some (part.Visitor (read (λ v. v) no_visitor vs c))
unfolding read
laid_visitor [] vs c e l = absurd (omega (arith, l))
laid_visitor (r ∷ rs) [] c e l = absurd (omega (arith, e))
laid_visitor (r ∷ rs) (v ∷ vs) zero e l = refl
laid_visitor (r ∷ rs) (v ∷ vs) (suc c) e l = let next : 2 * suc c + 1 ≡ suc (suc (2 * c + 1)) = omega arith in ap (get_elem? (laid (r ∷ rs) (v ∷ vs))) next ∙ laid_visitor rs vs c (omega (arith, e)) (omega (arith, l))

map_there : (xs : List Part) (k : ℕ) (y : Part) → get_elem? xs k ≡ some y → get_elem? (map some xs) k ≡ some (some y)
map_there [] k y e = absurd (some-ne-none y (sym e))
map_there (x ∷ xs) zero y e = ap some e
map_there (x ∷ xs) (suc k) y e = map_there xs k y e

map_length : (xs : List Part) → length (map some xs) ≡ length xs
map_length [] = refl
map_length (x ∷ xs) = ap suc (map_length xs)

pub lies : {r : Rooms} {w : Plain} {words : List ℕ} {slots : List Part} → AreWords w words → AreSlots r w slots → LiesOpen r w words (map some slots)
lies {r} {w} {words} {slots} a b = record {
  wide = a.wide;
  deep = map_length slots ∙ b.deep;
  clock_is = a.clock_is;
  closing_is = a.closing_is;
  stop_is = a.stop_is;
  state = a.state;
  flag = a.flag;
  tape_free = a.tape_free;
  free = a.free;
  visitor_free = a.visitor_free;
  tape = map_there slots 0 (part.Tape (tape_at r w)) b.tape;
  routine = λ c less. map_there slots (2 * c + 1) (part.Routine (routine_at r w c)) (b.routine c less);
  visitor = λ c less. map_there slots (2 * c + 2) (part.Visitor (visitor_at r w c)) (b.visitor c less);
}

-- All calls of components are seen.
pub all_seen : (w : Plain) (n : ℕ) → AreSeen w.calls (calls_from w n)
all_seen w zero = tt
all_seen w (suc c) = (take-length (w.calls c), all_seen w c)

-- The parts of a world in the slots.
abbrev pub rooms_of : Parts → Rooms
rooms_of p = record {
  tape = vec_capacity p.tape;
  calls = λ c. length (routine_in p c).calls + (routine_in p c).spare;
  arrivals = λ c. length (read (λ v. v) no_visitor p.visitors c).arrivals + (read (λ v. v) no_visitor p.visitors c).spare;
}

-- There is a component of each number.
pub some_route : (routes : List Route) (c : ℕ) → c < length routes → (x : Route) × (slice_get routes c ≡ Some x)
some_route [] c l = absurd (omega (arith, l))
some_route (x ∷ routes) zero l = (x, refl)
some_route (x ∷ routes) (suc c) l = some_route routes c (omega (arith, l))

module _ (p : Parts) (fit : AreFit p) (c : ℕ) (inside : c < length (routes_in p.fixed)) where
  its_routine : routine_in p c ≡ routine_at (rooms_of p) (shown_by p) c
  unfolding shown_by
  its_routine =
      let x = some_route (routes_in p.fixed) c inside in
      let is = fit.routines c inside in
      let r = routine_in p c in
      let kind : r.kind ≡ kind_at (routes_in p.fixed) c = is.kind x.0 x.1 ∙ ap (λ (o : Option Route). option_map_or (λ (y : Route). y.kind) o Pass) (sym x.1) in
      let pending : r.pending ≡ pending_at (shown_by p) c = sym (ap (option_map out_in) (is.pending x.0 x.1) ∙ whole _ _ r.pending) in
      let spare : r.spare ≡ (length r.calls + r.spare) - length r.calls = omega arith in
      let state : r.state ≡ read (λ (y : RoutineView). y.state) Ready p.routines c = sym (read_of (λ (y : RoutineView). y.state) no_routine p.routines c) in
      ap (λ (k : Kind). record { kind = k; state = r.state; calls = r.calls; pending = r.pending; spare = r.spare }) kind
      ∙ ap (λ (s : State). record { kind = kind_at (routes_in p.fixed) c; state = s; calls = r.calls; pending = r.pending; spare = r.spare }) state
      ∙ ap (λ (o : Option Out). record { kind = kind_at (routes_in p.fixed) c; state = read (λ (y : RoutineView). y.state) Ready p.routines c; calls = r.calls; pending = o; spare = r.spare }) pending
      ∙ ap (λ (n : ℕ). record { kind = kind_at (routes_in p.fixed) c; state = read (λ (y : RoutineView). y.state) Ready p.routines c; calls = r.calls; pending = pending_at (shown_by p) c; spare = n }) spare
    where
      whole : (channel seq : ℕ) (o : Option Out) → option_map out_in (option_map (output channel seq) o) ≡ o
      whole channel seq None = refl
      whole channel seq (Some out) = refl

  its_visitor : read (λ v. v) no_visitor p.visitors c ≡ visitor_at (rooms_of p) (shown_by p) c
  unfolding shown_by
  its_visitor =
      let x = some_route (routes_in p.fixed) c inside in
      let v = read (λ v. v) no_visitor p.visitors c in
      let queue : v.queue ≡ queue_at (routes_in p.fixed) (counts_in p.fixed) c = fit.visited.queues c x.0 x.1 ∙ ap (λ (o : Option Route). option_map_or (queue_of (routes_in p.fixed) (counts_in p.fixed)) o 1) (sym x.1) in
      let roles : v.roles ≡ roles_at (routes_in p.fixed) c = fit.visited.roles c x.0 x.1 ∙ ap (λ (o : Option Route). option_map_or (λ (y : Route). length y.readers) o 0) (sym x.1) in
      let overflow : v.overflow ≡ overflow_at (routes_in p.fixed) c = fit.visited.overflows c x.0 x.1 ∙ ap (λ (o : Option Route). option_map_or (λ (y : Route). y.overflow) o Newest) (sym x.1) in
      let arrivals : v.arrivals ≡ read (λ (y : VisitorView). y.arrivals) [] p.visitors c = sym (read_of (λ (y : VisitorView). y.arrivals) no_visitor p.visitors c) in
      let spare : v.spare ≡ (length v.arrivals + v.spare) - length (read (λ (y : VisitorView). y.arrivals) [] p.visitors c) = omega (arith, ap length arrivals) in
      visitor_is v queue roles overflow spare arrivals

pub slots_are : (p : Parts) → AreFit p → (t : TapeView) → t ≡ record { messages = p.tape.items; room = vec_capacity p.tape } → AreSlots (rooms_of p) (shown_by p) (part.Tape t ∷ laid p.routines p.visitors)
unfolding shown_by
slots_are p fit t is =
    let paired : length p.visitors ≡ length p.routines = fit.visitors_fit ∙ sym fit.routines_fit in
    record {
      deep = omega (arith, laid_length p.routines p.visitors paired, fit.routines_fit);
      tape = ap (λ (x : TapeView). some (part.Tape x)) is;
      routine = λ c inside.
          let next : 2 * c + 1 ≡ suc (2 * c) = omega arith in
          ap (get_elem? (part.Tape t ∷ laid p.routines p.visitors)) next ∙ laid_routine p.routines p.visitors c paired (omega (arith, inside, fit.routines_fit)) ∙ ap (λ (x : RoutineView). some (part.Routine x)) (its_routine p fit c inside);
      visitor = λ c inside.
          let next : 2 * c + 2 ≡ suc (2 * c + 1) = omega arith in
          ap (get_elem? (part.Tape t ∷ laid p.routines p.visitors)) next ∙ laid_visitor p.routines p.visitors c paired (omega (arith, inside, fit.routines_fit)) ∙ ap (λ (x : VisitorView). some (part.Visitor x)) (its_visitor p fit c inside);
    }

-- What lies open says nothing of threads.
rested : {r : Rooms} (w : Plain) {words : List ℕ} {homes : List (maybe.Option Part)} → LiesOpen r (at_rest w) words homes → LiesOpen r w words homes
rested w l = record {
  wide = l.wide;
  deep = l.deep;
  clock_is = l.clock_is;
  closing_is = l.closing_is;
  stop_is = l.stop_is;
  state = l.state;
  flag = l.flag;
  tape_free = l.tape_free;
  free = l.free;
  visitor_free = l.visitor_free;
  tape = l.tape;
  routine = l.routine;
  visitor = l.visitor;
}

is_fixed : (p : Parts) → IsFixed (routes_in p.fixed) (counts_in p.fixed) → IsFixed (shown_by p).routes (shown_by p).counts
unfolding shown_by
is_fixed p f = f

are_roomy : (p : Parts) → AreFit p → AreRoomy (shown_by p).routes (shown_by p).counts (rooms_of p)
unfolding shown_by
are_roomy p fit = record { tape = fit.roomy.messages; calls = fit.roomy.calls; arrivals = fit.roomy.arrivals }

-- A way of no step, and a first seat that noted nothing.
no_way : (w : Plain) → Way w w
no_way w = record { at = λ k. w; steps = 0; starts = refl; ends = refl; each = λ k less. absurd (omega (arith, less)) }

none_noted : (w : Plain) (v : Seat) → v.note ≡ [] → (j : ℕ) (u : Sight) → get_elem? (first_sight v ∷ []) j ≡ some u → IsMarked (no_way w) j u
none_noted w v e zero u at = subst (λ (y : Sight). IsMarked (no_way w) 0 y) (some-injective (first_sight v) u at)
    record { last = omega arith; own = record { rising = omega arith; so = subst (λ l. AreSo (no_way w).at l []) (sym e) tt; ordered = omega arith; done = tt }; others = tt }
none_noted w v e (suc j) u at = absurd (some-ne-none u (sym at))

-- A table of these words and slots meets its rule.
pub begins : TableEnds → ThreadLaws → (key : World) (p : Parts) (words : List ℕ) (t : TapeView) → AreFit p → IsFixed (routes_in p.fixed) (counts_in p.fixed) → IsAtRest (plain_of key) → shown_by p ≡ at_rest (plain_of key)
    → AreWords (shown_by p) words → t ≡ record { messages = p.tape.items; room = vec_capacity p.tape }
    → rule_for key (opening words (part.Tape t ∷ laid p.routines p.visitors) (sight_for key))
begins law threads key p words t fit fixed idle shown open_words is =
    let w = plain_of key in
    let slots = part.Tape t ∷ laid p.routines p.visitors in
    let sound : Sound w = threads.replaced (at_rest w) w (λ j. record { hand = refl; owes = record { filled = refl; looked = refl; cleared = refl } }) idle refl (subst Sound shown fit.sound) in
    let fixed_so : IsFixed w.routes w.counts = subst (λ (u : Plain). IsFixed u.routes u.counts) shown (is_fixed p fixed) in
    let roomy : AreRoomy w.routes w.counts (rooms_of p) = subst (λ (u : Plain). AreRoomy u.routes u.counts (rooms_of p)) shown (are_roomy p fit) in
    let lies_so : LiesOpen (rooms_of p) w words (map some slots) = rested w (subst (λ (u : Plain). LiesOpen (rooms_of p) u words (map some slots)) shown (lies open_words (slots_are p fit t is))) in
    record {
      world = w;
      rooms = rooms_of p;
      components = refl;
      planned = refl;
      stop = refl;
      way = no_way w;
      noted = λ j v e. none_noted w (seat_for key) refl j v e;
      rules = law.start (rooms_of p) w words (map some slots) (calls_from w (length w.routes)) sound idle fixed_so roomy lies_so (all_seen w (length w.routes));
    }

-- No routine of a world has more calls than a world keeps.
pub few_calls : FoundLaws → (p : Parts) → AreFit p → IsFixed (routes_in p.fixed) (counts_in p.fixed) → HaveFewCalls p.routines
unfolding shown_by
few_calls law p fit fixed = record {
  each = λ c r at.
      let within = slice_get_within p.routines c r at in
      let x = some_route (routes_in p.fixed) c (omega (arith, within, fit.routines_fit)) in
      let called = fit.sound.consistent.room.called c x.0 x.1 in
      let most = law.planned (routes_in p.fixed) (counts_in p.fixed) c x.0 x.1 fixed in
      let is : routine_in p c ≡ r = read_item no_routine r p.routines p.routines c refl within (sym (get_is p.routines c r at)) in
      omega (arith, called, most, ap (λ (y : RoutineView). length y.calls) is);
}
  where
    get_is : (xs : List RoutineView) (c : ℕ) (r : RoutineView) → slice_get xs c ≡ Some r → get_or xs c r ≡ r
    get_is [] c r at = cc
    get_is (x ∷ xs) zero r at = cc
    get_is (x ∷ xs) (suc c) r at = get_is xs c r at

-- .. and the same of those that are left.
pub few_rest : {r : RoutineView} {rs xs : List RoutineView} → xs ≡ r ∷ rs → HaveFewCalls xs → HaveFewCalls rs
few_rest {r} {rs} is few = record { each = λ c x at. few.each (suc c) x (ap (λ (l : List RoutineView). slice_get l (suc c)) is ∙ at) }
