-- What is in the slots of a table when its last pass gives it up, and the world that is made of it.
use Rattle.std.proofs.Common.{ℕ, zero, suc, ◌+◌, ◌*◌, ◌≡◌, ◌≢◌, ◌≤◌, ◌<◌, ◌⊎◌, ◌==◌, Bool, true, false, refl, sym, ◌∙◌, ap, ap₂, subst, inl, inr, List, [], ◌∷◌, ◌++◌, length, length-append, take, map, sum, filter, cond, not, slice_index, slice_get, get_or, get_or-set_same, get_or-set_other, set, option_map, Option, Some, None, vec_capacity, arith}
use Rattle.std.specs.Option.{option_map_or}
use Rattle.std.proofs.lemmas.Bool.Decides.{eqb_tells}
use mathlib.Core.Bool.{false≢true}
use mathlib.Core.Option.{some, some-injective, some-ne-none}
use lib.ListN.{get_elem?}
use Rattle.atomic_table.specs.Table.{Final, Seen}
use Rattle.atomic_table.proofs.Lists.{at_map}
use Rattle.cy_msg.specs.declared.token.Token.{Token}
use Rattle.cy_msg.specs.Tokens.{on_channel}
use Rattle.cy_fuse.specs.declared.overflow.Overflow.TheVariants.{Newest}
use Rattle.cy_fuse.specs.Visitor.{VisitorView}
use Rattle.cy_comp.specs.declared.kind.Kind.TheVariants.{Pass}
use Rattle.cy_comp.specs.declared.call.Call.{Call}
use Rattle.cy_comp.specs.Calls.{cursor_after, outs, output}
use Rattle.cy_comp.specs.Routine.{RoutineView}
use Rattle.wake_core.specs.declared.route.Route.{Route}
use Rattle.wake_core.specs.declared.parts.Parts.{Parts}
use Rattle.wake_core.specs.Run.{played_of}
use Rattle.wake_core.specs.Planned.{planned_count, first_reader}
use Rattle.wake_core.specs.Plain.{Plain, Stop, Ready, taped_of, unsent_of}
use Rattle.wake_core.specs.Sound.{Sound}
use Rattle.wake_core.specs.Fields.{read, no_routine, no_visitor, IsFixed, IsVisited, IsRoomy, queue_of}
use Rattle.wake_core.specs.WorldOf.{routes_in, counts_in, stop_in}
use Rattle.wake_core.specs.WorldCalls.{IsRoutineOf}
use Rattle.wake_core.specs.Laws.{IsIdle, ThreadLaws, OutsideLaws, AgreesWithin, SaysNothing}
use Rattle.wake_core.specs.Way.{Replaces}
use Rattle.wake_core.specs.TapeLaws.{UnsentLaws}
use Rattle.wake_core.specs.Rest.{at_rest}
use Rattle.wake_core.specs.Parts.{routine_in, shown_by, AreFit}
use Rattle.cy_table.specs.declared.part.Part.{Part}
use Rattle.cy_table.specs.declared.part.Part.TheVariants as part
use Rattle.cy_table.specs.Layout.{yes_or_no, named_by, stop_number}
use Rattle.cy_table.specs.Seats.{Sight, Seen as SeenCalls, TapeView}
use Rattle.cy_table.specs.Seats.{AreSeen, IsEmpty}
use Rattle.cy_table.specs.Shown.{Rooms, AreRoomy, out_in, pending_at, routine_at, visitor_at, tape_at}
use Rattle.cy_table.specs.Rule.{Ruled, Way, IsMarked, Knows, seats_of}
use Rattle.cy_table.specs.Steps.{Sits}
use Rattle.cy_table.specs.Plays.{HasSeen}
use Rattle.cy_table.specs.Laws.{TableEnds}
use Rattle.cy_table.specs.Ends.{AreWords, AreSlots}
use Rattle.cy_table.proofs.Slots.{routine_or, visitor_or, tape_or}
use Rattle.cy_table.proofs.Places.{place}
use Rattle.cy_table.proofs.Laying.{read_of, some_route}

-- A table that lies open, as its words and slots show it.
pub record Ends (made : Plain) (v : Sight) (words : List ℕ) (slots : List Part) : Type 0 where
  pub world : Plain
  pub rooms : Rooms
  pub components : world.routes ≡ made.routes
  pub planned : world.counts ≡ made.counts
  pub given : world.stop ≡ made.stop
  pub way : Way made world
  pub noted : IsMarked way 0 v
  pub sound : Sound world
  pub idle : (p : ℕ) → IsIdle p world
  pub fixed : IsFixed world.routes world.counts
  pub roomy : AreRoomy world.routes world.counts rooms
  pub knows : Knows world 0 v.seat
  pub words_are : AreWords world words
  pub slots_are : AreSlots rooms world slots

pub shuts : TableEnds → (made : Plain) (id : ℕ) (v : Sight) (words : List ℕ) (slots : List Part) → id ≡ 0 → v.seat.live ≢ 0 → IsEmpty v.seat → v.seat.split ≡ 0
    → Final (Seen (Ruled made) id v) words slots → Ends made v words slots
shuts law made id v words slots player live empty alone f =
    let s = f.0 in
    let k = f.1.0 in
    let first = subst (λ j. get_elem? s.views j ≡ some v) player f.1.1 in
    let seat = at_map (λ (u : Sight). u.seat) s.views 0 v first in
    let sits : Sits k.rooms k.world (seats_of s) 0 v.seat = record { rules = k.rules; at = seat; live = live } in
    let lies = law.open_table k.rooms k.world (seats_of s) v.seat sits empty alone in
    record {
      world = k.world;
      rooms = k.rooms;
      components = k.components;
      planned = k.planned;
      given = k.stop;
      way = k.way;
      noted = k.noted 0 v first;
      sound = k.rules.sound;
      idle = law.idle k.rooms k.world (seats_of s) v.seat sits empty alone;
      fixed = k.rules.fixed;
      roomy = k.rules.roomy;
      knows = k.rules.knows 0 v.seat seat;
      words_are = subst (AreWords k.world) f.2 record {
        wide = lies.wide;
        clock_is = lies.clock_is;
        closing_is = lies.closing_is;
        stop_is = lies.stop_is;
        tape_free = lies.tape_free;
        state = lies.state;
        flag = lies.flag;
        free = lies.free;
        visitor_free = lies.visitor_free;
      };
      slots_are = record {
        deep = sym f.3 ∙ lies.deep;
        tape = f.4 0 (part.Tape (tape_at k.rooms k.world)) lies.tape;
        routine = λ c less. f.4 (2 * c + 1) (part.Routine (routine_at k.rooms k.world c)) (lies.routine c less);
        visitor = λ c less. f.4 (2 * c + 2) (part.Visitor (visitor_at k.rooms k.world c)) (lies.visitor c less);
      };
    }

-- What was taken out of slots and words, component by component.
pub record TakenOut (words : List ℕ) (slots : List Part) (n : ℕ) (routines : List RoutineView) (visitors : List VisitorView) (spent : List Bool) : Type 0 where
  pub routines_many : length routines ≡ n
  pub visitors_many : length visitors ≡ n
  pub spent_many : length spent ≡ n
  pub routine : (c : ℕ) → c < n → get_elem? slots (2 * c + 1) ≡ some (part.Routine (read (λ r. r) no_routine routines c))
  pub visitor : (c : ℕ) → c < n → get_elem? slots (2 * c + 2) ≡ some (part.Visitor (read (λ v. v) no_visitor visitors c))
  pub flag : (c : ℕ) → c < n → read (λ b. b) true spent c ≡ (slice_index words (4 * c + 6) == 1)

-- A list with one more.
read_before : {X : Type 0} (d : X) (xs : List X) (x : X) (k : ℕ) → k < length xs → read (λ y. y) d (xs ++ x ∷ []) k ≡ read (λ y. y) d xs k
unfolding read
read_before d [] x k l = absurd (omega (arith, l))
read_before d (y ∷ xs) x zero l = refl
read_before d (y ∷ xs) x (suc k) l = read_before d xs x k (omega (arith, l))

read_behind : {X : Type 0} (d : X) (xs : List X) (x : X) (k : ℕ) → k ≡ length xs → read (λ y. y) d (xs ++ x ∷ []) k ≡ x
unfolding read
read_behind d [] x zero e = refl
read_behind d [] x (suc k) e = absurd (omega (arith, e))
read_behind d (y ∷ xs) x zero e = absurd (omega (arith, e))
read_behind d (y ∷ xs) x (suc k) e = read_behind d xs x k (omega (arith, e))

last_or : (c k : ℕ) → c < k + 1 → (c ≡ k) ⊎ (c < k)
last_or zero zero l = inl refl
last_or zero (suc k) l = inr (omega arith)
last_or (suc c) zero l = absurd (omega (arith, l))
last_or (suc c) (suc k) l = elim (last_or c k (omega (arith, l))) [ inl e ↦ inl (ap suc e) | inr less ↦ inr (omega (arith, less)) ]

pub taken_more : {words : List ℕ} {slots : List Part} {k : ℕ} {rs : List RoutineView} {vs : List VisitorView} {bs : List Bool} (r : RoutineView) (v : VisitorView) (b : Bool) → TakenOut words slots k rs vs bs
    → get_elem? slots (2 * k + 1) ≡ some (part.Routine r) → get_elem? slots (2 * k + 2) ≡ some (part.Visitor v) → b ≡ (slice_index words (4 * k + 6) == 1)
    → TakenOut words slots (k + 1) (rs ++ r ∷ []) (vs ++ v ∷ []) (bs ++ b ∷ [])
taken_more {words} {slots} {k} {rs} {vs} {bs} r v b h at_routine at_visitor at_flag = record {
  routines_many = length-append rs (r ∷ []) ∙ ap (λ n. n + 1) h.routines_many;
  visitors_many = length-append vs (v ∷ []) ∙ ap (λ n. n + 1) h.visitors_many;
  spent_many = length-append bs (b ∷ []) ∙ ap (λ n. n + 1) h.spent_many;
  routine = λ c less. elim (last_or c k less) [
    | inl e ↦ ap (λ j. get_elem? slots (2 * j + 1)) e ∙ at_routine ∙ ap (λ (x : RoutineView). some (part.Routine x)) (sym (read_behind no_routine rs r c (e ∙ sym h.routines_many)))
    | inr l ↦ h.routine c l ∙ ap (λ (x : RoutineView). some (part.Routine x)) (sym (read_before no_routine rs r c (omega (arith, l, h.routines_many))))
  ];
  visitor = λ c less. elim (last_or c k less) [
    | inl e ↦ ap (λ j. get_elem? slots (2 * j + 2)) e ∙ at_visitor ∙ ap (λ (x : VisitorView). some (part.Visitor x)) (sym (read_behind no_visitor vs v c (e ∙ sym h.visitors_many)))
    | inr l ↦ h.visitor c l ∙ ap (λ (x : VisitorView). some (part.Visitor x)) (sym (read_before no_visitor vs v c (omega (arith, l, h.visitors_many))))
  ];
  flag = λ c less. elim (last_or c k less) [
    | inl e ↦ read_behind true bs b c (e ∙ sym h.spent_many) ∙ at_flag ∙ ap (λ j. slice_index words (4 * j + 6) == 1) (sym e)
    | inr l ↦ read_before true bs b c (omega (arith, l, h.spent_many)) ∙ h.flag c l
  ];
}

pub none_taken : {words : List ℕ} {slots : List Part} {rs : List RoutineView} {vs : List VisitorView} {bs : List Bool} → rs ≡ [] → vs ≡ [] → bs ≡ [] → TakenOut words slots 0 rs vs bs
none_taken a b d = record {
  routines_many = ap length a;
  visitors_many = ap length b;
  spent_many = ap length d;
  routine = λ c less. absurd (omega (arith, less));
  visitor = λ c less. absurd (omega (arith, less));
  flag = λ c less. absurd (omega (arith, less));
}

pub taken_as : {words words' : List ℕ} {slots slots' : List Part} {n n' : ℕ} {rs rs' : List RoutineView} {vs vs' : List VisitorView} {bs bs' : List Bool} → words ≡ words' → slots ≡ slots' → n ≡ n' → rs' ≡ rs → vs' ≡ vs → bs' ≡ bs
    → TakenOut words slots n rs vs bs → TakenOut words' slots' n' rs' vs' bs'
taken_as {words' = words'} {slots} {slots'} {n} {n'} {rs} {rs'} {vs} {vs'} {bs} {bs'} a b d e f g h =
    subst (λ (l : List Bool). TakenOut words' slots' n' rs' vs' l) (sym g)
    (subst (λ (l : List VisitorView). TakenOut words' slots' n' rs' l bs) (sym f)
    (subst (λ (l : List RoutineView). TakenOut words' slots' n' l vs bs) (sym e)
    (subst (λ (m : ℕ). TakenOut words' slots' m rs vs bs) d
    (subst (λ (l : List Part). TakenOut words' l n rs vs bs) b
    (subst (λ (l : List ℕ). TakenOut l slots n rs vs bs) a h)))))

pub index_of : (xs : List ℕ) (i x : ℕ) → get_elem? xs i ≡ some x → slice_index xs i ≡ x
index_of [] i x e = absurd (some-ne-none x (sym e))
index_of (y ∷ ys) zero x e = some-injective y x e
index_of (y ∷ ys) (suc i) x e = index_of ys i x e

-- The places from k on are full, and those before are empty.
pub record IsFrom (k : ℕ) (filled : List Bool) (n : ℕ) : Type 0 where
  pub gone : (i : ℕ) → i < k → get_or filled i false ≡ false
  pub left : (i : ℕ) → k ≤ i → i < n → get_or filled i false ≡ true

filled_within : (fs : List Bool) (k : ℕ) → get_or fs k false ≡ true → k < length fs
filled_within [] k e = absurd (false≢true e)
filled_within (x ∷ xs) zero e = omega arith
filled_within (x ∷ xs) (suc k) e = let h = filled_within xs k e in omega (arith, h)

pub from_more : (k k' n : ℕ) (fs : List Bool) → k' ≡ k + 1 → k < n → IsFrom k fs n → IsFrom k' (set fs k false) n
from_more k k' n fs next less f = record {
  gone = λ i lt. elim (place i k) [
    | inl e ↦ rw e (get_or-set_same fs k false false (filled_within fs k (f.left k (omega arith) less)))
    | inr ne ↦ get_or-set_other fs k i false false ne ∙ f.gone i (let far : i < k = omega (arith, next, lt, ne) in far)
  ];
  left = λ i more lt. get_or-set_other fs k i false false (λ e. omega (arith, next, more, e)) ∙ f.left i (omega (arith, next, more)) lt;
}

-- The tape, the clock, the closing and the stop.
pub record AreRest (n : ℕ) (words : List ℕ) (slots : List Part) (p : Parts) : Type 0 where
  pub tape : get_elem? slots 0 ≡ some (part.Tape record { messages = p.tape.items; room = vec_capacity p.tape })
  pub clock : p.clock ≡ slice_index words 1
  pub closing : p.closing ≡ (slice_index words 2 == 1)
  pub raised : p.raised ≡ not (slice_index words (4 * n + 4) == 0)
  pub played : p.played ≡ length (played_of (routes_in p.fixed) p.tape.items)

pub same_part : (slots : List Part) (k : ℕ) (a b : Part) → get_elem? slots k ≡ some a → get_elem? slots k ≡ some b → a ≡ b
same_part slots k a b p q = some-injective a b (sym p ∙ q)

same_routine : (a b : RoutineView) → some (part.Routine a) ≡ some (part.Routine b) → a ≡ b
same_routine a b e = ap (routine_or a) (some-injective (part.Routine a) (part.Routine b) e)

same_visitor : (a b : VisitorView) → some (part.Visitor a) ≡ some (part.Visitor b) → a ≡ b
same_visitor a b e = ap (visitor_or a) (some-injective (part.Visitor a) (part.Visitor b) e)

pub same_tape : (a b : TapeView) → some (part.Tape a) ≡ some (part.Tape b) → a ≡ b
same_tape a b e = ap (tape_or a) (some-injective (part.Tape a) (part.Tape b) e)

yes_is : (b : Bool) → (yes_or_no b == 1) ≡ b
yes_is false = refl
yes_is true = refl

-- What stands in the stop word tells whether the stop is raised.
named_some : (stop : Option Stop) → (named_by stop == 0) ≡ false
named_some None = refl
named_some (Some s) = elim (eqb_tells (s.component + 1) 0) [ inl h ↦ absurd (omega (arith, h.1)) | inr h ↦ h.0 ]

raised_is : (stop : Option Stop) (b : Bool) → not (stop_number stop b == 0) ≡ b
raised_is stop false = refl
raised_is stop true = ap not (named_some stop)

read_past : {X Y : Type 0} (g : X → Y) (d : Y) (xs : List X) (i : ℕ) → length xs ≤ i → read g d xs i ≡ d
unfolding read
read_past g d [] i le = refl
read_past g d (x ∷ xs) zero le = absurd (omega (arith, le))
read_past g d (x ∷ xs) (suc i) le = read_past g d xs i (omega (arith, le))

seen_in : (calls : ℕ → List Call) (c : ℕ) (xs : List SeenCalls) → AreSeen calls xs → HasSeen c (calls c) xs
seen_in calls c [] all = tt
seen_in calls c (x ∷ xs) all = ((λ e. subst (λ k. take (length x.calls) (calls k) ≡ x.calls) e all.0), seen_in calls c xs all.1)

pub few_played : (routes : List Route) (tape : List Token) → length (played_of routes tape) ≤ length tape
few_played routes tape = fewer (λ (t : Token). not (Rattle.std.proofs.Common.is_some (Rattle.wake_core.specs.Run.writes_from 0 routes t.channel))) tape
  where
    fewer : {X : Type 0} (test : X → Bool) (xs : List X) → length (filter test xs) ≤ length xs
    fewer test [] = omega arith
    fewer test (x ∷ xs) = go (test x) (fewer test xs)
      where
        go : (b : Bool) → length (filter test xs) ≤ length xs → length (cond b (x ∷ filter test xs) (filter test xs)) ≤ suc (length xs)
        go true l = omega (arith, l)
        go false l = omega (arith, l)

module _ {made : Plain} {v : Sight} {words : List ℕ} {slots : List Part} (e : Ends made v words slots) (p : Parts)
    (taken : TakenOut words slots (length made.routes) p.routines p.visitors p.spent) (rest : AreRest (length made.routes) words slots p) (fr : routes_in p.fixed ≡ made.routes) (fc : counts_in p.fixed ≡ made.counts) (fs : stop_in p.fixed ≡ made.stop) where
  inside : (c : ℕ) → c < length e.world.routes → c < length made.routes
  inside c less = omega (arith, less, ap length e.components)

  its_routine : (c : ℕ) → c < length e.world.routes → routine_in p c ≡ routine_at e.rooms e.world c
  its_routine c less = same_routine (routine_in p c) (routine_at e.rooms e.world c) (sym (taken.routine c (inside c less)) ∙ e.slots_are.routine c less)

  its_visitor : (c : ℕ) → c < length e.world.routes → read (λ v. v) no_visitor p.visitors c ≡ visitor_at e.rooms e.world c
  its_visitor c less = same_visitor (read (λ v. v) no_visitor p.visitors c) (visitor_at e.rooms e.world c) (sym (taken.visitor c (inside c less)) ∙ e.slots_are.visitor c less)

  its_tape : record { messages = p.tape.items; room = vec_capacity p.tape } ≡ tape_at e.rooms e.world
  its_tape = same_tape record { messages = p.tape.items; room = vec_capacity p.tape } (tape_at e.rooms e.world) (sym rest.tape ∙ e.slots_are.tape)

  tape_same : p.tape.items ≡ e.world.tape
  tape_same = ap (λ (t : TapeView). t.messages) its_tape

  clock_same : p.clock ≡ e.world.clock
  clock_same = rest.clock ∙ e.words_are.clock_is

  closing_same : p.closing ≡ e.world.closing
  closing_same = rest.closing ∙ ap (λ n. n == 1) e.words_are.closing_is ∙ yes_is e.world.closing

  raised_same : p.raised ≡ e.world.raised
  raised_same = rest.raised ∙ ap (λ (l : List Route). not (slice_index words (4 * length l + 4) == 0)) (sym e.components)
      ∙ ap (λ n. not (n == 0)) e.words_are.stop_is ∙ raised_is e.world.stop e.world.raised

  routes_same : routes_in p.fixed ≡ e.world.routes
  routes_same = fr ∙ sym e.components

  counts_same : counts_in p.fixed ≡ e.world.counts
  counts_same = fc ∙ sym e.planned

  stop_same : stop_in p.fixed ≡ e.world.stop
  stop_same = fs ∙ sym e.given

  -- The world at rest, with what the parts say of each component.
  abbrev mended : Plain
  mended = record (at_rest e.world) { states = (shown_by p).states; spent = (shown_by p).spent; cursors = (shown_by p).cursors; calls = (shown_by p).calls; arrivals = (shown_by p).arrivals }

  same : shown_by p ≡ mended
  unfolding shown_by
  same =
      ap (λ (l : List Route). record (shown_by p) { routes = l }) routes_same
      ∙ ap (λ (l : List ℕ). record (shown_by p) { routes = e.world.routes; counts = l }) counts_same
      ∙ ap (λ (l : List Token). record (shown_by p) { routes = e.world.routes; counts = e.world.counts; tape = l }) tape_same
      ∙ ap (λ (n : ℕ). record (shown_by p) { routes = e.world.routes; counts = e.world.counts; tape = e.world.tape; clock = n }) clock_same
      ∙ ap (λ (b : Bool). record (shown_by p) { routes = e.world.routes; counts = e.world.counts; tape = e.world.tape; clock = e.world.clock; closing = b }) closing_same
      ∙ ap (λ (b : Bool). record (shown_by p) { routes = e.world.routes; counts = e.world.counts; tape = e.world.tape; clock = e.world.clock; closing = e.world.closing; raised = b }) raised_same
      ∙ ap (λ (o : Option Stop). record (shown_by p) { routes = e.world.routes; counts = e.world.counts; tape = e.world.tape; clock = e.world.clock; closing = e.world.closing; raised = e.world.raised; stop = o }) stop_same

  agrees : AgreesWithin (at_rest e.world) (shown_by p)
  unfolding shown_by
  agrees = record {
    same = same;
    states = λ c less. read_of (λ (r : RoutineView). r.state) no_routine p.routines c ∙ ap (λ (r : RoutineView). r.state) (its_routine c less);
    spent = λ c less. taken.flag c (inside c less) ∙ ap (λ n. n == 1) (e.words_are.flag c less) ∙ yes_is (e.world.spent c);
    cursors = λ c less. let x = some_route e.world.routes c less in ap (λ (r : RoutineView). cursor_after r.calls) (its_routine c less) ∙ sym (e.sound.consistent.called.cursor c x.0 x.1);
    calls = λ c less. ap (λ (r : RoutineView). r.calls) (its_routine c less);
    arrivals = λ c less. read_of (λ (y : VisitorView). y.arrivals) no_visitor p.visitors c ∙ ap (λ (y : VisitorView). y.arrivals) (its_visitor c less);
  }

  bare : SaysNothing (length e.world.routes) (shown_by p)
  unfolding shown_by
  bare = record {
    states = λ c past. read_past (λ (r : RoutineView). r.state) Ready p.routines c (omega (arith, past, taken.routines_many, ap length e.components));
    arrivals = λ c past. read_past (λ (y : VisitorView). y.arrivals) [] p.visitors c (omega (arith, past, taken.visitors_many, ap length e.components));
  }

  pub replaced : Replaces e.world (shown_by p)
  replaced = record { idle = e.idle; same = agrees; nothing = bare }

  sound_of : ThreadLaws → OutsideLaws → Sound (shown_by p)
  sound_of threads outside = outside.sound (at_rest e.world) (shown_by p) agrees bare
      (threads.replaced e.world (at_rest e.world) e.idle (λ j. record { hand = refl; owes = record { filled = refl; looked = refl; cleared = refl } }) refl e.sound)

  -- An unsent output has the number behind those that were sent.
  waits_as : UnsentLaws → (c : ℕ) (x : Route) → slice_get e.world.routes c ≡ Some x → unsent_of e.world c ≡ option_map (output x.out (taped_of e.world.routes e.world.tape c + 1)) (pending_at e.world c)
  waits_as law c x at = by (unsent_of e.world c) refl
    where
      numbered : (t : Token) → unsent_of e.world c ≡ Some t → t ≡ output x.out (taped_of e.world.routes e.world.tape c + 1) (out_in t)
      numbered t is =
          let u = law.next e.world c t is in
          let own : u.route.out ≡ x.out = ap (λ (o : Option Route). option_map_or (λ (y : Route). y.out) o 0) (sym u.at ∙ at) in
          let behind : length (on_channel u.route.out e.world.tape) ≡ taped_of e.world.routes e.world.tape c =
          ap (λ (o : Option Route). length (option_map_or (λ (y : Route). on_channel y.out e.world.tape) o [])) (sym u.at) in
          ap₂ (λ (m : ℕ) (n : ℕ). output m n (out_in t)) (u.its ∙ own) (u.number ∙ ap (λ n. n + 1) behind)

      by : (o : Option Token) → unsent_of e.world c ≡ o → o ≡ option_map (output x.out (taped_of e.world.routes e.world.tape c + 1)) (option_map out_in o)
      by None is = refl
      by (Some t) is = ap Some (numbered t is)

  its_routines : UnsentLaws → (c : ℕ) → c < length e.world.routes → IsRoutineOf c mended (routine_in p c)
  unfolding shown_by
  its_routines law c less =
      let is = its_routine c less in
      record {
        kind = λ x at. ap (λ (r : RoutineView). r.kind) is ∙ ap (λ (o : Option Route). option_map_or (λ (y : Route). y.kind) o Pass) at;
        state = sym (read_of (λ (r : RoutineView). r.state) no_routine p.routines c);
        calls = refl;
        pending = λ x at.
            let calls : (routine_in p c).calls ≡ e.world.calls c = ap (λ (r : RoutineView). r.calls) is in
            let outs_same : option_map_or (λ (y : Route). outs y.out (routine_in p c).calls) (slice_get e.world.routes c) [] ≡ option_map_or (λ (y : Route). outs y.out (e.world.calls c)) (slice_get e.world.routes c) [] =
            ap (λ (cs : List Call). option_map_or (λ (y : Route). outs y.out cs) (slice_get e.world.routes c) []) calls in
            ap (λ (l : List Token). slice_get l (taped_of e.world.routes e.world.tape c)) outs_same ∙ waits_as law c x at
            ∙ ap (option_map (output x.out (taped_of e.world.routes e.world.tape c + 1))) (sym (ap (λ (r : RoutineView). r.pending) is));
      }

  visited_as : IsVisited e.world.routes e.world.counts (read (λ v. v) no_visitor p.visitors)
  visited_as = record {
    queues = λ c x at. ap (λ (y : VisitorView). y.queue) (its_visitor c (within c x at)) ∙ ap (λ (o : Option Route). option_map_or (queue_of e.world.routes e.world.counts) o 1) at;
    roles = λ c x at. ap (λ (y : VisitorView). y.roles) (its_visitor c (within c x at)) ∙ ap (λ (o : Option Route). option_map_or (λ (y : Route). length y.readers) o 0) at;
    overflows = λ c x at. ap (λ (y : VisitorView). y.overflow) (its_visitor c (within c x at)) ∙ ap (λ (o : Option Route). option_map_or (λ (y : Route). y.overflow) o Newest) at;
  }
    where
      within : (c : ℕ) (x : Route) → slice_get e.world.routes c ≡ Some x → c < length e.world.routes
      within c x at = Rattle.std.proofs.lemmas.Option.slice_get_within e.world.routes c x at

  roomy_as : IsRoomy e.world.routes e.world.counts (read (λ v. v) no_visitor p.visitors) (routine_in p) (vec_capacity p.tape)
  roomy_as = record {
    arrivals = λ c x at. let is = its_visitor c (within c x at) in let all = e.roomy.arrivals c x at in
        subst (λ (y : VisitorView). sum (map (planned_count e.world.routes e.world.counts) x.readers) ≤ length y.arrivals + y.spare) (sym is) (omega (arith, all));
    calls = λ c x at. let is = its_routine c (within c x at) in let all = e.roomy.calls c x at in
        subst (λ (r : RoutineView). planned_count e.world.routes e.world.counts (first_reader x) ≤ length r.calls + r.spare) (sym is) (omega (arith, all));
    messages = let all = e.roomy.tape in omega (arith, all, ap (λ (t : TapeView). t.room) its_tape);
  }
    where
      within : (c : ℕ) (x : Route) → slice_get e.world.routes c ≡ Some x → c < length e.world.routes
      within c x at = Rattle.std.proofs.lemmas.Option.slice_get_within e.world.routes c x at

  pub parts_fit : ThreadLaws → OutsideLaws → UnsentLaws → AreFit p
  unfolding shown_by
  parts_fit threads outside unsent = record {
    routines_fit = taken.routines_many ∙ sym (ap length fr);
    visitors_fit = taken.visitors_many ∙ sym (ap length fr);
    spent_fit = taken.spent_many ∙ sym (ap length fr);
    routines = λ c less. subst (λ (u : Plain). IsRoutineOf c u (routine_in p c)) (sym same) (its_routines unsent c (omega (arith, less, ap length routes_same)));
    visited = subst (λ (l : List Route). IsVisited l (counts_in p.fixed) (read (λ v. v) no_visitor p.visitors)) (sym routes_same)
        (subst (λ (l : List ℕ). IsVisited e.world.routes l (read (λ v. v) no_visitor p.visitors)) (sym counts_same) visited_as);
    played = rest.played;
    roomy = subst (λ (l : List Route). IsRoomy l (counts_in p.fixed) (read (λ v. v) no_visitor p.visitors) (routine_in p) (vec_capacity p.tape)) (sym routes_same)
        (subst (λ (l : List ℕ). IsRoomy e.world.routes l (read (λ v. v) no_visitor p.visitors) (routine_in p) (vec_capacity p.tape)) (sym counts_same) roomy_as);
    sound = sound_of threads outside;
  }

  pub calls_seen : (c : ℕ) → c < length (shown_by p).routes → HasSeen c ((shown_by p).calls c) v.seat.seen
  unfolding shown_by
  calls_seen c less = subst (λ (l : List Call). HasSeen c l v.seat.seen) (sym (ap (λ (r : RoutineView). r.calls) (its_routine c (omega (arith, less, ap length routes_same))))) (seen_in e.world.calls c v.seat.seen e.knows.calls)

  pub played_left : played_of (shown_by p).routes (shown_by p).tape ≡ v.seat.played
  unfolding shown_by
  played_left = ap₂ played_of routes_same tape_same ∙ sym (e.knows.player refl).0

  pub clock_left : (shown_by p).clock ≡ v.seat.clock
  unfolding shown_by
  clock_left = clock_same ∙ sym (e.knows.player refl).1

  pub closing_left : (shown_by p).closing ≡ v.seat.closing
  unfolding shown_by
  closing_left = closing_same ∙ sym (e.knows.player refl).2

  pub raised_left : (shown_by p).raised ≡ v.seat.raised
  unfolding shown_by
  raised_left = raised_same ∙ sym (e.knows.player refl).3
