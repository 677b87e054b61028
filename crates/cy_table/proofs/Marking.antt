-- A way with one step more, what was so on it, and the rule after a step.
use Rattle.std.proofs.Common.{ℕ, zero, suc, ◌+◌, ◌≡◌, ◌≢◌, ◌≤◌, ◌<◌, ◌⊎◌, refl, sym, ◌∙◌, ap, subst, ⊎_elim, inl, inr, List, [], ◌∷◌, ◌++◌, length, map, set, slice_index, max, append-nil, length-append, arith}
use Rattle.std.proofs.Math.Nat.{max-le, le-max_left}
use Rattle.std.proofs.lemmas.List.{append_assoc, map-set}
use mathlib.Core.Option.{some}
use lib.ListN.{get_elem?}
use Rattle.atomic_table.specs.Table.{State as Table, Me, Act, Allows, Valid, stepped, carried_after}
use Rattle.atomic_table.proofs.Lists.{at_set, at_map}
use Rattle.wake_core.specs.Run.{set_at}
use Rattle.wake_core.specs.Plain.{Plain}
use Rattle.wake_core.specs.Laws.{Event, Events}
use Rattle.wake_core.specs.Laws.Event.{acquire, spend, ready, check, stop, ask, fetch, tape, send, fill, look, clear, yield_as, release, tick, close}
use Rattle.wake_core.specs.Laws.Events.{none, more}
use Rattle.cy_table.specs.declared.part.Part.{Part}
use Rattle.cy_table.specs.Deeds.{Deed, Did, numbers_of, deeds_of}
use Rattle.cy_table.specs.Seats.{Seat, Sight, Noted, Entry, Rise}
use Rattle.cy_table.specs.Deeds as deed
use Rattle.cy_table.specs.Shown.{Rooms}
use Rattle.cy_table.specs.Rule.{Rules, Ruled, IsSo, Makes, Moves, Way, AreSo, IsDone, AreDone, WereSo, AllWereSo, IsMarked, seats_of}
use Rattle.cy_table.specs.Plays.{Thread}
use Rattle.cy_table.specs.Sights.{Since, thread_in, staying, uniting}
use Rattle.cy_table.proofs.Places.{place, there, other}

-- Numbers that rise.
pub below : (k high : ℕ) (ks : List ℕ) → Rise k high ks → k ≤ high
below k high [] r = r
below k high (j ∷ ks) r = omega (arith, r.0, below j high ks r.1)

rise_from : (low mid high : ℕ) (ks : List ℕ) → low ≤ mid → Rise mid high ks → Rise low high ks
rise_from low mid high [] less r = omega (arith, less, r)
rise_from low mid high (k ∷ ks) less r = (omega (arith, less, r.0), r.1)

pub rise_on : (low mid high : ℕ) (js ks : List ℕ) → Rise low mid js → Rise mid high ks → Rise low high (js ++ ks)
rise_on low mid high [] ks r q = rise_from low mid high ks r q
rise_on low mid high (j ∷ js) ks r q = (r.0, rise_on j mid high js ks r.1 q)

rise_to : (low mid high : ℕ) (ks : List ℕ) → Rise low mid ks → mid ≤ high → Rise low high ks
rise_to low mid high [] r less = omega (arith, r, less)
rise_to low mid high (k ∷ ks) r less = (r.0, rise_to k mid high ks r.1 less)

-- Deeds behind others.
pub numbers_both : (xs ys : List Did) → numbers_of (xs ++ ys) ≡ numbers_of xs ++ numbers_of ys
numbers_both [] ys = refl
numbers_both (x ∷ xs) ys = ap (λ l. x.number ∷ l) (numbers_both xs ys)

deeds_both : (xs ys : List Did) → deeds_of (xs ++ ys) ≡ deeds_of xs ++ deeds_of ys
deeds_both [] ys = refl
deeds_both (x ∷ xs) ys = ap (λ l. x.deed ∷ l) (deeds_both xs ys)

ordered_on : (low mid high : ℕ) (xs ys : List Did) → Rise low mid (numbers_of xs) → Rise mid high (numbers_of ys) → Rise low high (numbers_of (xs ++ ys))
ordered_on low mid high xs ys r q = subst (Rise low high) (sym (numbers_both xs ys)) (rise_on low mid high (numbers_of xs) (numbers_of ys) r q)

-- From one sight to a later one, and on to another.
pub since_on : (ds es : List Deed) (v u w : Sight) → Since ds v u → Since es u w → Since (ds ++ es) v w
unfolding Since
since_on ds es v u w a b = record {
  entries = a.entries ++ b.entries;
  marks = a.marks ++ b.marks;
  each = length-append a.marks b.marks ∙ (λ i. a.each i + b.each i) ∙ sym (length-append a.entries b.entries);
  note = b.note ∙ ap (λ l. l ++ b.entries) a.note ∙ append_assoc v.seat.note a.entries b.entries;
  marked = b.marked ∙ ap (λ l. l ++ b.marks) a.marked ∙ append_assoc v.marks a.marks b.marks;
  rising = rise_on v.last u.last w.last a.marks b.marks a.rising b.rising;
  done = a.done ++ b.done;
  did = b.did ∙ ap (λ l. l ++ b.done) a.did ∙ append_assoc v.deeds a.done b.done;
  which = deeds_both a.done b.done ∙ (λ i. a.which i ++ b.which i);
  ordered = ordered_on v.last u.last w.last a.done b.done a.ordered b.ordered;
  handed = b.handed ∙ a.handed;
}

pub since_still : (v : Sight) → Since [] v v
unfolding Since
since_still v = record {
  entries = [];
  marks = [];
  each = refl;
  note = sym (append-nil v.seat.note);
  marked = sym (append-nil v.marks);
  rising = omega arith;
  done = [];
  did = sym (append-nil v.deeds);
  which = refl;
  ordered = omega arith;
  handed = refl;
}

pub since_is : (ds : List Deed) (v u w : Sight) → Since ds v u → w ≡ u → Since ds v w
since_is ds v u w since is = subst (Since ds v) (sym is) since

-- .. by the same deeds, said in another way.
pub since_as : (ds es : List Deed) (v u : Sight) → ds ≡ es → Since ds v u → Since es v u
since_as ds es v u same since = subst (λ l. Since l v u) same since

pub since_split : (v : Sight) → Since [] v (staying v)
unfolding Since
since_split v = record {
  entries = [];
  marks = [];
  each = refl;
  note = sym (append-nil v.seat.note);
  marked = sym (append-nil v.marks);
  rising = omega arith;
  done = [];
  did = sym (append-nil v.deeds);
  which = refl;
  ordered = omega arith;
  handed = refl;
}

-- A way with one step more.
pub moved : {w w' v v' : Plain} → w ≡ w' → v ≡ v' → Moves w v → Moves w' v'
moved a b m = subst (λ (x : Plain × Plain). Moves x.0 x.1) (λ i. (a i, b i)) m

module _ {from to : Plain} (way : Way from to) (next : Plain) where
  pub as_before : (k : ℕ) → k ≤ way.steps → set_at (way.steps + 1) next way.at k ≡ way.at k
  as_before k less = other (way.steps + 1) next way.at k (λ e. omega (arith, e, less))

  abbrev pub onward : Moves to next → Way from next
  onward m = record {
    at = set_at (way.steps + 1) next way.at;
    steps = way.steps + 1;
    starts = as_before 0 (omega arith) ∙ way.starts;
    ends = there (way.steps + 1) next way.at (way.steps + 1) refl;
    each = λ k less. elim (place k way.steps) [
      | inl e ↦ moved (sym (as_before k (omega (arith, e)) ∙ (ap way.at e ∙ way.ends))) (sym (there (way.steps + 1) next way.at (k + 1) (ap (λ n. n + 1) e))) m
      | inr ne ↦ let lt : k < way.steps = omega (arith, less, ne) in moved (sym (as_before k (omega (arith, lt)))) (sym (as_before (k + 1) (omega (arith, lt)))) (way.each k lt)
    ];
  }

  so_then : (low high : ℕ) (xs : List Entry) (ks : List ℕ) → Rise low high ks → high ≤ way.steps → AreSo way.at xs ks → AreSo (set_at (way.steps + 1) next way.at) xs ks
  so_then low high [] [] r less so = tt
  so_then low high [] (k ∷ ks) r less so = absurd so
  so_then low high (x ∷ xs) [] r less so = absurd so
  so_then low high (x ∷ xs) (k ∷ ks) r less so =
      let le = below k high ks r.1 in
      (subst (λ (w : Plain). IsSo w x) (sym (as_before k (omega (arith, le, less)))) so.0, so_then k high xs ks r.1 less so.1)

  one_then : (id : ℕ) (d : Did) → d.number ≤ way.steps → IsDone way.at id d → IsDone (set_at (way.steps + 1) next way.at) id d
  one_then id d less is = record {
    before = is.before;
    next = is.next;
    makes =
        let e = is.next in
        subst (λ (x : Plain × Plain). Makes id d.deed x.0 x.1) (λ i. (sym (as_before is.before (omega (arith, e, less))) i, sym (as_before d.number less) i)) is.makes;
  }

  done_then : (id low high : ℕ) (ds : List Did) → Rise low high (numbers_of ds) → high ≤ way.steps → AreDone way.at id ds → AreDone (set_at (way.steps + 1) next way.at) id ds
  done_then id low high [] r less is = tt
  done_then id low high (d ∷ ds) r less is =
      let le = below d.number high (numbers_of ds) r.1 in
      (one_then id d (omega (arith, le, less)) is.0, done_then id d.number high ds r.1 less is.1)

  were_then : (id last high : ℕ) (xs : List Entry) (ks : List ℕ) (ds : List Did) → last ≤ way.steps → last ≤ high → WereSo way.at id last xs ks ds → WereSo (set_at (way.steps + 1) next way.at) id high xs ks ds
  were_then id last high xs ks ds less up so = record {
    rising = rise_to 0 last high ks so.rising up;
    so = so_then 0 last xs ks so.rising less so.so;
    ordered = rise_to 0 last high (numbers_of ds) so.ordered up;
    done = done_then id 0 last ds so.ordered less so.done;
  }

  all_then : (ns : List Noted) → AllWereSo way.at way.steps ns → AllWereSo (set_at (way.steps + 1) next way.at) (way.steps + 1) ns
  all_then [] so = tt
  all_then (n ∷ ns) so = (record { thread = so.0.thread; were = were_then so.0.thread way.steps (way.steps + 1) n.entries n.marks n.deeds (omega arith) (omega arith) so.0.were }, all_then ns so.1)

  marked_then : (m : Moves to next) (id : ℕ) (v : Sight) → IsMarked way id v → IsMarked (onward m) id v
  marked_then m id v is = record {
    last = let l = is.last in omega (arith, l);
    own = were_then id v.last v.last v.seat.note v.marks v.deeds is.last (omega arith) is.own;
    others = all_then v.handed is.others;
  }

-- Events lead along a way.
pub and_then : {w m v : Plain} → Events w m → Event m v → Events w v
and_then none e = more e none
and_then (more first rest) e = more first (and_then rest e)

along : (at : ℕ → Plain) (n : ℕ) → ((k : ℕ) → k < n → Moves (at k) (at (k + 1))) → Events (at 0) (at n)
along at zero each = none
along at (suc n) each =
    let before = along at n (λ k less. each k (omega (arith, less))) in
    let next : n + 1 ≡ suc n = omega arith in
    subst (λ k. Events (at 0) (at k)) next (⊎_elim
    (λ (same : at (n + 1) ≡ at n). subst (Events (at 0)) (sym same) before)
    (λ (e : Event (at n) (at (n + 1))). and_then before e)
    (each n (omega arith)))

pub reached : {from to : Plain} → Way from to → Events from to
reached {from} {to} way = subst (λ (x : Plain × Plain). Events x.0 x.1) (λ i. (way.starts i, way.ends i)) (along way.at way.steps way.each)

-- The table shows a world for the components, the counts and the stop of another.
pub record ShowsFor (made : Plain) (s : Table Part Seat) : Type 0 where
  pub world : Plain
  pub rooms : Rooms
  pub components : world.routes ≡ made.routes
  pub planned : world.counts ≡ made.counts
  pub stop : world.stop ≡ made.stop
  pub rules : Rules rooms world s

-- What a step left: an event led on, or none; and its seat noted nothing, or what is so then.
abbrev pub NotesOne : Plain → (v v' : Seat) → Type 0
NotesOne w v v' = (v'.note ≡ v.note) ⊎ ((x : Entry) × (v'.note ≡ v.note ++ x ∷ []) × IsSo w x)

-- Nothing, or one deed of a thread, led from one world to another.
abbrev pub Led : (id : ℕ) → List Deed → Plain → Plain → Type 0
Led id [] w v = v ≡ w
Led id (d ∷ []) w v = Makes id d w v
Led id (d ∷ e ∷ rest) w v = ⊥

event_of : (id : ℕ) (d : Deed) (w v : Plain) → Makes id d w v → Event w v
event_of id (deed.Acquire c) w v e = acquire e
event_of id (deed.Spend c seen) w v e = spend e
event_of id (deed.Ready c) w v e = ready e
event_of id (deed.Check c) w v e = check e
event_of id (deed.Ask c) w v e = ask e
event_of id (deed.Fetch c) w v e = fetch e
event_of id (deed.Tape token) w v e = tape e
event_of id (deed.Send c next token) w v e = send e
event_of id (deed.Fill c role) w v e = fill e
event_of id (deed.Look c) w v e = look e
event_of id (deed.Clear c) w v e = clear e
event_of id (deed.Yield c state) w v e = yield_as e
event_of id (deed.Release c) w v e = release e
event_of id (deed.Tick time) w v e = tick e
event_of id deed.Close w v e = close e
event_of id deed.Stop w v e = stop e

moves_by : (id : ℕ) (ds : List Deed) (w v : Plain) → Led id ds w v → Moves w v
moves_by id [] w v led = inl led
moves_by id (d ∷ []) w v led = inr (event_of id d w v led)
moves_by id (d ∷ e ∷ rest) w v led = absurd led

pub record Leaves (r : Rooms) (id : ℕ) (ds : List Deed) (w : Plain) (v v' : Seat) (s' : Table Part Seat) : Type 0 where
  pub world : Plain
  pub routes : world.routes ≡ w.routes
  pub counts : world.counts ≡ w.counts
  pub stop : world.stop ≡ w.stop
  pub led : Led id ds w world
  pub notes : NotesOne world v v'
  pub rules : Rules r world s'

pub leaves_as : {r : Rooms} {id : ℕ} {ds es : List Deed} {w : Plain} {v v' : Seat} {s' : Table Part Seat} → ds ≡ es → Leaves r id ds w v v' s' → Leaves r id es w v v' s'
leaves_as {r} {id} {ds} {es} {w} {v} {v'} {s'} same l = subst (λ (xs : List Deed). Leaves r id xs w v v' s') same l

pub record Plays (made : Plain) (slots id : ℕ) (m : Thread) (i : ℕ) (f : ℕ → ℕ) (tells : ℕ → Thread → Type 0) (does : ℕ → Thread → List Deed) : Type 0 where
  pub each : (s : Table Part Seat) → (k : ShowsFor made s) → length s.homes ≡ slots → get_elem? s.views id ≡ some m.0 → slice_index s.words i < 18446744073709551616
      → (v' : Seat) × (a : Act Part) × Valid s.homes m.1 a × Leaves k.rooms id (does (slice_index s.words i) (v', carried_after m.1 a)) k.world m.0 v' (stepped s i (f (slice_index s.words i)) id m.1 v' a) × tells (slice_index s.words i) (v', carried_after m.1 a)

-- What a step added to the note, by the number of the step.
record Added (w : Plain) (v v' : Seat) (n : ℕ) : Type 0 where
  pub entries : List Entry
  pub marks : List ℕ
  pub each : length marks ≡ length entries
  pub note : v'.note ≡ v.note ++ entries
  pub rising : (low : ℕ) → low < n → Rise low n marks
  pub so : (at : ℕ → Plain) → at n ≡ w → AreSo at entries marks

added : (w : Plain) (v v' : Seat) (n : ℕ) → NotesOne w v v' → Added w v v' n
added w v v' n (inl same) = record {
  entries = [];
  marks = [];
  each = refl;
  note = same ∙ sym (append-nil v.note);
  rising = λ low less. omega (arith, less);
  so = λ at e. tt;
}
added w v v' n (inr one) = record {
  entries = one.0 ∷ [];
  marks = n ∷ [];
  each = refl;
  note = one.1;
  rising = λ low less. (less, omega arith);
  so = λ at e. (subst (λ (u : Plain). IsSo u one.0) (sym e) one.2, tt);
}

-- .. and what it did, by that number.
abbrev numbered : ℕ → List Deed → List Did
numbered n [] = []
numbered n (d ∷ rest) = record { number = n; deed = d } ∷ numbered n rest

which_are : (n : ℕ) (ds : List Deed) → deeds_of (numbered n ds) ≡ ds
which_are n [] = refl
which_are n (d ∷ rest) = ap (λ l. d ∷ l) (which_are n rest)

ordered_here : (id low n : ℕ) (ds : List Deed) (w v : Plain) → Led id ds w v → low < n → Rise low n (numbers_of (numbered n ds))
ordered_here id low n [] w v led less = omega (arith, less)
ordered_here id low n (d ∷ []) w v led less = (less, omega arith)
ordered_here id low n (d ∷ e ∷ rest) w v led less = absurd led

done_here : (id b : ℕ) (ds : List Deed) (w v : Plain) (at : ℕ → Plain) → at b ≡ w → at (b + 1) ≡ v → Led id ds w v → AreDone at id (numbered (b + 1) ds)
done_here id b [] w v at from to led = tt
done_here id b (d ∷ []) w v at from to led = (record { before = b; next = refl; makes = subst (λ (x : Plain × Plain). Makes id d x.0 x.1) (λ i. (sym from i, sym to i)) led }, tt)
done_here id b (d ∷ e ∷ rest) w v at from to led = absurd led

done_both : (at : ℕ → Plain) (id : ℕ) (xs ys : List Did) → AreDone at id xs → AreDone at id ys → AreDone at id (xs ++ ys)
done_both at id [] ys a b = b
done_both at id (x ∷ xs) ys a b = (a.0, done_both at id xs ys a.1 b)

so_both : (at : ℕ → Plain) (xs ys : List Entry) (ks js : List ℕ) → AreSo at xs ks → AreSo at ys js → AreSo at (xs ++ ys) (ks ++ js)
so_both at [] ys [] js a b = b
so_both at [] ys (k ∷ ks) js a b = absurd a
so_both at (x ∷ xs) ys [] js a b = absurd a
so_both at (x ∷ xs) ys (k ∷ ks) js a b = (a.0, so_both at xs ys ks js a.1 b)

-- The sights of all threads, where one sight is another now.
pub all_marked : {from to : Plain} (way : Way from to) (views : List Sight) (id : ℕ) (v' : Sight) → ((j : ℕ) (u : Sight) → get_elem? views j ≡ some u → IsMarked way j u) → IsMarked way id v'
    → (j : ℕ) (u : Sight) → get_elem? (set views id v') j ≡ some u → IsMarked way j u
all_marked way views id v' all mine j u e = ⊎_elim
    (λ (z : (j ≡ id) × (v' ≡ u)). subst (λ (y : ℕ × Sight). IsMarked way y.0 y.1) (λ i. (sym z.0 i, z.1 i)) mine)
    (λ (z : (j ≢ id) × (get_elem? views j ≡ some u)). all j u z.1)
    (at_set views id j v' u e)

-- What was handed on, by one thread and another; and a sight with what another noted.
all_both : (at : ℕ → Plain) (last : ℕ) (xs ys : List Noted) → AllWereSo at last xs → AllWereSo at last ys → AllWereSo at last (xs ++ ys)
all_both at last [] ys a b = b
all_both at last (x ∷ xs) ys a b = (a.0, all_both at last xs ys a.1 b)

pub united : {from to : Plain} (way : Way from to) (id j : ℕ) (v o : Sight) → IsMarked way id v → IsMarked way j o → IsMarked way id (uniting v o)
united way id j v o is other = record {
  last = max-le is.last other.last;
  own = record {
    rising = rise_to 0 v.last (max v.last o.last) v.marks is.own.rising (le-max_left v.last o.last);
    so = is.own.so;
    ordered = rise_to 0 v.last (max v.last o.last) (numbers_of v.deeds) is.own.ordered (le-max_left v.last o.last);
    done = is.own.done;
  };
  others = (
    record {
      thread = j;
      were = record {
        rising = rise_to 0 o.last way.steps o.marks other.own.rising other.last;
        so = other.own.so;
        ordered = rise_to 0 o.last way.steps (numbers_of o.deeds) other.own.ordered other.last;
        done = other.own.done;
      };
    },
    all_both way.at way.steps o.handed v.handed other.others is.others,
  );
}

-- What a step may do by its law on the seats, it may do on the sights, with one number more.
abbrev pub shows_for : {made : Plain} {s : Table Part Sight} → Ruled made s → ShowsFor made (seats_of s)
shows_for k = record { world = k.world; rooms = k.rooms; components = k.components; planned = k.planned; stop = k.stop; rules = k.rules }

module _ {made : Plain} {s : Table Part Sight} (k : Ruled made s) (id : ℕ) (m : Me Part Sight) (at : get_elem? s.views id ≡ some m.0) (v' : Seat) {ds : List Deed} {s' : Table Part Seat} (l : Leaves k.rooms id ds k.world m.0.seat v' s') where
  abbrev its : Added l.world m.0.seat v' (k.way.steps + 1)
  its = added l.world m.0.seat v' (k.way.steps + 1) l.notes

  abbrev sight_then : Sight
  sight_then = record { seat = v'; last = k.way.steps + 1; marks = m.0.marks ++ its.marks; deeds = m.0.deeds ++ numbered (k.way.steps + 1) ds; handed = m.0.handed }

  abbrev moves : Moves k.world l.world
  moves = moves_by id ds k.world l.world l.led

  since : Since ds m.0 sight_then
  unfolding Since
  since = let le = (k.noted id m.0 at).last in record {
    entries = its.entries;
    marks = its.marks;
    each = its.each;
    note = its.note;
    marked = refl;
    rising = its.rising m.0.last (omega (arith, le));
    done = numbered (k.way.steps + 1) ds;
    did = refl;
    which = which_are (k.way.steps + 1) ds;
    ordered = ordered_here id m.0.last (k.way.steps + 1) ds k.world l.world l.led (omega (arith, le));
    handed = refl;
  }

  mine : IsMarked (onward k.way l.world moves) id sight_then
  mine =
      let old = marked_then k.way l.world moves id m.0 (k.noted id m.0 at) in
      let le = (k.noted id m.0 at).last in
      let now = numbered (k.way.steps + 1) ds in
      let way = onward k.way l.world moves in record {
        last = omega arith;
        own = record {
          rising = rise_on 0 m.0.last (k.way.steps + 1) m.0.marks its.marks old.own.rising (its.rising m.0.last (omega (arith, le)));
          so = subst (λ (xs : List Entry). AreSo way.at xs (m.0.marks ++ its.marks)) (sym its.note) (so_both way.at m.0.seat.note its.entries m.0.marks its.marks old.own.so (its.so way.at way.ends));
          ordered = ordered_on 0 m.0.last (k.way.steps + 1) m.0.deeds now old.own.ordered (ordered_here id m.0.last (k.way.steps + 1) ds k.world l.world l.led (omega (arith, le)));
          done = done_both way.at id m.0.deeds now old.own.done (done_here id k.way.steps ds k.world l.world way.at (as_before k.way l.world k.way.steps (omega arith) ∙ k.way.ends) way.ends l.led);
        };
        others = old.others;
      }

  ruled_then : (views : s'.views ≡ set (seats_of s).views id v') → Ruled made record { words = s'.words; homes = s'.homes; views = set s.views id sight_then }
  ruled_then views = record {
    world = l.world;
    rooms = k.rooms;
    components = l.routes ∙ k.components;
    planned = l.counts ∙ k.planned;
    stop = l.stop ∙ k.stop;
    way = onward k.way l.world moves;
    noted = all_marked (onward k.way l.world moves) s.views id sight_then (λ j u e. marked_then k.way l.world moves j u (k.noted j u e)) mine;
    rules = subst (λ (vs : List Seat). Rules k.rooms l.world record { words = s'.words; homes = s'.homes; views = vs }) (views ∙ sym (map-set (λ (v : Sight). v.seat) s.views id sight_then)) l.rules;
  }

pub allowed : {made : Plain} {slots id : ℕ} (m : Me Part Sight) {i : ℕ} {f : ℕ → ℕ} {tells : ℕ → Thread → Type 0} {does : ℕ → Thread → List Deed} → Plays made slots id (thread_in m) i f tells does
    → Allows (Ruled made) slots id m i f (λ found n. tells found (thread_in n) × Since (does found (thread_in n)) m.0 n.0 × (m.0.last < n.0.last))
allowed {id = id} m plays s k deep at bound =
    let p = plays.each (seats_of s) (shows_for k) deep (at_map (λ (v : Sight). v.seat) s.views id m.0 at) bound in
    let le = (k.noted id m.0 at).last in
    (sight_then k id m at p.0 p.3, p.1, p.2, ruled_then k id m at p.0 p.3 refl, (p.4, since k id m at p.0 p.3, omega (arith, le)))
