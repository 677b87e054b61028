-- What a world begins with.
use Rattle.std.proofs.Common.{ℕ, zero, suc, ◌+◌, ◌-◌, ◌*◌, ◌≡◌, ◌≤◌, ◌<◌, Bool, true, false, refl, sym, ◌∙◌, ap, subst, inl, inr, arith, Option, Some, None, List, [], ◌∷◌, ◌++◌, length, map, sum, replicate, slice_get, slice_index, drop, max, min, option_map, unwrap_or}
use Rattle.std.specs.Option.{option_map_or}
use mathlib.Core.Path.{fun_ext}
use Rattle.std.proofs.lemmas.List.{length-append, length-replicate, drop_all}
use Rattle.std.proofs.lemmas.Option.{slice_get-map}
use Rattle.cy_msg.specs.declared.token.Token.{Token}
use Rattle.cy_msg.specs.Tokens.{on_channel}
use Rattle.cy_msg.proofs.Lists.{get_snoc}
use Rattle.cy_fuse.specs.Fusion.{Arrival}
use Rattle.cy_fuse.specs.Visitor.{VisitorView, prepared}
use Rattle.cy_comp.specs.declared.plan.Plan.{Plan}
use Rattle.cy_comp.specs.declared.call.Call.{Call}
use Rattle.cy_comp.specs.Calls.{cursor_after, outs, output}
use Rattle.cy_comp.specs.Routine.{RoutineView, new_routine}
use Rattle.wake_core.specs.declared.found.Found.{Found}
use Rattle.wake_core.specs.declared.owed.Owed.{Owed}
use Rattle.wake_core.specs.Run.{Route, route_of, readers_of, played_of}
use Rattle.wake_core.specs.Planned.{planned, planned_count, counts_from, first_reader}
use Rattle.wake_core.specs.Plain.{Plain, Stop, Hand, hand, Phase, State, Ready, blank, opening_world}
use Rattle.wake_core.specs.Sound.{IsWired, Sound}
use Rattle.wake_core.specs.Fields.{read, no_visitor, no_routine, queue_of, IsVisited, IsRoomy}
use Rattle.wake_core.specs.private.Shown.{shown_calls, calls_at, fills_of, plain_at, IsFlagged, IsStepping, IsWaiting, IsOwing, AreOwing}
use Rattle.wake_core.specs.private.Opening.{first_visitor, first_routine, IsNothing, AreNothing}
use Rattle.wake_core.proofs.Runs.{opening_sound}
use Rattle.wake_core.proofs.Counting.{sum_first}

-- Lists of equal elements, and lists whose elements read as one value.
-- What is said of no value that is there is said of none alone.
pub none_alone : {X : Type 0} (P : Option X → Type 0) → ((x : X) → P (Some x) → ⊥) → (y : Option X) → P y → y ≡ None
none_alone P never None e = refl
none_alone P never (Some x) e = absurd (never x e)

pub read_each : {X Y : Type 0} (g : X → Y) (d : Y) (xs : List X) → ((i : ℕ) (x : X) → slice_get xs i ≡ Some x → g x ≡ d) → (k : ℕ) → read g d xs k ≡ d
unfolding read
read_each g d [] each k = refl
read_each g d (x ∷ xs) each zero = each 0 x refl
read_each g d (x ∷ xs) each (suc k) = read_each g d xs (λ i y at. each (suc i) y at) k

pub read_all : {X Y : Type 0} (g : X → Y) (d : Y) (xs : List X) → ((i : ℕ) (x : X) → slice_get xs i ≡ Some x → g x ≡ d) → read g d xs ≡ (λ k. d)
read_all g d xs each = fun_ext (λ k. read_each g d xs each k)

pub equal_at : {X : Type 0} (n i : ℕ) (x y : X) → slice_get (replicate n x) i ≡ Some y → y ≡ x
equal_at zero i x y e = cc
equal_at {X} (suc n) zero x y e = let same : x ≡ y = ap (λ (o : Option X). unwrap_or o x) e in sym same
equal_at (suc n) (suc i) x y e = equal_at n i x y e

pub read_equal : {X : Type 0} (d : X) (n : ℕ) → read (λ x. x) d (replicate n d) ≡ (λ k. d)
read_equal d n = read_all (λ x. x) d (replicate n d) (λ i x at. equal_at n i d x at)

pub read_within_equal : {X : Type 0} (d x : X) (n k : ℕ) → k < n → read (λ x. x) d (replicate n x) k ≡ x
unfolding read
read_within_equal d x zero k l = absurd (omega (arith, l))
read_within_equal d x (suc n) zero l = refl
read_within_equal d x (suc n) (suc k) l = read_within_equal d x n k (omega (arith, l))

pub read_made : {X Y : Type 0} (f : X → Y) (d : Y) (xs : List X) (k : ℕ) (x : X) → slice_get xs k ≡ Some x → read (λ y. y) d (map f xs) k ≡ f x
unfolding read
read_made f d [] k x at = cc
read_made {X} f d (y ∷ xs) zero x at = ap f (ap (λ (o : Option X). unwrap_or o y) at)
read_made f d (y ∷ xs) (suc k) x at = read_made f d xs k x at

pub read_beyond : {X Y : Type 0} (f : X → Y) (d : Y) (xs : List X) (k : ℕ) → slice_get xs k ≡ None → read (λ y. y) d (map f xs) k ≡ d
unfolding read
read_beyond f d [] k at = refl
read_beyond f d (y ∷ xs) zero at = cc
read_beyond f d (y ∷ xs) (suc k) at = read_beyond f d xs k at

pub made_each : {X Y Z : Type 0} (g : Y → Z) (f : X → Y) (d : Z) (xs : List X) → ((x : X) → g (f x) ≡ d) → (i : ℕ) (y : Y) → slice_get (map f xs) i ≡ Some y → g y ≡ d
made_each g f d [] all i y at = cc
made_each {X} {Y} g f d (x ∷ xs) all zero y at = ap g (sym (ap (λ (o : Option Y). unwrap_or o (f x)) at)) ∙ all x
made_each g f d (x ∷ xs) all (suc i) y at = made_each g f d xs all i y at

pub length_found : {n : ℕ} {found : List (Option Found)} → found ≡ replicate n None → length found ≡ n
length_found {n} {found} e = ap length e ∙ length-replicate n None

pub length_hands : {n : ℕ} {hands : List (Option Hand)} → hands ≡ replicate n None → length hands ≡ n
length_hands {n} {hands} e = ap length e ∙ length-replicate n None

-- A part of a sum is at most the whole.
pub sum_part : {X : Type 0} (f : X → ℕ) (xs : List X) (i : ℕ) (x : X) → slice_get xs i ≡ Some x → f x ≤ sum (map f xs)
sum_part f [] i x at = cc
sum_part {X} f (y ∷ xs) zero x at = let same : y ≡ x = ap (λ (o : Option X). unwrap_or o y) at in let all = sum_first (f y) (map f xs) in rw (sym same) (omega (arith, all))
sum_part f (y ∷ xs) (suc i) x at = let rest = sum_part f xs i x at in let all = sum_first (f y) (map f xs) in omega (arith, all, rest)

pub arrivals_limit : (routes : List Route) (counts : List ℕ) (c most : ℕ) (x : Route) → slice_get routes c ≡ Some x → planned routes counts ≤ most → sum (map (planned_count routes counts) x.readers) ≤ most
unfolding planned
arrivals_limit routes counts c most x at limited = let part = sum_part (λ (x : Route). sum (map (planned_count routes counts) x.readers)) routes c x at in omega (arith, part, limited)

-- The visitor and the routine that are made for a component.
pub visitor_is : (routes : List Route) (counts : List ℕ) (p : Plan) (readers : List ℕ) (queue triggers spare : ℕ) → readers ≡ p.readers → triggers ≡ planned_count routes counts (slice_index readers 0)
    → queue ≡ max 1 (min p.queue triggers) → spare ≡ sum (map (planned_count routes counts) readers) → prepared queue (length readers) p.overflow spare ≡ first_visitor routes counts (route_of p)
visitor_is routes counts p readers queue triggers spare r t q s =
    let queue_is : queue ≡ queue_of routes counts (route_of p) = q ∙ ap (λ n. max 1 (min p.queue n)) (t ∙ ap (λ (rs : List ℕ). planned_count routes counts (slice_index rs 0)) r) in
    ap (λ n. prepared n (length readers) p.overflow spare) queue_is
    ∙ ap (λ (rs : List ℕ). prepared (queue_of routes counts (route_of p)) (length rs) p.overflow spare) r
    ∙ ap (λ n. prepared (queue_of routes counts (route_of p)) (length p.readers) p.overflow n) (s ∙ ap (λ (rs : List ℕ). sum (map (planned_count routes counts) rs)) r)

pub routine_is : (routes : List Route) (counts : List ℕ) (p : Plan) (readers : List ℕ) (spare : ℕ) → readers ≡ p.readers → spare ≡ planned_count routes counts (slice_index readers 0) → new_routine p.kind spare ≡ first_routine routes counts (route_of p)
routine_is routes counts p readers spare r s = ap (new_routine p.kind) (s ∙ ap (λ (rs : List ℕ). planned_count routes counts (slice_index rs 0)) r)

-- A thread more that owes nothing.
pub nothing_added : (room count : ℕ) (owed : List Owed) (o : Owed) → AreNothing room count owed → IsNothing room o → AreNothing room (count + 1) (owed ++ o ∷ [])
nothing_added room count owed o h new = record {
  many = length-append owed (o ∷ []) ∙ ap (λ n. n + 1) h.many;
  each = λ p x at. elim (get_snoc owed o p x at) [
    | inl before ↦ h.each p x before
    | inr last ↦ subst (IsNothing room) last.1 new
  ];
}

pub nothing_owing : {routes : List Route} (o : Owed) → IsNothing (4 * length routes) o → IsOwing routes o
nothing_owing {routes} o h = record {
  fills = rw h.fills (omega arith);
  looked = rw h.looked (omega arith);
  news = rw (h.news, h.fills) (omega arith);
  clearing = rw (h.clearing, h.news, h.looked, h.fills) (omega arith);
  news_room = h.news_room;
  clearing_room = h.clearing_room;
}

-- Nobody holds a croutine, and none is to be stepped.
pub flags_begin : (size : ℕ) → IsFlagged size (read (λ b. b) true (replicate size false)) (read (λ h. h) None (replicate 65 None))
flags_begin size = record {
  free = λ c l e p f held. none_some c f (sym (ap (λ (hs : ℕ → Option Hand). hs p) (read_equal None 65)) ∙ held);
  taken = λ c l e free. false_true (sym (read_within_equal true false size c l) ∙ e);
}
  where
    none_some : (c : ℕ) (f : Phase) → None ≡ hand c f → ⊥
    none_some c f e = cc

    false_true : false ≡ true → ⊥
    false_true e = cc

pub stepping_begins : {hands : ℕ → Option Hand} (size : ℕ) → IsStepping hands (read (λ f. f) None (replicate size None))
stepping_begins size = record { stepped = λ c still. ap (λ (fs : ℕ → Option Found). fs c) (read_equal None size) }

pub waiting_begins : (routes : List Route) (counts : List ℕ) (size : ℕ) → IsWaiting routes (read (λ r. r) no_routine (map (first_routine routes counts) routes)) (read (λ f. f) None (replicate size None)) (read (λ n. n) 0 (replicate size 0)) []
unfolding outs
waiting_begins routes counts size = record {
  kinds = λ c x at. ap (λ (r : RoutineView). r.kind) (read_made (first_routine routes counts) no_routine routes c x at);
  counted = λ c. ap (λ (ns : ℕ → ℕ). ns c) (read_equal 0 size) ∙ by (slice_get routes c);
  unsent = λ c x at. ap (λ (r : RoutineView). slice_get (outs x.out r.calls) (read (λ n. n) 0 (replicate size 0) c)) (read_made (first_routine routes counts) no_routine routes c x at)
      ∙ nothing (read (λ n. n) 0 (replicate size 0) c)
      ∙ ap (λ (r : RoutineView). option_map (output x.out (read (λ n. n) 0 (replicate size 0) c + 1)) r.pending) (sym (read_made (first_routine routes counts) no_routine routes c x at));
  none_waits = λ c some. absurd (some (ap (λ (fs : ℕ → Option Found). fs c) (read_equal None size)));
  few = λ c x at. let is = ap (λ (ns : ℕ → ℕ). ns c) (read_equal 0 size) in omega (arith, is);
}
  where
    by : (o : Option Route) → 0 ≡ length (option_map_or (λ (x : Route). on_channel x.out []) o [])
    by None = refl
    by (Some x) = refl

    none : List Token
    none = []

    nothing : (n : ℕ) → slice_get none n ≡ None
    nothing zero = refl
    nothing (suc n) = refl

pub visited_begins : (routes : List Route) (counts : List ℕ) → IsVisited routes counts (read (λ v. v) no_visitor (map (first_visitor routes counts) routes))
visited_begins routes counts = record {
  queues = λ c x at. ap (λ (v : VisitorView). v.queue) (read_made (first_visitor routes counts) no_visitor routes c x at);
  roles = λ c x at. ap (λ (v : VisitorView). v.roles) (read_made (first_visitor routes counts) no_visitor routes c x at);
  overflows = λ c x at. ap (λ (v : VisitorView). v.overflow) (read_made (first_visitor routes counts) no_visitor routes c x at);
}

pub roomy_begins : (routes : List Route) (counts : List ℕ) (tape : ℕ) → counts_from routes counts 0 (length counts) ≤ tape
    → IsRoomy routes counts (read (λ v. v) no_visitor (map (first_visitor routes counts) routes)) (read (λ r. r) no_routine (map (first_routine routes counts) routes)) tape
roomy_begins routes counts tape room = record {
  arrivals = λ c x at. subst (λ (v : VisitorView). sum (map (planned_count routes counts) x.readers) ≤ length v.arrivals + v.spare) (sym (read_made (first_visitor routes counts) no_visitor routes c x at)) (omega arith);
  calls = λ c x at. subst (λ (r : RoutineView). planned_count routes counts (first_reader x) ≤ length r.calls + r.spare) (sym (read_made (first_routine routes counts) no_routine routes c x at)) (omega arith);
  messages = room;
}

-- The plain world of these parts.
abbrev made : List Route → List ℕ → Option Stop → (ℕ → State) → (ℕ → Bool) → (ℕ → List Call) → (ℕ → List Arrival) → (ℕ → Option Hand) → (ℕ → List (ℕ × ℕ)) → (ℕ → List ℕ) → (ℕ → List ℕ) → (ℕ → Token) → Plain
made routes counts stop st sp cs ar hs fs ns cl ts = record {
  routes = routes;
  counts = counts;
  stop = stop;
  states = st;
  spent = sp;
  cursors = λ c. cursor_after (cs c);
  calls = cs;
  arrivals = ar;
  hands = hs;
  fills = fs;
  news = ns;
  clearing = cl;
  tokens = ts;
  tape = [];
  clock = 0;
  closing = false;
  raised = false;
}

pub plain_begins : (routes : List Route) (counts : List ℕ) (stop : Option Stop) (size room : ℕ) (owed : List Owed) → AreNothing room 65 owed
    → plain_at routes counts stop (map (first_visitor routes counts) routes) (map (first_routine routes counts) routes) (replicate size None) (replicate size true) (replicate 65 None) owed [] 0 false false
    ≡ opening_world routes counts stop
plain_begins routes counts stop size room owed h =
    let routines = map (first_routine routes counts) routes in
    let visitors = map (first_visitor routes counts) routes in
    let st : read (λ r. r.state) Ready routines ≡ (λ k. Ready) = read_all (λ r. r.state) Ready routines (made_each (λ r. r.state) (first_routine routes counts) Ready routes (λ x. refl)) in
    let sp : read (λ b. b) true (replicate size true) ≡ (λ k. true) = read_equal true size in
    let cs : calls_at routines (replicate size None) ≡ (λ k. []) = fun_ext (λ k. ap (shown_calls (read (λ r. r) no_routine routines k)) (ap (λ (fs : ℕ → Option Found). fs k) (read_equal None size)) ∙ calls_none k) in
    let ar : read (λ v. v.arrivals) [] visitors ≡ (λ k. []) = read_all (λ v. v.arrivals) [] visitors (made_each (λ v. v.arrivals) (first_visitor routes counts) [] routes (λ x. refl)) in
    let hs : read (λ h. h) None (replicate 65 None) ≡ (λ k. None) = read_equal None 65 in
    let fs : read (fills_of routes) [] owed ≡ (λ k. []) = read_all (fills_of routes) [] owed (λ i o at. no_fills o (h.each i o at)) in
    let ns : read (λ o. drop o.looked o.news.items) [] owed ≡ (λ k. []) = read_all (λ o. drop o.looked o.news.items) [] owed (λ i o at. no_news o (h.each i o at)) in
    let cl : read (λ o. o.clearing.items) [] owed ≡ (λ k. []) = read_all (λ o. o.clearing.items) [] owed (λ i o at. (h.each i o at).clearing) in
    let ts : read (λ o. o.token) blank owed ≡ (λ k. blank) = read_all (λ o. o.token) blank owed (λ i o at. (h.each i o at).token) in
    ap (λ x. made routes counts stop x (read (λ b. b) true (replicate size true)) (calls_at routines (replicate size None)) (read (λ v. v.arrivals) [] visitors) (read (λ h. h) None (replicate 65 None)) (read (fills_of routes) [] owed) (read (λ o. drop o.looked o.news.items) [] owed) (read (λ o. o.clearing.items) [] owed) (read (λ o. o.token) blank owed)) st
    ∙ ap (λ x. made routes counts stop (λ k. Ready) x (calls_at routines (replicate size None)) (read (λ v. v.arrivals) [] visitors) (read (λ h. h) None (replicate 65 None)) (read (fills_of routes) [] owed) (read (λ o. drop o.looked o.news.items) [] owed) (read (λ o. o.clearing.items) [] owed) (read (λ o. o.token) blank owed)) sp
    ∙ ap (λ x. made routes counts stop (λ k. Ready) (λ k. true) x (read (λ v. v.arrivals) [] visitors) (read (λ h. h) None (replicate 65 None)) (read (fills_of routes) [] owed) (read (λ o. drop o.looked o.news.items) [] owed) (read (λ o. o.clearing.items) [] owed) (read (λ o. o.token) blank owed)) cs
    ∙ ap (λ x. made routes counts stop (λ k. Ready) (λ k. true) (λ k. []) x (read (λ h. h) None (replicate 65 None)) (read (fills_of routes) [] owed) (read (λ o. drop o.looked o.news.items) [] owed) (read (λ o. o.clearing.items) [] owed) (read (λ o. o.token) blank owed)) ar
    ∙ ap (λ x. made routes counts stop (λ k. Ready) (λ k. true) (λ k. []) (λ k. []) x (read (fills_of routes) [] owed) (read (λ o. drop o.looked o.news.items) [] owed) (read (λ o. o.clearing.items) [] owed) (read (λ o. o.token) blank owed)) hs
    ∙ ap (λ x. made routes counts stop (λ k. Ready) (λ k. true) (λ k. []) (λ k. []) (λ k. None) x (read (λ o. drop o.looked o.news.items) [] owed) (read (λ o. o.clearing.items) [] owed) (read (λ o. o.token) blank owed)) fs
    ∙ ap (λ x. made routes counts stop (λ k. Ready) (λ k. true) (λ k. []) (λ k. []) (λ k. None) (λ k. []) x (read (λ o. o.clearing.items) [] owed) (read (λ o. o.token) blank owed)) ns
    ∙ ap (λ x. made routes counts stop (λ k. Ready) (λ k. true) (λ k. []) (λ k. []) (λ k. None) (λ k. []) (λ k. []) x (read (λ o. o.token) blank owed)) cl
    ∙ ap (λ x. made routes counts stop (λ k. Ready) (λ k. true) (λ k. []) (λ k. []) (λ k. None) (λ k. []) (λ k. []) (λ k. []) x) ts
  where
    calls_none : (k : ℕ) → (read (λ r. r) no_routine (map (first_routine routes counts) routes) k).calls ≡ []
    calls_none k = by (slice_get routes k) refl
      where
        by : (o : Option Route) → slice_get routes k ≡ o → (read (λ r. r) no_routine (map (first_routine routes counts) routes) k).calls ≡ []
        by (Some x) at = ap (λ (r : RoutineView). r.calls) (read_made (first_routine routes counts) no_routine routes k x at)
        by None at = ap (λ (r : RoutineView). r.calls) (read_beyond (first_routine routes counts) no_routine routes k at)

    no_fills : (o : Owed) → IsNothing room o → fills_of routes o ≡ []
    no_fills o n = let whole : length (readers_of routes o.token.channel) - o.fills ≡ length (readers_of routes o.token.channel) = rw n.fills (omega arith) in
        ap (λ k. drop k (readers_of routes o.token.channel)) whole ∙ drop_all (length (readers_of routes o.token.channel)) (readers_of routes o.token.channel) (omega arith)

    no_news : (o : Owed) → IsNothing room o → drop o.looked o.news.items ≡ []
    no_news o n = rw (n.looked, n.news) refl

pub made_at : {X Y : Type 0} (f : X → Y) (xs : List X) (i : ℕ) (x : X) → slice_get xs i ≡ Some x → slice_get (map f xs) i ≡ Some (f x)
made_at f xs i x at = slice_get-map f xs i ∙ ap (option_map f) at

-- The same of lists that are known to be these.
pub flags_from : {size n : ℕ} {held : List Bool} {hands : List (Option Hand)} → size ≡ n → held ≡ replicate n false → hands ≡ replicate 65 None → IsFlagged size (read (λ b. b) true held) (read (λ h. h) None hands)
flags_from {n = n} s h g = rw (s, h, g) (flags_begin n)

pub stepping_from : {hands : ℕ → Option Hand} (n : ℕ) {found : List (Option Found)} → found ≡ replicate n None → IsStepping hands (read (λ f. f) None found)
stepping_from n f = rw f (stepping_begins n)

pub waiting_from : {routes R : List Route} (counts : List ℕ) (n : ℕ) {routines : List RoutineView} {found : List (Option Found)} {sent : List ℕ} {tape : List Token} → routes ≡ R → routines ≡ map (first_routine R counts) R
    → found ≡ replicate n None → sent ≡ replicate n 0 → tape ≡ [] → IsWaiting routes (read (λ r. r) no_routine routines) (read (λ f. f) None found) (read (λ n. n) 0 sent) tape
waiting_from {R = R} counts n a b c d e = rw (a, b, c, d, e) (waiting_begins R counts n)

pub visited_from : {routes R : List Route} {counts C : List ℕ} {visitors : List VisitorView} → routes ≡ R → counts ≡ C → visitors ≡ map (first_visitor R C) R → IsVisited routes counts (read (λ v. v) no_visitor visitors)
visited_from {R = R} {C = C} a b c = rw (a, b, c) (visited_begins R C)

pub roomy_from : {routes R : List Route} {counts C : List ℕ} {visitors : List VisitorView} {routines : List RoutineView} {tape : ℕ} → routes ≡ R → counts ≡ C → visitors ≡ map (first_visitor R C) R → routines ≡ map (first_routine R C) R
    → counts_from R C 0 (length C) ≤ tape → IsRoomy routes counts (read (λ v. v) no_visitor visitors) (read (λ r. r) no_routine routines) tape
roomy_from {R = R} {C = C} {tape = tape} a b c d e = rw (a, b, c, d) (roomy_begins R C tape e)

pub owing_from : {routes : List Route} {n : ℕ} {owed : List Owed} → n ≡ length routes → AreNothing (4 * n) 65 owed → AreOwing routes owed
owing_from {routes} {n} {owed} s h = record { each = λ p o at. nothing_owing o (subst (λ k. IsNothing (4 * k) o) s (h.each p o at)) }

pub counted_from : (routes : List Route) {tape : List Token} → tape ≡ [] → 0 ≡ length (played_of routes tape)
counted_from routes e = rw e refl

pub plain_from : {routes R : List Route} {counts C : List ℕ} {stop S : Option Stop} {visitors : List VisitorView} {routines : List RoutineView} (n : ℕ) {found : List (Option Found)} {spent : List Bool} {hands : List (Option Hand)} {owed : List Owed} {tape : List Token}
    → routes ≡ R → counts ≡ C → stop ≡ S → visitors ≡ map (first_visitor R C) R → routines ≡ map (first_routine R C) R → found ≡ replicate n None → spent ≡ replicate n true → hands ≡ replicate 65 None → AreNothing (4 * n) 65 owed → tape ≡ []
    → plain_at routes counts stop visitors routines found spent hands owed tape 0 false false ≡ opening_world R C S
plain_from {R = R} {C = C} {S = S} n {owed = owed} a b s c d e f g h i = rw (a, b, s, c, d, e, f, g, i) (plain_begins R C S n (4 * n) owed h)

pub sound_from : {w : Plain} {R : List Route} {C : List ℕ} {S : Option Stop} → w ≡ opening_world R C S → IsWired R C → Sound w
sound_from {R = R} {C = C} {S = S} e wired = subst Sound (sym e) (opening_sound R C S wired)
