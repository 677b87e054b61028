-- What a look and a clearing leave of what a thread owes.
use Rattle.std.proofs.Common.{ℕ, zero, suc, ◌+◌, ◌-◌, ◌≡◌, ◌≢◌, ◌≤◌, ◌<◌, ◌==◌, ◌||◌, Bool, true, false, if◌then◌else◌, refl, sym, ◌∙◌, ap, inl, inr, arith, Option, Some, None, List, [], ◌∷◌, ◌++◌, length, get_or, set, slice_get, take, drop, remove, position, vec_capacity, option_and_then, unwrap_or, subst}
use Rattle.std.specs.List.{position_or_len}
use Rattle.std.proofs.lemmas.Bool.Decides.{nat_tests}
use Rattle.std.proofs.lemmas.List.{length-append}
use Rattle.std.proofs.lemmas.List.Quantifiers.{position-Some}
use Rattle.std.proofs.lemmas.Option.{slice_get_within, slice_get-get_or}
use Rattle.cy_msg.specs.declared.token.Token.{Token}
use Rattle.cy_msg.proofs.Lists.{place}
use Rattle.wake_core.specs.declared.owed.Owed.{Owed}
use Rattle.wake_core.specs.Run.{Route, set_at, readers_of}
use Rattle.wake_core.specs.Plain.{Plain, lists, blank, reads}
use Rattle.wake_core.specs.Events.{Looks, Clears, after_look, after_clear}
use Rattle.wake_core.specs.WorldCalls.{MayLook}
use Rattle.wake_core.specs.Fields.{read}
use Rattle.wake_core.specs.private.Shown.{fills_of, IsOwing, AreOwing}
use Rattle.wake_core.specs.Sound.{Sound}
use Rattle.wake_core.specs.private.Owing.{MayLookAt, LookedAt, IsTakenOut}
use Rattle.wake_core.proofs.Listing.{lists_first}
use Rattle.wake_core.proofs.Reading.{read-set, read-set_same, read_is, read_within}

-- What is among the numbers has a place there.
lists_placed : (c : ℕ) (xs : List ℕ) → lists c xs ≡ true → position_or_len (λ x. x == c) xs < length xs
lists_placed c [] e = cc
lists_placed c (x ∷ xs) e = by (x == c) refl (lists_placed c xs)
  where
    by : (b : Bool) → x == c ≡ b → (lists c xs ≡ true → position_or_len (λ x. x == c) xs < length xs) → position_or_len (λ x. x == c) (x ∷ xs) < length (x ∷ xs)
    by true is rest = rw is (omega arith)
    by false is rest = let l = rest (ap (λ b. b || lists c xs) (sym is) ∙ e) in rw is (omega (arith, l))

pub lists_position : (c : ℕ) (xs : List ℕ) → lists c xs ≡ true → position (λ x. x == c) xs ≢ None
lists_position c xs e none = let within = lists_placed c xs e in grind (arith, nat_tests, within, none)

-- A list about one of its places.
pub split_at : {X : Type 0} (xs : List X) (k : ℕ) (d : X) → k < length xs → xs ≡ take k xs ++ get_or xs k d ∷ drop (suc k) xs
split_at [] k d l = absurd (omega arith)
split_at (x ∷ xs) zero d l = refl
split_at (x ∷ xs) (suc k) d l = ap (λ ys. x ∷ ys) (split_at xs k d (omega arith))

pub drop_first : {X : Type 0} (xs : List X) (n : ℕ) → slice_get (drop n xs) 0 ≡ slice_get xs n
drop_first [] zero = refl
drop_first [] (suc n) = refl
drop_first (x ∷ xs) zero = refl
drop_first (x ∷ xs) (suc n) = drop_first xs n

pub drop_rest : {X : Type 0} (xs : List X) (n : ℕ) (x : X) → slice_get (drop n xs) 0 ≡ Some x → drop n xs ≡ x ∷ drop (n + 1) xs
drop_rest xs n x e = let more : n + 1 ≡ suc n = omega arith in by xs n e ∙ ap (λ k. x ∷ drop k xs) (sym more)
  where
    by : {X : Type 0} {x : X} (xs : List X) (n : ℕ) → slice_get (drop n xs) 0 ≡ Some x → drop n xs ≡ x ∷ drop (suc n) xs
    by [] zero e = cc
    by [] (suc n) e = cc
    by (y ∷ xs) zero e = cc
    by (y ∷ xs) (suc n) e = by xs n e

-- A component that is to have its flag cleared is taken out at its first place.
pub taken_out : (c k : ℕ) (o n : Owed) → position (λ x. x == c) o.clearing.items ≡ Some k → n.token ≡ o.token → n.fills ≡ o.fills → n.news ≡ o.news → n.looked ≡ o.looked
    → n.clearing.items ≡ remove o.clearing.items k → vec_capacity n.clearing ≡ vec_capacity o.clearing → IsTakenOut c o n
taken_out c k o n at token fills news looked left room =
    let found = position-Some (λ x. x == c) o.clearing.items k c at in
    record {
      token = token;
      fills = fills;
      news = news;
      looked = looked;
      before = take k o.clearing.items;
      after = drop (suc k) o.clearing.items;
      there = split_at o.clearing.items k c found.0 ∙ ap (λ y. take k o.clearing.items ++ y ∷ drop (suc k) o.clearing.items) (is found.1);
      left = left;
      room = room;
    }
  where
    is : get_or o.clearing.items k c == c ≡ true → get_or o.clearing.items k c ≡ c
    is e = grind (arith, nat_tests, e)

-- What a thread owes is replaced.
pub owed_with : (w : Plain) {fs gs : ℕ → List (ℕ × ℕ)} {ns ms cs ds : ℕ → List ℕ} {ts us : ℕ → Token} → fs ≡ gs → ns ≡ ms → cs ≡ ds → ts ≡ us
    → record w { fills = fs; news = ns; clearing = cs; tokens = ts } ≡ record w { fills = gs; news = ms; clearing = ds; tokens = us }
owed_with w {fs = fs} {gs = gs} {ns = ns} {ms = ms} {cs = cs} {ds = ds} {ts = ts} f n c t =
    ap (λ (x : ℕ → List (ℕ × ℕ)). record w { fills = x; news = ns; clearing = cs; tokens = ts }) f
    ∙ ap (λ (x : ℕ → List ℕ). record w { fills = gs; news = x; clearing = cs; tokens = ts }) n
    ∙ ap (λ (x : ℕ → List ℕ). record w { fills = gs; news = ms; clearing = x; tokens = ts }) c
    ∙ ap (λ (x : ℕ → Token). record w { fills = gs; news = ms; clearing = ds; tokens = x }) t

get_set_same : {X : Type 0} (xs : List X) (i : ℕ) (y : X) → i < length xs → slice_get (set xs i y) i ≡ Some y
get_set_same [] i y l = absurd (omega arith)
get_set_same (x ∷ xs) zero y l = refl
get_set_same (x ∷ xs) (suc i) y l = get_set_same xs i y (omega arith)

get_set_other : {X : Type 0} (xs : List X) (i k : ℕ) (y : X) → k ≢ i → slice_get (set xs i y) k ≡ slice_get xs k
get_set_other [] i k y n = refl
get_set_other (x ∷ xs) zero zero y n = absurd (n refl)
get_set_other (x ∷ xs) zero (suc k) y n = refl
get_set_other (x ∷ xs) (suc i) zero y n = refl
get_set_other (x ∷ xs) (suc i) (suc k) y n = get_set_other xs i k y (λ e. n (ap suc e))

pub owing_set : {routes : List Route} {owed : List Owed} (p : ℕ) (n : Owed) → p < length owed → IsOwing routes n → AreOwing routes owed → AreOwing routes (set owed p n)
owing_set {routes} {owed} p n lt new h = record {
  each = λ q o at. elim (place q p) [
    | inl same ↦ subst (IsOwing routes) (same_at q o same at) new
    | inr other ↦ h.each q o (sym (get_set_other owed p q n other) ∙ at)
  ];
}
  where
    same_at : (q : ℕ) (o : Owed) → q ≡ p → slice_get (set owed p n) q ≡ Some o → n ≡ o
    same_at q o same at = let is : Some n ≡ Some o = sym (get_set_same owed p n lt) ∙ ap (slice_get (set owed p n)) (sym same) ∙ at in ap (λ (x : Option Owed). unwrap_or x n) is

-- The fills that are left depend on the message and their number alone.
pub fills_same : (routes : List Route) (o n : Owed) → n.token ≡ o.token → n.fills ≡ o.fills → fills_of routes n ≡ fills_of routes o
fills_same routes o n t f =
    ap (λ (u : Token). drop (length (readers_of routes u.channel) - n.fills) (readers_of routes u.channel)) t
    ∙ ap (λ k. drop (length (readers_of routes o.token.channel) - k) (readers_of routes o.token.channel)) f

-- A look.
pub looked_owing : {routes : List Route} {c : ℕ} {waits : Bool} {o n : Owed} → o.looked < length o.news.items → LookedAt c waits o n → IsOwing routes o → IsOwing routes n
looked_owing {routes} {c} {waits} {o} {n} some is h =
    let longer = clearing_most waits in
    record {
      fills = rw (is.fills, is.token) h.fills;
      looked = rw (is.looked, is.news) (omega (arith, some));
      news = rw (is.news, is.fills) h.news;
      clearing = rw (is.looked, is.news, is.fills, is.clearing) (omega (arith, longer, some, h.clearing));
      news_room = rw is.news h.news_room;
      clearing_room = rw is.room h.clearing_room;
    }
  where
    clearing_most : (b : Bool) → length (if b then o.clearing.items ++ c ∷ [] else o.clearing.items) ≤ length o.clearing.items + 1
    clearing_most true = rw (length-append o.clearing.items (c ∷ [])) (omega arith)
    clearing_most false = omega arith

pub looked_world : (w : Plain) (routes : List Route) (owed : List Owed) (p c : ℕ) (waits : Bool) (o n : Owed) → p < length owed → o ≡ get_or owed p o → LookedAt c waits o n
    → record w { fills = read (fills_of routes) [] (set owed p n); news = read (λ o. drop o.looked o.news.items) [] (set owed p n); clearing = read (λ o. o.clearing.items) [] (set owed p n); tokens = read (λ o. o.token) blank (set owed p n) }
    ≡ record w {
      fills = read (fills_of routes) [] owed;
      news = set_at p (drop (o.looked + 1) o.news.items) (read (λ o. drop o.looked o.news.items) [] owed);
      clearing = set_at p (if waits then read (λ o. o.clearing.items) [] owed p ++ c ∷ [] else read (λ o. o.clearing.items) [] owed p) (read (λ o. o.clearing.items) [] owed);
      tokens = read (λ o. o.token) blank owed;
    }
looked_world w routes owed p c waits o n lt at is = owed_with w
    (read-set_same (fills_of routes) [] owed p n o (fills_same routes o n is.token is.fills ∙ ap (fills_of routes) at))
    (read-set (λ o. drop o.looked o.news.items) [] owed p n lt ∙ ap (λ xs. set_at p xs (read (λ o. drop o.looked o.news.items) [] owed)) (news_is))
    (read-set (λ o. o.clearing.items) [] owed p n lt ∙ ap (λ xs. set_at p xs (read (λ o. o.clearing.items) [] owed))
    (is.clearing ∙ ap (λ xs. if waits then xs ++ c ∷ [] else xs) (sym (read_is (λ o. o.clearing.items) [] owed p o lt at))))
    (read-set_same (λ o. o.token) blank owed p n o (is.token ∙ ap (λ (o : Owed). o.token) at))
  where
    news_is : drop n.looked n.news.items ≡ drop (o.looked + 1) o.news.items
    news_is = rw (is.looked, is.news) refl

pub looks : {p c : ℕ} {w v : Plain} (later : List ℕ) → MayLook p c w → w.news p ≡ c ∷ later → v ≡ after_look p c later w → Looks p c w v
looks later may first effect = record { later = later; filled = may.filled; first = first; effect = effect }

-- A clearing.
pub taken_owing : {routes : List Route} {c : ℕ} {o n : Owed} → IsTakenOut c o n → IsOwing routes o → IsOwing routes n
taken_owing {routes} {c} {o} {n} is h =
    let shorter : length (is.before ++ is.after) ≤ length o.clearing.items = rw (is.there, length-append is.before is.after, length-append is.before (c ∷ is.after)) (omega arith) in
    record {
      fills = rw (is.fills, is.token) h.fills;
      looked = rw (is.looked, is.news) h.looked;
      news = rw (is.news, is.fills) h.news;
      clearing = rw (is.looked, is.news, is.fills, is.left) (omega (arith, shorter, h.clearing));
      news_room = rw is.news h.news_room;
      clearing_room = rw is.room h.clearing_room;
    }

pub cleared_world : (w : Plain) (routes : List Route) (owed : List Owed) (spent : List Bool) (p c : ℕ) (o n : Owed) → p < length owed → c < length spent → o ≡ get_or owed p o → (is : IsTakenOut c o n)
    → record w { spent = read (λ b. b) true (set spent c false); fills = read (fills_of routes) [] (set owed p n); news = read (λ o. drop o.looked o.news.items) [] (set owed p n); clearing = read (λ o. o.clearing.items) [] (set owed p n); tokens = read (λ o. o.token) blank (set owed p n) }
    ≡ record w {
      spent = set_at c false (read (λ b. b) true spent);
      fills = read (fills_of routes) [] owed;
      news = read (λ o. drop o.looked o.news.items) [] owed;
      clearing = set_at p (is.before ++ is.after) (read (λ o. o.clearing.items) [] owed);
      tokens = read (λ o. o.token) blank owed;
    }
cleared_world w routes owed spent p c o n lt within at is =
    ap (λ (s : ℕ → Bool). record w { spent = s; fills = read (fills_of routes) [] (set owed p n); news = read (λ o. drop o.looked o.news.items) [] (set owed p n); clearing = read (λ o. o.clearing.items) [] (set owed p n); tokens = read (λ o. o.token) blank (set owed p n) })
    (read-set (λ b. b) true spent c false within)
    ∙ owed_with record w { spent = set_at c false (read (λ b. b) true spent) }
    (read-set_same (fills_of routes) [] owed p n o (fills_same routes o n is.token is.fills ∙ ap (fills_of routes) at))
    (read-set_same (λ o. drop o.looked o.news.items) [] owed p n o (news_is ∙ ap (λ (o : Owed). drop o.looked o.news.items) at))
    (read-set (λ o. o.clearing.items) [] owed p n lt ∙ ap (λ xs. set_at p xs (read (λ o. o.clearing.items) [] owed)) is.left)
    (read-set_same (λ o. o.token) blank owed p n o (is.token ∙ ap (λ (o : Owed). o.token) at))
  where
    news_is : drop n.looked n.news.items ≡ drop o.looked o.news.items
    news_is = rw (is.looked, is.news) refl

pub clears : {p c : ℕ} {w v : Plain} (before after : List ℕ) → w.clearing p ≡ before ++ c ∷ after → v ≡ after_clear p c (before ++ after) w → Clears p c w v
clears before after there effect = record { before = before; after = after; there = there; effect = effect }

-- Who is told of, or is to have its flag cleared, is a component.
pub reads_known : (routes : List Route) (v j channel : ℕ) → reads routes v j ≡ Some channel → v < length routes
reads_known routes v j channel e = by (slice_get routes v) refl e
  where
    by : (o : Option Route) → slice_get routes v ≡ o → option_and_then (λ (x : Route). slice_get x.readers j) o ≡ Some channel → v < length routes
    by None at e = cc
    by (Some x) at e = slice_get_within routes v x at

-- What a thread owes, where it is to look or to clear.
pub owed_each : {routes : List Route} {owed : List Owed} (p : ℕ) (o : Owed) → p < length owed → o ≡ get_or owed p o → AreOwing routes owed → IsOwing routes o
owed_each {owed = owed} p o lt at h = h.each p o (slice_get-get_or owed p o lt ∙ ap Some (sym at))

pub look_thread : (owed : List Owed) (p c : ℕ) → slice_get (read (λ o. drop o.looked o.news.items) [] owed p) 0 ≡ Some c → p < length owed
look_thread owed p c first = read_within (λ o. drop o.looked o.news.items) [] owed p (λ e. none (ap (λ xs. slice_get xs 0) (sym e) ∙ first))
  where
    none : None ≡ Some c → ⊥
    none e = cc

pub clear_thread : (owed : List Owed) (p c : ℕ) → lists c (read (λ o. o.clearing.items) [] owed p) ≡ true → p < length owed
clear_thread owed p c among = read_within (λ o. o.clearing.items) [] owed p (λ e. none (ap (lists c) (sym e) ∙ among))
  where
    none : false ≡ true → ⊥
    none e = cc

pub look_first : (owed : List Owed) (p c : ℕ) (o : Owed) → p < length owed → o ≡ get_or owed p o → slice_get (read (λ o. drop o.looked o.news.items) [] owed p) 0 ≡ Some c
    → read (λ o. drop o.looked o.news.items) [] owed p ≡ c ∷ drop (o.looked + 1) o.news.items
look_first owed p c o lt at first =
    let is = read_is (λ o. drop o.looked o.news.items) [] owed p o lt at in
    is ∙ drop_rest o.news.items o.looked c (ap (λ xs. slice_get xs 0) (sym is) ∙ first)

pub may_look_at : {routes : List Route} (owed : List Owed) (p c : ℕ) (o : Owed) → p < length owed → o ≡ get_or owed p o → slice_get (read (λ o. drop o.looked o.news.items) [] owed p) 0 ≡ Some c
    → AreOwing routes owed → MayLookAt o
may_look_at owed p c o lt at first h =
    let is = read_is (λ o. drop o.looked o.news.items) [] owed p o lt at in
    let some = slice_get_within o.news.items o.looked c (sym (drop_first o.news.items o.looked) ∙ ap (λ xs. slice_get xs 0) (sym is) ∙ first) in
    let own = owed_each p o lt at h in
    record { some = some; room = omega (arith, some, own.clearing, own.clearing_room) }

pub look_known : (w : Plain) (p c : ℕ) → slice_get (w.news p) 0 ≡ Some c → Sound w → c < length w.routes
look_known w p c first s = reads_known w.routes c 0 (w.tokens p).channel (s.consistent.delivered.told p c (among (w.news p) first))
  where
    among : (xs : List ℕ) → slice_get xs 0 ≡ Some c → lists c xs ≡ true
    among [] e = cc
    among (x ∷ xs) e = let same : c ≡ x = cc in ap (λ y. lists c (y ∷ xs)) (sym same) ∙ lists_first c xs

pub clear_known : (w : Plain) (p c : ℕ) → lists c (w.clearing p) ≡ true → Sound w → c < length w.routes
clear_known w p c among s = reads_known w.routes c 0 (w.tokens p).channel (s.consistent.delivered.looked p c among)
