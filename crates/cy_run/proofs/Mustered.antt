-- Workers that are split off the player and taken in again.
use Rattle.std.proofs.Common.{ℕ, ◌+◌, ◌-◌, ◌≡◌, ◌≤◌, ◌<◌, ◌∙◌, Bool, true, false, ◌||◌, List, [], ◌∷◌, ◌++◌, All, refl, sym, ap, subst, arith, length, take, drop, slice_index_or, append-nil, length-append, ◌==◌, Option, zero, suc}
use Rattle.std.proofs.lemmas.List.{take_all, drop_all, length-map}
use Rattle.std.proofs.lemmas.List.Elements.{All-push}
use Rattle.std.proofs.lemmas.Bool.Decides.{nat_tests}
use Rattle.cy_msg.specs.declared.placement.ContextPlan.{ContextPlan}
use Rattle.cy_msg.specs.declared.stop.Stop.{Stop}
use Rattle.cy_msg.specs.declared.token.Token.{Token}
use Rattle.cy_msg.specs.Placement.{scan_of}
use Rattle.cy_comp.specs.declared.plan.Plan.{Plan}
use Rattle.wake_core.specs.declared.route.Route.{Route}
use Rattle.wake_core.specs.declared.world.World.{World}
use Rattle.wake_core.specs.Plain.{Plain, lists, to_play_from}
use Rattle.wake_core.specs.Run.{played_of}
use Rattle.wake_core.specs.Fields.{IsWithin}
use Rattle.wake_core.specs.Rest.{IsToPlay, IsScanOf, MayFinish}
use Rattle.wake_core.specs.WorldOf.{plain_of}
use Rattle.wake_core.specs.TapeLaws.{PutLaws}
use Rattle.cy_table.specs.declared.pass.Pass.{Pass}
use Rattle.cy_table.specs.declared.table.FlagTable.{FlagTable}
use Rattle.cy_table.specs.Seats.{Seat}
use Rattle.cy_table.specs.Steps.{splitting, split_off, joining}
use Rattle.cy_table.specs.Plays.{Thread}
use Rattle.cy_table.specs.Calls.{made_of, seat_of, thread_of, knowing, IsAt, Stays}
use Rattle.cy_table.specs.Ends.{IsNew, IsLeft}
use Rattle.cy_run.specs.declared.crew.Worker.{Worker}
use Rattle.cy_run.specs.Passes.{IsFree}
use Rattle.cy_run.specs.Playing.{IsFreePlayer, IsPlayed}
use Rattle.cy_run.specs.Working.{IsOrderOf}
use Rattle.cy_run.specs.Driving.{MayDrive, IsDeputy}
use Rattle.cy_run.specs.Running.{orders_of, IsHired, IsHiredBy, IsDismissed, IsCrew, MayRun}

-- The player between two of these steps.
still_free : (t : FlagTable) (q u : Pass) (n : ℕ) (seen : List Rattle.cy_table.specs.Seats.Seen) → IsFreePlayer t q → Stays t q u → thread_of u ≡ knowing q (record (seat_of q) { split = n; seen = seen }) → IsFreePlayer t u
still_free t q u n seen m s told =
    let seat : seat_of u ≡ record (seat_of q) { split = n; seen = seen } = ap (λ (x : Thread). x.0) told in let f = m.free in record {
      free = record {
        seated = record {
          at = s.at;
          here = ap (λ (v : Seat). v.live) seat ∙ f.seated.here;
          routes = ap (λ (v : Seat). v.routes) seat ∙ f.seated.routes;
          counts = ap (λ (v : Seat). v.counts) seat ∙ f.seated.counts;
          stop = ap (λ (v : Seat). v.stop) seat ∙ f.seated.stop;
          visit = ap (λ (v : Seat). v.visit) seat ∙ f.seated.visit;
          tape = ap (λ (v : Seat). v.tape) seat ∙ f.seated.tape;
        };
        hand = ap (λ (v : Seat). v.hand) seat ∙ f.hand;
        owes = record {
          filled = ap (λ (v : Seat). v.fills) seat ∙ f.owes.filled;
          looked = ap (λ (v : Seat). v.news) seat ∙ f.owes.looked;
          cleared = ap (λ (v : Seat). v.clearing) seat ∙ f.owes.cleared;
        };
        out = ap (λ (x : Thread). x.1) told ∙ f.out;
      };
      player = s.number ∙ m.player;
    }

split_free : (t : FlagTable) (q w : Pass) → IsFreePlayer t q → IsAt t w → thread_of w ≡ (split_off (seat_of q), []) → IsFree t w
split_free t q w m at told = let seat : seat_of w ≡ split_off (seat_of q) = ap (λ (x : Thread). x.0) told in record {
  seated = record {
    at = at;
    here = ap (λ (v : Seat). v.live) seat;
    routes = ap (λ (v : Seat). v.routes) seat ∙ m.free.seated.routes;
    counts = ap (λ (v : Seat). v.counts) seat ∙ m.free.seated.counts;
    stop = ap (λ (v : Seat). v.stop) seat ∙ m.free.seated.stop;
    visit = ap (λ (v : Seat). v.visit) seat;
    tape = ap (λ (v : Seat). v.tape) seat;
  };
  hand = ap (λ (v : Seat). v.hand) seat;
  owes = record { filled = ap (λ (v : Seat). v.fills) seat; looked = ap (λ (v : Seat). v.news) seat; cleared = ap (λ (v : Seat). v.clearing) seat };
  out = ap (λ (x : Thread). x.1) told;
}

pub hired_by : (t : FlagTable) (q u w : Pass) → IsFreePlayer t q → Stays t q u → IsAt t w → thread_of w ≡ (split_off (seat_of q), []) → thread_of u ≡ knowing q (splitting (seat_of q)) → IsHiredBy t q u w
hired_by t q u w m s at theirs told = record {
  mine = still_free t q u ((seat_of q).split + 1) (seat_of q).seen m s told;
  seat = ap (λ (x : Thread). x.0) told;
  free = split_free t q w m at theirs;
}

-- One worker more.
pub hires : (t : FlagTable) (n m : ℕ) (p q u w : Pass) (crew : List Worker) (plan me : ℕ) → IsCrew t n m p q crew → IsHiredBy t q u w → plan < n → me ≡ length crew → length crew < m → IsCrew t n m p u (crew ++ record { pass = w; plan = plan; me = me } ∷ [])
hires t n m p q u w crew plan me c h lt is few =
    let hired : IsHired t n m record { pass = w; plan = plan; me = me } = record { free = h.free; plan = lt; me = subst (λ k. k < m) (sym is) few } in
    let more : length (crew ++ record { pass = w; plan = plan; me = me } ∷ []) ≡ length crew + 1 = length-append crew (record { pass = w; plan = plan; me = me } ∷ []) in record {
      mine = h.mine;
      same = h.seat ∙ (ap (λ (v : Seat). splitting v) c.same ∙ ap (λ k. record (seat_of p) { split = k }) (sym more));
      few = subst (λ k. k ≤ m) (sym more) (one_less (length crew) m few);
      hired = All-push (IsHired t n m) crew record { pass = w; plan = plan; me = me } c.hired hired;
    }
  where
    one_less : (a b : ℕ) → a < b → a + 1 ≤ b
    one_less a b l = omega (arith, l)

-- One is taken in.
pub joins : (t : FlagTable) (q u w : Pass) → IsFreePlayer t q → Stays t q u → thread_of u ≡ knowing q (joining (seat_of q) (seat_of w)) → IsFreePlayer t u
joins t q u w m s told = still_free t q u ((seat_of q).split - 1) ((seat_of w).seen ++ (seat_of q).seen) m s told

pub one_fewer : (q u w : Pass) (n : ℕ) → thread_of u ≡ knowing q (joining (seat_of q) (seat_of w)) → (seat_of q).split ≡ n + 1 → (seat_of u).split ≡ n
one_fewer q u w n told is = less (seat_of u).split (seat_of q).split n (ap (λ (x : Thread). x.0.split) told) is
  where
    less : (a b n : ℕ) → a ≡ b - 1 → b ≡ n + 1 → a ≡ n
    less a b n e f = omega (arith, e, f)

pub dismissed : (t : FlagTable) (q u w : Pass) → IsFreePlayer t q → 0 < (seat_of q).split → Stays t q u → thread_of u ≡ knowing q (joining (seat_of q) (seat_of w)) → IsDismissed t q u
dismissed t q u w m some s told = record {
  mine = joins t q u w m s told;
  split = less (seat_of u).split (seat_of q).split (ap (λ (x : Thread). x.0.split) told) some;
  played = ap (λ (x : Thread). x.0.played) told;
  clock = ap (λ (x : Thread). x.0.clock) told;
  raised = ap (λ (x : Thread). x.0.raised) told;
}
  where
    less : (a b : ℕ) → a ≡ b - 1 → 0 < b → b ≡ a + 1
    less a b e l = omega (arith, e, l)

-- .. where a deputy was split off behind a crew, and they drove.
pub some_split : (t : FlagTable) (tokens : List Token) (p q u d : Pass) → IsHiredBy t p q d → IsPlayed t tokens q u → 0 < (seat_of u).split
some_split t tokens p q u d h played = more (seat_of p).split (seat_of q).split (seat_of u).split (ap (λ (v : Seat). v.split) h.seat) played.split
  where
    more : (a b c : ℕ) → b ≡ a + 1 → c ≡ b → 0 < c
    more a b c e f = omega (arith, e, f)

pub rest_free : (t : FlagTable) (xs rest : List Worker) (w : Worker) → xs ≡ w ∷ rest → All (λ (x : Worker). IsFree t x.pass) xs → IsFree t w.pass × All (λ (x : Worker). IsFree t x.pass) rest
rest_free t xs rest w e all = let all' = subst (λ l. All (λ (x : Worker). IsFree t x.pass) l) e all in (all' 0 w (first (length rest)), λ k d lt. all' (suc k) d (later k (length rest) lt))
  where
    first : (n : ℕ) → 0 < suc n
    first n = omega arith

    later : (k n : ℕ) → k < n → suc k < suc n
    later k n l = omega (arith, l)

-- What a slice of all of a list writes back.
pub written : (xs items : List Worker) (n : ℕ) → length xs ≡ n → length items ≡ n → take n (xs ++ drop (length xs) items) ≡ xs
written xs items n a b = ap (λ l. take n (xs ++ l)) (drop_all (length xs) items (omega (arith, a, b))) ∙ (ap (take n) (append-nil xs) ∙ take_all n xs (omega (arith, a)))

-- The orders of contexts have what their scan has.
lists_append : (c : ℕ) (xs ys : List ℕ) → lists c (xs ++ ys) ≡ lists c xs || lists c ys
lists_append c [] ys = refl
lists_append c (x ∷ xs) ys = by (x == c) (lists_append c xs ys)
  where
    by : (b : Bool) → lists c (xs ++ ys) ≡ lists c xs || lists c ys → b || lists c (xs ++ ys) ≡ (b || lists c xs) || lists c ys
    by true e = refl
    by false e = e

listed : (xs : List ℕ) (k d : ℕ) → k < length xs → lists (slice_index_or xs k d) xs ≡ true
listed [] k d lt = absurd (none k lt)
  where
    none : (k : ℕ) → k < 0 → ⊥
    none k l = omega (arith, l)
listed (x ∷ xs) zero d lt = ap (λ b. b || lists x xs) (equal x)
  where
    equal : (n : ℕ) → (n == n) ≡ true
    equal n = grind (arith, nat_tests)
listed (x ∷ xs) (suc k) d lt = by (x == slice_index_or xs k d) (listed xs k d (down k (length xs) lt))
  where
    down : (j n : ℕ) → suc j < suc n → j < n
    down j n l = omega (arith, l)

    by : (b : Bool) → lists (slice_index_or xs k d) xs ≡ true → b || lists (slice_index_or xs k d) xs ≡ true
    by true e = refl
    by false e = e

or_left : (a b : Bool) → a ≡ true → a || b ≡ true
or_left true b e = refl
or_left false b e = cc

or_right : (a b : Bool) → b ≡ true → a || b ≡ true
or_right true b e = refl
or_right false b e = e

all_orders : (n : ℕ) (plans : List ContextPlan) → ((c : ℕ) → lists c (scan_of plans) ≡ true → c < n) → All (λ (order : List ℕ). All (λ c. c < n) order) (orders_of plans)
all_orders n [] known k d lt = absurd (none k lt)
  where
    none : (k : ℕ) → k < 0 → ⊥
    none k l = omega (arith, l)
all_orders n (x ∷ plans) known zero d lt = λ j e l. known (slice_index_or x.order j e) (lists_append (slice_index_or x.order j e) x.order (scan_of plans) ∙ or_left (lists (slice_index_or x.order j e) x.order) (lists (slice_index_or x.order j e) (scan_of plans)) (listed x.order j e l))
all_orders n (x ∷ plans) known (suc k) d lt = all_orders n plans (λ c e. known c (lists_append c x.order (scan_of plans) ∙ or_right (lists c x.order) (lists c (scan_of plans)) e)) k d (down k (length (orders_of plans)) lt)
  where
    down : (j n : ℕ) → suc j < suc n → j < n
    down j n l = omega (arith, l)

-- The contexts have components of the table alone.
orders_inside : (w : World) (t : FlagTable) (plans : List Plan) (tokens : List Token) (contexts : List ContextPlan) (orders : List (List ℕ)) (p : Pass)
    → MayRun (plain_of w) plans tokens (scan_of contexts) → IsNew w t p → orders ≡ orders_of contexts → All (IsOrderOf t) orders
orders_inside w t plans tokens contexts orders p r n is = subst (λ l. All (IsOrderOf t) l) (sym is)
    (subst (λ k. All (λ (order : List ℕ). All (λ c. c < k) order) (orders_of contexts)) (ap (λ (x : Plain). length x.routes) (sym n.made)) (all_orders (length (plain_of w).routes) contexts r.play.scan.known))

-- A crew that was split off may drive, and a deputy behind it.
pub may_drive : (w : World) (t : FlagTable) (plans : List Plan) (tokens : List Token) (contexts : List ContextPlan) (orders : List (List ℕ)) (parkers : ℕ) (p q u d : Pass) (crew : List Worker) (stop : Option Stop)
    → MayRun (plain_of w) plans tokens (scan_of contexts) → IsNew w t p → orders ≡ orders_of contexts → IsCrew t (length contexts) parkers p q crew → IsHiredBy t q u d → stop ≡ (plain_of w).stop → MayDrive t plans tokens orders parkers u crew stop
may_drive w t plans tokens contexts orders parkers p q u d crew stop r n is c h given =
    let w' = plain_of w in let split = length crew + 1 in
    let seat : seat_of u ≡ record (Rattle.cy_table.specs.Plays.seat_for w) { split = split } = h.seat ∙ (ap (λ (v : Seat). splitting v) c.same ∙ ap (λ (x : Thread). record x.0 { split = split }) n.thread) in
    let all : All (IsOrderOf t) orders = orders_inside w t plans tokens contexts orders p r n is in record {
      made = ap (λ (x : Plain). x.routes) n.made ∙ r.wired;
      given = ap (λ (x : Plain). x.stop) n.made ∙ sym given;
      list = record {
        mine = h.mine;
        made = subst (λ (x : Plain). IsToPlay x tokens) (sym n.made) r.play.made;
        within = subst (λ (x : Plain). IsWithin x.routes x.counts x.stop) (sym n.made) r.play.within;
        unraised = ap (λ (v : Seat). v.raised) seat ∙ ap (λ (x : Plain). x.raised) r.play.opening;
        none_played = ap (λ (v : Seat). v.played) seat ∙ ap (λ (x : Plain). played_of w'.routes x.tape) r.play.opening;
        start = ap (λ (v : Seat). v.clock) seat ∙ ap (λ (x : Plain). x.clock) r.play.opening;
      };
      crew_is = λ k d lt. let h = c.hired k d lt in record { free = h.free; plan = subst (λ j. (slice_index_or crew k d).plan < j) (sym (ap length is ∙ length-map contexts (λ (x : ContextPlan). x.order))) h.plan; me = h.me; orders = all };
    }

pub is_deputy : (w : World) (t : FlagTable) (plans : List Plan) (tokens : List Token) (contexts : List ContextPlan) (orders : List (List ℕ)) (p q u d : Pass)
    → MayRun (plain_of w) plans tokens (scan_of contexts) → IsNew w t p → orders ≡ orders_of contexts → IsHiredBy t q u d → IsDeputy t orders d
is_deputy w t plans tokens contexts orders p q u d r n is h = record { free = h.free; orders = orders_inside w t plans tokens contexts orders p r n is }

-- A world that is left may be finished.
pub may_finish : PutLaws → (w : World) (t : FlagTable) (plans : List Plan) (tokens : List Token) (scan : List ℕ) (p q v : Pass) (left : Plain) → MayRun (plain_of w) plans tokens scan → made_of t ≡ plain_of w
    → IsPlayed t tokens p q → (seat_of v).played ≡ (seat_of q).played → (seat_of v).clock ≡ (seat_of q).clock → (seat_of v).raised ≡ (seat_of q).raised → IsLeft t v left → MayFinish left scan
may_finish law w t plans tokens scan p q v left r made played same clock raised l =
    let routes : left.routes ≡ (plain_of w).routes = l.routes ∙ ap (λ (x : Plain). x.routes) made in let counts : left.counts ≡ (plain_of w).counts = l.counts ∙ ap (λ (x : Plain). x.counts) made in record {
      rest = l.rest;
      played = ap length (l.played ∙ (same ∙ played.exact)) ∙ (sym (law.all (plain_of w) tokens r.play.made)
          ∙ (ap (λ (x : List Route). to_play_from x 0 (plain_of w).counts) (sym routes) ∙ ap (to_play_from left.routes 0) (sym counts)));
      clock = l.clock ∙ (clock ∙ played.clock);
      raised = λ s e. l.raised ∙ (raised ∙ played.raised s (played.mine.free.seated.stop ∙ (sym l.stop ∙ e)));
      scan = subst (λ (x : List Route). IsScanOf (length x) scan) (sym routes) r.play.scan;
    }
