-- What the fills and the looks of a message need and leave, step by step.
use Rattle.std.proofs.Common.{ℕ, ◌+◌, ◌≡◌, ◌<◌, ◌∙◌, cond, true, false, List, [], ◌∷◌, ◌++◌, refl, sym, ap, subst, arith, length, get_or, Option, Some, zero, suc}
use Rattle.std.specs.Prelude.{slice_get}
use Rattle.std.specs.Option.{option_map_or}
use Rattle.cy_msg.specs.declared.token.Token.{Token}
use Rattle.wake_core.specs.declared.route.Route.{Route}
use Rattle.cy_table.specs.declared.pass.Pass.{Pass}
use Rattle.cy_table.specs.declared.table.FlagTable.{FlagTable}
use Rattle.cy_table.specs.Seats.{Seat}
use Rattle.cy_table.specs.Plays.{Thread, later_fills, but_first}
use Rattle.cy_table.specs.Calls.{made_of, seat_of, thread_of, knowing, Stays, CanFill, CanLook, after_look}
use Rattle.cy_comp.specs.declared.plan.Plan.{Plan}
use Rattle.wake_core.specs.Run.{route_of, routes_of}
use Rattle.cy_run.specs.Passes.{IsMadeOf}
use Rattle.cy_run.specs.private.Sending.{delivered, filled_all, triggered, fills_at, fills_in, news_at, is_first, IsReadBy, Owes, Fills, FillsOn, Tells, TellsOn}
use Rattle.cy_run.proofs.Delivering.{role_filled, filled_news, filled_is, component_begun, news_begun}

pub inside_is : (routes : List Route) (c : ℕ) (x : Route) → slice_get routes c ≡ Some x → c < length routes
inside_is [] c x at = cc
inside_is (y ∷ routes) zero x at = omega arith
inside_is (y ∷ routes) (suc c) x at = omega (arith, inside_is routes c x at)

first_is : (fills rest : List (ℕ × ℕ)) (x : ℕ × ℕ) → fills ≡ x ∷ rest → (fills ≡ x ∷ later_fills fills) × (later_fills fills ≡ rest)
first_is fills rest x e = (e ∙ ap (λ l. x ∷ l) (sym (ap later_fills e)), ap later_fills e)

pub fills_begin : (t : FlagTable) (token : Token) (p : Pass) → Fills t token p → FillsOn t token p p
fills_begin t token p f = record {
  stays = record { at = f.seated.at; number = refl };
  fills = record { seated = f.seated; message = f.message };
  out = refl;
  onward = refl;
}

pub can_fill : (t : FlagTable) (token : Token) (p : Pass) (c j : ℕ) (readers : List ℕ) → Fills t token p → IsReadBy t c readers → j < length readers → get_or readers j 0 ≡ token.channel
    → (seat_of p).fills ≡ fills_in (made_of t).routes token.channel c j readers → CanFill t p c j token
can_fill t token p c j readers f r lt is fills = record {
  visit = record { at = f.seated.at; bare = f.seated.visit; inside = inside_is (made_of t).routes c r.route r.at };
  owes = (first_is (seat_of p).fills (fills_in (made_of t).routes token.channel c (j + 1) readers) (c, j) (fills ∙ role_filled (made_of t).routes token.channel c j readers lt is)).0;
  message = sym f.message;
  reader = subst (λ (o : Option Route). j < option_map_or (λ (x : Route). length x.readers) o 0) (sym (ap (λ (l : List Route). slice_get l c) f.seated.routes ∙ r.at)) (subst (λ l. j < length l) (sym r.readers_are) lt);
}

-- All were filled: what is news then.
pub all_filled : (t : FlagTable) (token : Token) (p q : Pass) → Owes t token p → FillsOn t token p q → (seat_of q).fills ≡ [] → (seat_of q).news ≡ news_at (made_of t).routes token.channel 0
all_filled t token p q o f none =
    let seat : seat_of q ≡ filled_all (seat_of p).fills (seat_of p) = sym (ap (λ l. filled_all l (seat_of q)) none) ∙ f.onward in
    ap (λ (v : Seat). v.news) seat ∙ (filled_news (seat_of p).fills (seat_of p) ∙ (ap (λ l. l ++ triggered (seat_of p).fills) o.news ∙ ap triggered o.fills))

pub all_told : (t : FlagTable) (token : Token) (p q u : Pass) → Owes t token p → FillsOn t token p q → (seat_of q).fills ≡ [] → TellsOn t q u → (seat_of u).news ≡ [] → thread_of u ≡ knowing p (delivered (seat_of p))
all_told t token p q u o f none g quiet =
    let seat : seat_of q ≡ filled_all (seat_of p).fills (seat_of p) = sym (ap (λ l. filled_all l (seat_of q)) none) ∙ f.onward in
    let now : record (seat_of q) { news = (seat_of u).news } ≡ delivered (seat_of p) =
    ap (λ l. record (seat_of q) { news = l }) quiet ∙ (ap (λ (v : Seat). record v { news = [] }) seat ∙ filled_is (seat_of p).fills (seat_of p) o.seated.visit refl) in
    g.thread ∙ (ap (λ (v : Seat). knowing q v) now ∙ ap (λ l. (delivered (seat_of p), l)) f.out)

pub can_look : (t : FlagTable) (p : Pass) (c : ℕ) (rest : List ℕ) (x : Route) → Tells t p → slice_get (made_of t).routes c ≡ Some x → (seat_of p).news ≡ c ∷ rest → CanLook t p c
can_look t p c rest x f at news = record {
  at = f.seated.at;
  filled = f.filled;
  news = news ∙ ap (λ l. c ∷ l) (sym (ap but_first news));
  inside = inside_is (made_of t).routes c x at;
}

pub tells_more : (t : FlagTable) (p q u : Pass) (c : ℕ) (rest : List ℕ) → Tells t q → TellsOn t p q → Stays t q u → (seat_of q).news ≡ c ∷ rest → thread_of u ≡ knowing q (after_look (seat_of q))
    → Tells t u × TellsOn t p u × ((seat_of u).news ≡ rest)
tells_more t p q u c rest f g s news told =
    let seat : seat_of u ≡ after_look (seat_of q) = ap (λ (m : Thread). m.0) told in
    let before : seat_of q ≡ record (seat_of p) { news = (seat_of q).news } = ap (λ (m : Thread). m.0) g.thread in (
      record {
        seated = record {
          at = s.at;
          here = ap (λ (v : Seat). v.live) seat ∙ f.seated.here;
          routes = ap (λ (v : Seat). v.routes) seat ∙ f.seated.routes;
          counts = ap (λ (v : Seat). v.counts) seat ∙ f.seated.counts;
          stop = ap (λ (v : Seat). v.stop) seat ∙ f.seated.stop;
          visit = ap (λ (v : Seat). v.visit) seat ∙ f.seated.visit;
          tape = ap (λ (v : Seat). v.tape) seat ∙ f.seated.tape;
        };
        filled = ap (λ (v : Seat). v.fills) seat ∙ f.filled;
      },
      record {
        stays = record { at = s.at; number = s.number ∙ g.stays.number };
        thread = told ∙ (ap (λ (v : Seat). knowing q (record v { news = but_first (seat_of q).news })) before
            ∙ (ap (λ l. knowing q (record (seat_of p) { news = l })) (sym (ap (λ (v : Seat). v.news) seat)) ∙ ap (λ (m : Thread). (record (seat_of p) { news = (seat_of u).news }, m.1)) g.thread));
      },
      ap (λ (v : Seat). v.news) seat ∙ ap but_first news,
    )

-- A component's readers are those of its plan.
pub read_by : (t : FlagTable) (plans items : List Plan) (c : ℕ) (d : Plan) (readers : List ℕ) → IsMadeOf t plans → items ≡ plans → c < length items → d ≡ get_or items c d → readers ≡ d.readers → IsReadBy t c readers
read_by t plans items c d readers made same lt is reads = record {
  route = route_of d;
  at = ap (λ (l : List Route). slice_get l c) (made ∙ ap routes_of (sym same)) ∙ at_route items c d lt is;
  readers_are = sym reads;
}
  where
    at_route : (xs : List Plan) (k : ℕ) (d : Plan) → k < length xs → d ≡ get_or xs k d → slice_get (routes_of xs) k ≡ Some (route_of d)
    at_route [] k d lt is = absurd (none k lt)
      where
        none : (k : ℕ) → k < 0 → ⊥
        none k lt = omega (arith, lt)
    at_route (x ∷ xs) zero d lt is = ap (λ (y : Plan). Some (route_of y)) (sym is)
    at_route (x ∷ xs) (suc k) d lt is = at_route xs k d (omega (arith, lt)) is

pub fill_begin : (t : FlagTable) (token : Token) (c : ℕ) (readers : List ℕ) → IsReadBy t c readers → fills_at (made_of t).routes token.channel c ≡ fills_in (made_of t).routes token.channel c 0 readers
fill_begin t token c readers r = component_begun (made_of t).routes token.channel c r.route r.at ∙ ap (λ l. fills_in (made_of t).routes token.channel c 0 l) r.readers_are

news_first : (t : FlagTable) (channel c : ℕ) (readers : List ℕ) → IsReadBy t c readers
    → news_at (made_of t).routes channel c ≡ cond (is_first channel readers) (c ∷ news_at (made_of t).routes channel (c + 1)) (news_at (made_of t).routes channel (c + 1))
news_first t channel c readers r =
    news_begun (made_of t).routes channel c r.route r.at
    ∙ ap (λ l. cond (is_first channel l) (c ∷ news_at (made_of t).routes channel (c + 1)) (news_at (made_of t).routes channel (c + 1))) r.readers_are

news_hit : (t : FlagTable) (channel c : ℕ) (readers news : List ℕ) → IsReadBy t c readers → is_first channel readers ≡ true → news ≡ news_at (made_of t).routes channel c → news ≡ c ∷ news_at (made_of t).routes channel (c + 1)
news_hit t channel c readers news r hit is =
    is ∙ (news_first t channel c readers r ∙ ap (λ b. cond b (c ∷ news_at (made_of t).routes channel (c + 1)) (news_at (made_of t).routes channel (c + 1))) hit)

pub look_at : (t : FlagTable) (channel : ℕ) (p : Pass) (c : ℕ) (readers : List ℕ) → Tells t p → IsReadBy t c readers → is_first channel readers ≡ true → (seat_of p).news ≡ news_at (made_of t).routes channel c → CanLook t p c
look_at t channel p c readers f r hit news = can_look t p c (news_at (made_of t).routes channel (c + 1)) r.route f r.at (news_hit t channel c readers (seat_of p).news r hit news)

pub looked_at : (t : FlagTable) (channel : ℕ) (p q u : Pass) (c : ℕ) (readers : List ℕ) → Tells t q → TellsOn t p q → IsReadBy t c readers → is_first channel readers ≡ true
    → (seat_of q).news ≡ news_at (made_of t).routes channel c → Stays t q u → thread_of u ≡ knowing q (after_look (seat_of q)) → Tells t u × TellsOn t p u × ((seat_of u).news ≡ news_at (made_of t).routes channel (c + 1))
looked_at t channel p q u c readers f g r hit news s told = tells_more t p q u c (news_at (made_of t).routes channel (c + 1)) f g s (news_hit t channel c readers (seat_of q).news r hit news) told

pub passed_over : (t : FlagTable) (channel c : ℕ) (readers news : List ℕ) → IsReadBy t c readers → is_first channel readers ≡ false → news ≡ news_at (made_of t).routes channel c → news ≡ news_at (made_of t).routes channel (c + 1)
passed_over t channel c readers news r miss is =
    is ∙ (news_first t channel c readers r ∙ ap (λ b. cond b (c ∷ news_at (made_of t).routes channel (c + 1)) (news_at (made_of t).routes channel (c + 1))) miss)
