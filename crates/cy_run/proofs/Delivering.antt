-- A message goes to its readers, one after another.
use Rattle.std.proofs.Common.{ℕ, ◌+◌, ◌≡◌, ◌≤◌, ◌<◌, ◌==◌, ◌∙◌, cond, Bool, true, false, List, [], ◌∷◌, ◌++◌, refl, sym, ap, arith, append_assoc, length, drop, get_or, Option, Some, None, zero, suc}
use Rattle.std.proofs.lemmas.Bool.Decides.{nat_tests}
use Rattle.std.proofs.lemmas.List.{drop_more}
use Rattle.std.specs.Prelude.{slice_get}
use Rattle.wake_core.specs.declared.route.Route.{Route}
use Rattle.wake_core.specs.Run.{readers_from, roles_of}
use Rattle.cy_table.specs.Seats.{Seat, Visit}
use Rattle.cy_table.specs.Steps.{filling}
use Rattle.cy_run.specs.private.Sending.{delivered, filled_all, triggered, fills_at, fills_in, news_at, is_first}

-- The readers from one role of a component on.
pub role_filled : (routes : List Route) (ch c j : ℕ) (readers : List ℕ) → j < length readers → get_or readers j 0 ≡ ch → fills_in routes ch c j readers ≡ (c, j) ∷ fills_in routes ch c (j + 1) readers
role_filled routes ch c j readers lt is =
    ap (λ l. roles_of ch c j l ++ fills_at routes ch (c + 1)) (drop_more readers j 0 lt)
    ∙ ap (λ b. cond b ((c, j) ∷ roles_of ch c (j + 1) (drop (j + 1) readers)) (roles_of ch c (j + 1) (drop (j + 1) readers)) ++ fills_at routes ch (c + 1)) (the_same (get_or readers j 0) ch is)
  where
    the_same : (x y : ℕ) → x ≡ y → (x == y) ≡ true
    the_same x y e = grind (arith, nat_tests, e)

-- The readers from one component on.
rest_is : (routes : List Route) (c : ℕ) (x : Route) → slice_get routes c ≡ Some x → drop c routes ≡ x ∷ drop (c + 1) routes
rest_is [] c x at = cc
rest_is (y ∷ routes) zero x at = ap (λ z. z ∷ routes) (first at)
  where
    first : Some y ≡ Some x → y ≡ x
    first e = cc
rest_is (y ∷ routes) (suc c) x at = rest_is routes c x at ∙ ap (λ n. x ∷ drop n (y ∷ routes)) (next c)
  where
    next : (c : ℕ) → suc (c + 1) ≡ suc c + 1
    next c = omega arith

pub component_begun : (routes : List Route) (ch c : ℕ) (x : Route) → slice_get routes c ≡ Some x → fills_at routes ch c ≡ fills_in routes ch c 0 x.readers
component_begun routes ch c x at = ap (readers_from ch c) (rest_is routes c x at)

-- The components that are triggered from one on.
none_later : (ch c j : ℕ) (readers : List ℕ) (rest : List (ℕ × ℕ)) → (j == 0) ≡ false → triggered (roles_of ch c j readers ++ rest) ≡ triggered rest
none_later ch c j [] rest later = refl
none_later ch c j (r ∷ readers) rest later = by (r == ch) (none_later ch c (j + 1) readers rest (not_zero j))
  where
    not_zero : (k : ℕ) → (k + 1 == 0) ≡ false
    not_zero k = grind (arith, nat_tests)

    by : (b : Bool) → triggered (roles_of ch c (j + 1) readers ++ rest) ≡ triggered rest → triggered (cond b ((c, j) ∷ roles_of ch c (j + 1) readers) (roles_of ch c (j + 1) readers) ++ rest) ≡ triggered rest
    by true more = ap (λ b. cond b (c ∷ triggered (roles_of ch c (j + 1) readers ++ rest)) (triggered (roles_of ch c (j + 1) readers ++ rest))) later ∙ more
    by false more = more

news_of : (ch c : ℕ) (readers : List ℕ) (rest : List (ℕ × ℕ)) → triggered (roles_of ch c 0 readers ++ rest) ≡ cond (is_first ch readers) (c ∷ triggered rest) (triggered rest)
news_of ch c [] rest = refl
news_of ch c (r ∷ readers) rest = by (r == ch)
  where
    by : (b : Bool) → triggered (cond b ((c, 0) ∷ roles_of ch c 1 readers) (roles_of ch c 1 readers) ++ rest) ≡ cond b (c ∷ triggered rest) (triggered rest)
    by true = ap (λ l. c ∷ l) (none_later ch c 1 readers rest refl)
    by false = none_later ch c 1 readers rest refl

pub news_begun : (routes : List Route) (ch c : ℕ) (x : Route) → slice_get routes c ≡ Some x → news_at routes ch c ≡ cond (is_first ch x.readers) (c ∷ news_at routes ch (c + 1)) (news_at routes ch (c + 1))
news_begun routes ch c x at = ap triggered (component_begun routes ch c x at) ∙ news_of ch c x.readers (fills_at routes ch (c + 1))

-- When all readers were filled, the components that are triggered are news; and once they were
-- looked at, the message was delivered.
pub filled_news : (fills : List (ℕ × ℕ)) (v : Seat) → (filled_all fills v).news ≡ v.news ++ triggered fills
filled_news [] v = sym (Rattle.std.proofs.Common.append-nil v.news)
filled_news (r ∷ rest) v = filled_news rest (filling v r.0 r.1 rest) ∙ by (r.1 == 0)
  where
    by : (b : Bool) → cond b (v.news ++ r.0 ∷ []) v.news ++ triggered rest ≡ v.news ++ cond b (r.0 ∷ triggered rest) (triggered rest)
    by true = append_assoc v.news (r.0 ∷ []) (triggered rest)
    by false = refl

pub filled_is : (fills : List (ℕ × ℕ)) (v : Seat) → v.visit ≡ None → v.fills ≡ fills → record (filled_all fills v) { news = [] } ≡ delivered v
filled_is [] v visit none = ap (λ (u : Option Visit). record v { visit = u; news = [] }) visit ∙ ap (λ (u : List (ℕ × ℕ)). record v { visit = None; fills = u; news = [] }) none
filled_is (r ∷ rest) v visit is = filled_is rest (filling v r.0 r.1 rest) refl refl
