-- What is played next, of messages and ticks.
use Rattle.std.proofs.Common.{ℕ, zero, suc, ◌+◌, ◌≡◌, ◌≤◌, ◌<◌, Bool, true, false, cond, List, [], ◌∷◌, ◌++◌, length, slice_get, get_or, set, refl, sym, ap, ◌∙◌, subst, arith, append_assoc, Option, Some, None, inl, inr}
use Rattle.std.specs.Prelude.{nat_lt, MatchOption, ◌⊎◌}
use Rattle.std.specs.List.{flat_map}
use Rattle.std.proofs.lemmas.Bool.{leb-true, leb-false, ltb-true, ltb-false, false≢true}
use Rattle.std.proofs.lemmas.Option.{none-some, same_Some, get_or_from_slice_get}
use Rattle.cy_msg.specs.declared.token.Token.{Token}
use Rattle.cy_timer.specs.Merged.{by_time}
use Rattle.cy_timer.specs.private.Sources.{AreRising, BeginBehind, BeginFrom, IsAt, IsEarliest, TakesAt, all_left, begin_by, earlier_of, first_time}
use Rattle.cy_timer.proofs.Sorting.{Behind, Each, From, Rises, by_time-first, each-append, each-at, each-from, each-weaker, rises-from_timed, timed-from_rises}

abbrev flat : List (List Token) → List Token
flat = flat_map (λ (ts : List Token). ts)

messages-rise : (messages : List Token) (ticks : List (List Token)) → AreRising messages ticks → Rises messages
messages-rise messages ticks rising = rises-from_timed messages rising.of_messages

ticks-rise : (messages : List Token) (ticks : List (List Token)) → AreRising messages ticks → Each Rises ticks
ticks-rise messages ticks rising = each-from Rises ticks (λ k ts e. rises-from_timed ts (rising.of_ticks k ts e))

rising-from : (messages : List Token) (ticks : List (List Token)) → Rises messages → Each Rises ticks → AreRising messages ticks
rising-from messages ticks rises all = record {
  of_messages = timed-from_rises messages rises;
  of_ticks = λ k ts e. timed-from_rises ts (each-at Rises ticks k ts all e);
}

-- ticks that begin behind a time, or from it on, all do
all-behind : (time : ℕ) (ts : List Token) → BeginBehind time ts → Rises ts → Each (Behind time) ts
all-behind time [] begin rises = tt
all-behind time (t ∷ rest) begin rises = (begin, each-weaker (From t.time) (Behind time) (λ u h. omega (arith, begin, h)) rest rises.0)

all-from : (time : ℕ) (ts : List Token) → BeginFrom time ts → Rises ts → Each (From time) ts
all-from time [] begin rises = tt
all-from time (t ∷ rest) begin rises = (begin, each-weaker (From t.time) (From time) (λ u h. omega (arith, begin, h)) rest rises.0)

flat-from : (time : ℕ) (ticks : List (List Token)) → ((k : ℕ) → k < length ticks → BeginFrom time (get_or ticks k [])) → Each Rises ticks → Each (From time) (flat ticks)
flat-from time [] begin rises = tt
flat-from time (ts ∷ rest) begin rises =
    each-append (From time) ts (flat rest) (all-from time ts (begin 0 (omega arith)) rises.0) (flat-from time rest (λ k less. begin (suc k) (omega (arith, less))) rises.1)

flat-none : (ticks : List (List Token)) → ((k : ℕ) → k < length ticks → get_or ticks k [] ≡ []) → flat ticks ≡ []
flat-none [] none = refl
flat-none (ts ∷ rest) none = ap (λ (us : List Token). us ++ flat rest) (none 0 (omega arith)) ∙ flat-none rest (λ k less. none (suc k) (omega (arith, less)))

-- what stands before the first tick, and behind it
record Split (time : ℕ) (t : Token) (ticks new : List (List Token)) : Type 0 where
  front : List Token
  back : List Token
  whole : flat ticks ≡ front ++ t ∷ back
  rest : flat new ≡ front ++ back
  behind : Each (Behind time) front
  from : Each (From time) back

split : (time place : ℕ) (ticks : List (List Token)) (t : Token) (rest : List Token) → slice_get ticks place ≡ Some (t ∷ rest) → t.time ≡ time
    → ((k : ℕ) → k < place → BeginBehind time (get_or ticks k [])) → ((k : ℕ) → k < length ticks → BeginFrom time (get_or ticks k [])) → Each Rises ticks → Split time t ticks (set ticks place rest)
split time place [] t rest at is before all rises = absurd (none-some (t ∷ rest) at)
split time zero (ts ∷ more) t rest at is before all rises =
    let same : ts ≡ t ∷ rest = same_Some ts (t ∷ rest) at in
    let here : Rises (t ∷ rest) = subst Rises same rises.0 in
    record {
      front = [];
      back = rest ++ flat more;
      whole = ap (λ (us : List Token). us ++ flat more) same;
      rest = refl;
      behind = tt;
      from = each-append (From time) rest (flat more) (subst (λ (n : ℕ). Each (From n) rest) is here.0) (flat-from time more (λ k less. all (suc k) (omega (arith, less))) rises.1);
    }
split time (suc place) (ts ∷ more) t rest at is before all rises =
    let s = split time place more t rest at is (λ k less. before (suc k) (omega (arith, less))) (λ k less. all (suc k) (omega (arith, less))) rises.1 in
    record {
      front = ts ++ s.front;
      back = s.back;
      whole = ap (λ (us : List Token). ts ++ us) s.whole ∙ sym (append_assoc ts s.front (t ∷ s.back));
      rest = ap (λ (us : List Token). ts ++ us) s.rest ∙ sym (append_assoc ts s.front s.back);
      behind = each-append (Behind time) ts s.front (all-behind time ts (before 0 (omega arith)) rises.0) s.behind;
      from = s.from;
    }

-- no message is left by a time
messages-behind : (messages : List Token) (time : ℕ) → false ≡ begin_by messages time → Rises messages → Each (Behind time) messages
messages-behind [] time late rises = tt
messages-behind (t ∷ rest) time late rises = all-behind time (t ∷ rest) (leb-false t.time time (sym late)) rises

-- a tick is taken
pub tick_taken : (messages : List Token) (ticks : List (List Token)) (place time : ℕ) (t : Token) (new_messages : List Token) (new : List (List Token)) → AreRising messages ticks
    → IsAt ticks (length ticks) place time → false ≡ begin_by messages time → new_messages ≡ messages → TakesAt ticks place t new
    → by_time (all_left messages ticks) ≡ t ∷ by_time (all_left new_messages new)
tick_taken messages ticks place time t new_messages new rising at late same takes =
    let here : t.time ≡ time = same_Some t.time time (sym (ap first_time (get_or_from_slice_get ticks place (t ∷ takes.rest) [] takes.at)) ∙ at.head) in
    let s = split time place ticks t takes.rest takes.at here at.before at.all (ticks-rise messages ticks rising) in
    let behind : Each (Behind t.time) (messages ++ s.front) = subst (λ (n : ℕ). Each (Behind n) (messages ++ s.front)) (sym here) (each-append (Behind time) messages s.front (messages-behind messages time late (messages-rise messages ticks rising)) s.behind) in
    let from : Each (From t.time) s.back = subst (λ (n : ℕ). Each (From n) s.back) (sym here) s.from in
    ap (λ (us : List Token). by_time (messages ++ us)) s.whole
    ∙ ap by_time (sym (append_assoc messages s.front (t ∷ s.back)))
    ∙ by_time-first (messages ++ s.front) t s.back behind from
    ∙ ap (λ (us : List Token). t ∷ by_time us) (append_assoc messages s.front s.back ∙ ap (λ (us : List Token). messages ++ us) (sym s.rest) ∙ (λ i. all_left (sym same i) (sym takes.left i)))

-- a message is taken
message_first : (messages : List Token) (ticks : List (List Token)) (t : Token) (rest : List Token) (new : List (List Token)) → Rises messages → messages ≡ t ∷ rest → new ≡ ticks → Each (From t.time) (flat ticks)
    → by_time (all_left messages ticks) ≡ t ∷ by_time (all_left rest new)
message_first messages ticks t rest new rises is same from =
    let here : Rises (t ∷ rest) = subst Rises is rises in
    ap (λ (us : List Token). by_time (us ++ flat ticks)) is
    ∙ by_time-first [] t (rest ++ flat ticks) tt (each-append (From t.time) rest (flat ticks) here.0 from)
    ∙ ap (λ (xs : List (List Token)). t ∷ by_time (all_left rest xs)) (sym same)

-- What `take_message` did.
abbrev pub Took : List Token → List Token → Option Token → Type 0
Took old new result = MatchOption result (old ≡ []) (λ t. old ≡ t ∷ new)

pub message_taken : (messages : List Token) (ticks : List (List Token)) (place time : ℕ) (result : Option Token) (rest : List Token) (new : List (List Token)) → AreRising messages ticks
    → IsAt ticks (length ticks) place time → true ≡ begin_by messages time → Took messages rest result → new ≡ ticks
    → MatchOption result (all_left messages ticks ≡ []) (λ t. by_time (all_left messages ticks) ≡ t ∷ by_time (all_left rest new))
message_taken messages ticks place time None rest new rising at early took same =
    absurd (false≢true (ap (λ (ms : List Token). begin_by ms time) (sym took) ∙ sym early))
message_taken messages ticks place time (Some t) rest new rising at early took same =
    let head : t.time ≤ time = leb-true t.time time (sym (early ∙ ap (λ (ms : List Token). begin_by ms time) took)) in
    message_first messages ticks t rest new (messages-rise messages ticks rising) took same (each-weaker (From time) (From t.time) (λ u h. omega (arith, head, h)) (flat ticks) (flat-from time ticks at.all (ticks-rise messages ticks rising)))

pub last_taken : (messages : List Token) (ticks : List (List Token)) (result : Option Token) (rest : List Token) (new : List (List Token)) → AreRising messages ticks → IsEarliest ticks (length ticks) None → Took messages rest result → new ≡ ticks
    → MatchOption result (all_left messages ticks ≡ []) (λ t. by_time (all_left messages ticks) ≡ t ∷ by_time (all_left rest new))
last_taken messages ticks None rest new rising none took same =
    ap (λ (ms : List Token). ms ++ flat ticks) took ∙ flat-none ticks none
last_taken messages ticks (Some t) rest new rising none took same =
    message_first messages ticks t rest new (messages-rise messages ticks rising) took same (subst (Each (From t.time)) (sym (flat-none ticks none)) tt)

-- what rises still does
pub rest-rising : (messages : List Token) (t : Token) (rest : List Token) (ticks : List (List Token)) → messages ≡ t ∷ rest → AreRising messages ticks → AreRising rest ticks
rest-rising messages t rest ticks is rising = rising-from rest ticks (subst Rises is (messages-rise messages ticks rising)).1 (ticks-rise messages ticks rising)

set-rises : (ticks : List (List Token)) (place : ℕ) (t : Token) (rest : List Token) → slice_get ticks place ≡ Some (t ∷ rest) → Each Rises ticks → Each Rises (set ticks place rest)
set-rises [] place t rest at rises = rises
set-rises (ts ∷ more) zero t rest at rises = ((subst Rises (same_Some ts (t ∷ rest) at) rises.0).1, rises.1)
set-rises (ts ∷ more) (suc place) t rest at rises = (rises.0, set-rises more place t rest at rises.1)

pub taken-rising : (messages : List Token) (ticks : List (List Token)) (place : ℕ) (t : Token) (new : List (List Token)) → TakesAt ticks place t new → AreRising messages ticks → AreRising messages new
taken-rising messages ticks place t new takes rising =
    rising-from messages new (messages-rise messages ticks rising) (subst (Each Rises) (sym takes.left) (set-rises ticks place t takes.rest takes.at (ticks-rise messages ticks rising)))

-- one more timer is looked at
begin-from : (low time : ℕ) (ts : List Token) → low ≤ time → BeginFrom time ts → BeginFrom low ts
begin-from low time [] less begin = tt
begin-from low time (t ∷ rest) less begin = omega (arith, less, begin)

begin-behind : (low time : ℕ) (ts : List Token) → low < time → BeginFrom time ts → BeginBehind low ts
begin-behind low time [] less begin = tt
begin-behind low time (t ∷ rest) less begin = omega (arith, less, begin)

no-head : (ts : List Token) → None ≡ first_time ts → ts ≡ []
no-head [] e = refl
no-head (t ∷ rest) e = absurd (none-some t.time e)

head-from : (low time : ℕ) (ts : List Token) → Some time ≡ first_time ts → low ≤ time → BeginFrom low ts
head-from low time [] e less = tt
head-from low time (t ∷ rest) e less = let same = same_Some time t.time e in omega (arith, same, less)

head-behind : (low time : ℕ) (ts : List Token) → Some time ≡ first_time ts → low < time → BeginBehind low ts
head-behind low time [] e less = tt
head-behind low time (t ∷ rest) e less = let same = same_Some time t.time e in omega (arith, same, less)

none-from : (low : ℕ) (ts : List Token) → ts ≡ [] → BeginFrom low ts
none-from low ts e = subst (BeginFrom low) (sym e) tt

none-behind : (low : ℕ) (ts : List Token) → ts ≡ [] → BeginBehind low ts
none-behind low ts e = subst (BeginBehind low) (sym e) tt

split-last : (k n : ℕ) → k < n + 1 → (k < n) ⊎ (k ≡ n)
split-last k n less = grind arith

pub earlier-more : (ticks : List (List Token)) (n : ℕ) (first : Option (ℕ × ℕ)) (next : Option ℕ) → IsEarliest ticks n first → next ≡ first_time (get_or ticks n []) → IsEarliest ticks (n + 1) (earlier_of first n next)
earlier-more ticks n None None is next = λ k less. elim (split-last k n less) [
  | inl before ↦ is k before
  | inr same ↦ ap (λ (j : ℕ). get_or ticks j []) same ∙ no-head (get_or ticks n []) next
]
earlier-more ticks n None (Some time) is next = record {
  there = omega arith;
  head = sym next;
  before = λ k less. none-behind time (get_or ticks k []) (is k less);
  all = λ k less. elim (split-last k n less) [
    | inl before ↦ none-from time (get_or ticks k []) (is k before)
    | inr same ↦ subst (λ (j : ℕ). BeginFrom time (get_or ticks j [])) (sym same) (head-from time time (get_or ticks n []) next (omega arith))
  ];
}
earlier-more ticks n (Some p) None is next =
    let there = is.there in
    record {
      there = omega (arith, there);
      head = is.head;
      before = is.before;
      all = λ k less. elim (split-last k n less) [
        | inl before ↦ is.all k before
        | inr same ↦ subst (λ (j : ℕ). BeginFrom p.1 (get_or ticks j [])) (sym same) (none-from p.1 (get_or ticks n []) (no-head (get_or ticks n []) next))
      ];
    }
earlier-more ticks n (Some p) (Some time) is next = by_test (nat_lt time p.1) refl
  where
    by_test : (b : Bool) → nat_lt time p.1 ≡ b → IsEarliest ticks (n + 1) (cond b (Some (n, time)) (Some p))
    by_test true e =
        let less_time = ltb-true time p.1 e in
        record {
          there = omega arith;
          head = sym next;
          before = λ k less. begin-behind time p.1 (get_or ticks k []) less_time (is.all k less);
          all = λ k less. elim (split-last k n less) [
            | inl before ↦ begin-from time p.1 (get_or ticks k []) (omega (arith, less_time)) (is.all k before)
            | inr same ↦ subst (λ (j : ℕ). BeginFrom time (get_or ticks j [])) (sym same) (head-from time time (get_or ticks n []) next (omega arith))
          ];
        }
    by_test false e =
        let there = is.there in
        let not_before = ltb-false time p.1 e in
        record {
          there = omega (arith, there);
          head = is.head;
          before = is.before;
          all = λ k less. elim (split-last k n less) [
            | inl before ↦ is.all k before
            | inr same ↦ subst (λ (j : ℕ). BeginFrom p.1 (get_or ticks j [])) (sym same) (head-from p.1 time (get_or ticks n []) next not_before)
          ];
        }
