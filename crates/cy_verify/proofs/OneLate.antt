-- Which calls have a late message.
use Rattle.std.proofs.Common.{ℕ, zero, suc, ◌+◌, ◌-◌, ◌≡◌, ◌⊎◌, ◌≤◌, ◌<◌, ◌==◌, inl, inr, Bool, true, false, ◌||◌, cond, refl, sym, ◌∙◌, ap, subst, arith, List, [], ◌∷◌, ◌++◌, length, length-append, take, drop, filter, map, if◌then◌else◌, is_some, Some, slice_get, slice_index, nat_lt}
use Rattle.std.proofs.lemmas.Bool.Decides.{nat_tests}
use Rattle.std.proofs.lemmas.Option.{slice_get_within}
use Rattle.std.specs.Bool.{Decides}
use Rattle.cy_msg.specs.declared.token.Token.{Token}
use Rattle.cy_msg.specs.Tuple.{messages_of}
use Rattle.cy_msg.specs.Tokens.{on_channel, IsNumbered}
use Rattle.cy_msg.proofs.Lists.{take_next, either}
use Rattle.cy_comp.specs.declared.call.Call.{Call}
use Rattle.wake_core.specs.declared.route.Route.{Route}
use Rattle.wake_core.specs.Sound.{StandsOn, IsLate, HasLate}
use Rattle.wake_core.proofs.Cited.{on_channel-own}
use Rattle.cy_trace.specs.TraceOfRun.{trace_call, trace_calls}
use Rattle.cy_trace.specs.declared.trace.TraceCall.{TraceCall}
use Rattle.cy_verify.specs.private.Passes.{IsEarly, late_from, late_seqs, TakesFrom, HasOneLate}
use Rattle.cy_verify.proofs.EarlyTape.{rises}

some_is : {X : Type 0} {a b : X} → Some a ≡ Some b → a ≡ b
some_is e = cc

-- What stands among those that pass a test stands among all.
passed_at : {X : Type 0} (p : X → Bool) (xs : List X) (n : ℕ) (x : X) → slice_get (filter p xs) n ≡ Some x → (i : ℕ) × (slice_get xs i ≡ Some x)
passed_at p [] n x e = cc
passed_at p (y ∷ xs) n x e = go (λ m e. passed_at p xs m x e) (p y) n e
  where
    later : (i : ℕ) × (slice_get xs i ≡ Some x) → (i : ℕ) × (slice_get (y ∷ xs) i ≡ Some x)
    later h = (suc h.0, h.1)

    go : ((m : ℕ) → slice_get (filter p xs) m ≡ Some x → (i : ℕ) × (slice_get xs i ≡ Some x)) → (b : Bool) → (n : ℕ) → slice_get (cond b (y ∷ filter p xs) (filter p xs)) n ≡ Some x
        → (i : ℕ) × (slice_get (y ∷ xs) i ≡ Some x)
    go rest true zero e = (zero, e)
    go rest true (suc n) e = later (rest n e)
    go rest false n e = later (rest n e)

-- A number is below another one, or not.
below : (m n : ℕ) → (m < n) ⊎ (n ≤ m)
below m zero = inr (omega arith)
below zero (suc n) = inl (omega arith)
below (suc m) (suc n) = elim (below m n) [ inl h ↦ inl (omega (arith, h)) | inr h ↦ inr (omega (arith, h)) ]

module _ (routes : List Route) (after : ℕ) (tape : List Token) (early : ℕ) where
  -- On a numbered tape a message is late where its number is greater than how many are early.
  number_late : IsNumbered tape → IsEarly routes after tape early → (m : Token) → StandsOn tape m → length (on_channel m.channel (take early tape)) < m.seq → IsLate routes after tape m
  number_late numbered e m stands l =
      let r = passed_at (λ (t : Token). t.channel == m.channel) tape (m.seq - 1) m stands in
      elim (below r.0 early) [
        | inl h ↦
            let upto : length (on_channel m.channel (take (r.0 + 1) tape)) ≡ length (on_channel m.channel (take r.0 tape)) + 1 =
            ap (λ (xs : List Token). length (on_channel m.channel xs)) (take_next tape r.0 m r.1) ∙ ap length (on_channel-own m.channel (take r.0 tape) m refl) ∙ one_more (on_channel m.channel (take r.0 tape)) m in
            let no_more = rises (λ (t : Token). t.channel == m.channel) tape (r.0 + 1) early (omega (arith, h)) in
            absurd (omega (arith, upto, no_more, l, numbered r.0 m r.1))
        | inr h ↦ record { place = r.0; there = r.1; late = e.more r.0 h (slice_get_within tape r.0 m r.1) }
      ]
    where
      one_more : (xs : List Token) (t : Token) → length (xs ++ t ∷ []) ≡ length xs + 1
      one_more xs t = length-append xs (t ∷ [])

  late_number : IsNumbered tape → IsEarly routes after tape early → (m : Token) → IsLate routes after tape m → length (on_channel m.channel (take early tape)) < m.seq
  late_number numbered e m h = elim (below h.place early) [
    | inl l ↦ let few = e.few h.place l in absurd (omega (arith, few, h.late))
    | inr l ↦ let no_more = rises (λ (t : Token). t.channel == m.channel) tape early h.place l in omega (arith, no_more, numbered h.place m h.there)
  ]

late_some : (r : ℕ) (ms : List Token) (before : List ℕ) → late_from r ms before ≡ true → (j : ℕ) × (m : Token) × (slice_get ms j ≡ Some m) × (slice_index before (r + j) < m.seq)
late_some r [] before e = cc
late_some r (m ∷ ms) before e = elim (either (nat_lt (slice_index before r) m.seq) (late_from (r + 1) ms before) e) [
  | inl h ↦ let same : r ≡ r + 0 = omega arith in (0, m, refl, subst (λ k. slice_index before k < m.seq) same (less (slice_index before r) m.seq h))
  | inr h ↦ let i = late_some (r + 1) ms before h in let same : r + 1 + i.0 ≡ r + suc i.0 = omega arith in (suc i.0, i.1, i.2, subst (λ k. slice_index before k < i.1.seq) same i.3)
]
  where
    less : (a b : ℕ) → nat_lt a b ≡ true → a < b
    less a b e = grind (arith, nat_tests, e)

some_late : (r : ℕ) (ms : List Token) (before : List ℕ) (j : ℕ) (m : Token) → slice_get ms j ≡ Some m → slice_index before (r + j) < m.seq → late_from r ms before ≡ true
some_late r [] before j m at l = cc
some_late r (x ∷ ms) before zero m at l =
    let same : r + 0 ≡ r = omega arith in
    let is : x ≡ m = some_is at in
    ap (λ b. b || late_from (r + 1) ms before) (tested (slice_index before r) x.seq (subst (λ (t : Token). slice_index before r < t.seq) (sym is) (subst (λ k. slice_index before k < m.seq) same l)))
  where
    tested : (a b : ℕ) → a < b → nat_lt a b ≡ true
    tested a b l = grind (arith, nat_tests, l)
some_late r (x ∷ ms) before (suc j) m at l =
    let same : r + suc j ≡ r + 1 + j = omega arith in
    right (nat_lt (slice_index before r) x.seq) (late_from (r + 1) ms before) (some_late (r + 1) ms before j m at (subst (λ k. slice_index before k < m.seq) same l))
  where
    right : (a b : Bool) → b ≡ true → a || b ≡ true
    right true b e = refl
    right false b e = e

-- Where one of a list passes a test, one of the list is counted.
some_passes : {X : Type 0} (p : X → Bool) (xs : List X) (n : ℕ) (x : X) → slice_get xs n ≡ Some x → p x ≡ true → 1 ≤ length (filter p xs)
some_passes p [] n x at is = cc
some_passes p (y ∷ xs) zero x at is = go (p y) (ap p (some_is at) ∙ is)
  where
    go : (b : Bool) → b ≡ true → 1 ≤ length (cond b (y ∷ filter p xs) (filter p xs))
    go true e = omega arith
    go false e = cc
some_passes p (y ∷ xs) (suc n) x at is = go (some_passes p xs n x at is) (p y)
  where
    go : 1 ≤ length (filter p xs) → (b : Bool) → 1 ≤ length (cond b (y ∷ filter p xs) (filter p xs))
    go l true = omega arith
    go l false = l

none_passes : {X : Type 0} (p : X → Bool) (xs : List X) → ((n : ℕ) (x : X) → slice_get xs n ≡ Some x → p x ≡ true → ⊥) → length (filter p xs) ≡ 0
none_passes p [] none = refl
none_passes p (y ∷ xs) none = go (none_passes p xs (λ n. none (suc n))) (p y) (none 0 y refl)
  where
    go : length (filter p xs) ≡ 0 → (b : Bool) → (b ≡ true → ⊥) → length (cond b (y ∷ filter p xs) (filter p xs)) ≡ 0
    go rest true bad = absurd (bad refl)
    go rest false bad = rest

few_one : {X : Type 0} (p : X → Bool) (xs : List X) → length (filter p xs) ≤ 1 → (m n : ℕ) (x y : X) → slice_get xs m ≡ Some x → slice_get xs n ≡ Some y → p x ≡ true → p y ≡ true → m ≡ n
few_one p [] few m n x y a b pa pb = cc
few_one p (z ∷ xs) few zero zero x y a b pa pb = refl
few_one p (z ∷ xs) few zero (suc n) x y a b pa pb = absurd (two (p z) (ap p (some_is a) ∙ pa) few (some_passes p xs n y b pb))
  where
    two : (c : Bool) → c ≡ true → length (cond c (z ∷ filter p xs) (filter p xs)) ≤ 1 → 1 ≤ length (filter p xs) → ⊥
    two true e few some = omega (arith, few, some)
    two false e few some = cc
few_one p (z ∷ xs) few (suc m) zero x y a b pa pb = absurd (two (p z) (ap p (some_is b) ∙ pb) few (some_passes p xs m x a pa))
  where
    two : (c : Bool) → c ≡ true → length (cond c (z ∷ filter p xs) (filter p xs)) ≤ 1 → 1 ≤ length (filter p xs) → ⊥
    two true e few some = omega (arith, few, some)
    two false e few some = cc
few_one p (z ∷ xs) few (suc m) (suc n) x y a b pa pb = ap suc (few_one p xs (fewer (p z) few) m n x y a b pa pb)
  where
    fewer : (c : Bool) → length (cond c (z ∷ filter p xs) (filter p xs)) ≤ 1 → length (filter p xs) ≤ 1
    fewer true few = omega (arith, few)
    fewer false few = few

one_few : {X : Type 0} (p : X → Bool) (xs : List X) → ((m n : ℕ) (x y : X) → slice_get xs m ≡ Some x → slice_get xs n ≡ Some y → p x ≡ true → p y ≡ true → m ≡ n) → length (filter p xs) ≤ 1
one_few p [] one = omega arith
one_few p (z ∷ xs) one = go (one_few p xs (λ m n x y a b pa pb. less m n (one (suc m) (suc n) x y a b pa pb))) (p z) refl
  where
    less : (m n : ℕ) → suc m ≡ suc n → m ≡ n
    less m n e = omega (arith, e)

    zero_not : (n : ℕ) → 0 ≡ suc n → ⊥
    zero_not n e = omega (arith, e)

    go : length (filter p xs) ≤ 1 → (b : Bool) → p z ≡ b → length (cond b (z ∷ filter p xs) (filter p xs)) ≤ 1
    go rest false e = rest
    go rest true e = let none = none_passes p xs (λ n x at is. zero_not n (one 0 (suc n) z x refl at e is)) in omega (arith, none)

-- What is told of a call says whether a message of it is late.
late_alike : (r : ℕ) (ms : List Token) (before : List ℕ) → late_seqs r (map (λ (m : Token). m.seq) ms) before ≡ late_from r ms before
late_alike r [] before = refl
late_alike r (m ∷ ms) before = ap (λ (b : Bool). nat_lt (slice_index before r) m.seq || b) (late_alike (r + 1) ms before)

counted_alike : {X Y : Type 0} (a b : Bool) (x : X) (xs : List X) (y : Y) (ys : List Y) → a ≡ b → length xs ≡ length ys → length (cond a (x ∷ xs) xs) ≡ length (cond b (y ∷ ys) ys)
counted_alike true true x xs y ys e l = omega (arith, l)
counted_alike true false x xs y ys e l = cc
counted_alike false true x xs y ys e l = cc
counted_alike false false x xs y ys e l = l

late_told : (outputs : ℕ) (calls : List Call) (before : List ℕ)
    → length (filter (λ (x : TraceCall). late_seqs 0 x.seqs before) (trace_calls outputs calls)) ≡ length (filter (λ (x : Call). late_from 0 (messages_of x.tuple) before) calls)
late_told outputs [] before = refl
late_told outputs (x ∷ calls) before =
    let next : ℕ = outputs + (if is_some x.out then 1 else 0) in
    counted_alike (late_seqs 0 (map (λ (m : Token). m.seq) (messages_of x.tuple)) before) (late_from 0 (messages_of x.tuple) before)
    (trace_call outputs x) (filter (λ (y : TraceCall). late_seqs 0 y.seqs before) (trace_calls next calls)) x (filter (λ (y : Call). late_from 0 (messages_of y.tuple) before) calls)
    (late_alike 0 (messages_of x.tuple) before) (late_told next calls before)

-- The numbers of a call, one after another.
pub late_here : (seqs before : List ℕ) (r n : ℕ) → slice_get seqs r ≡ Some n → (k : ℕ) → late_seqs k (drop r seqs) before ≡ nat_lt (slice_index before k) n || late_seqs (k + 1) (drop (suc r) seqs) before
late_here [] before r n at k = cc
late_here (m ∷ seqs) before zero n at k = ap (λ (j : ℕ). nat_lt (slice_index before k) j || late_seqs (k + 1) seqs before) (some_is at)
late_here (m ∷ seqs) before (suc r) n at k = late_here seqs before r n at k

pub late_found : (seqs before : List ℕ) (r n : ℕ) → slice_get seqs r ≡ Some n → slice_index before r < n → late_seqs r (drop r seqs) before ≡ late_seqs 0 seqs before → true ≡ late_seqs 0 seqs before
late_found seqs before r n at l so = ap (λ (b : Bool). b || late_seqs (r + 1) (drop (suc r) seqs) before) (sym (tested (slice_index before r) n l)) ∙ sym (late_here seqs before r n at r) ∙ so
  where
    tested : (a b : ℕ) → a < b → nat_lt a b ≡ true
    tested a b l = grind (arith, nat_tests, l)

pub late_next : (seqs before : List ℕ) (r n : ℕ) → slice_get seqs r ≡ Some n → n ≤ slice_index before r → late_seqs r (drop r seqs) before ≡ late_seqs 0 seqs before → late_seqs (r + 1) (drop (r + 1) seqs) before ≡ late_seqs 0 seqs before
late_next seqs before r n at l so =
    let next : r + 1 ≡ suc r = omega arith in
    ap (λ (k : ℕ). late_seqs (r + 1) (drop k seqs) before) next
    ∙ ap (λ (b : Bool). b || late_seqs (r + 1) (drop (suc r) seqs) before) (sym (tested (slice_index before r) n l)) ∙ sym (late_here seqs before r n at r) ∙ so
  where
    tested : (a b : ℕ) → b ≤ a → nat_lt a b ≡ false
    tested a b l = grind (arith, nat_tests, l)

dropped_all : {X : Type 0} (xs : List X) (n : ℕ) → length xs ≤ n → drop n xs ≡ []
dropped_all [] zero l = refl
dropped_all [] (suc n) l = refl
dropped_all (x ∷ xs) zero l = absurd (omega (arith, l))
dropped_all (x ∷ xs) (suc n) l = dropped_all xs n (omega (arith, l))

pub late_none : (seqs before : List ℕ) (r : ℕ) → length seqs ≤ r → late_seqs r (drop r seqs) before ≡ late_seqs 0 seqs before → false ≡ late_seqs 0 seqs before
late_none seqs before r all so = ap (λ (xs : List ℕ). late_seqs r xs before) (sym (dropped_all seqs r all)) ∙ so

-- What passes is counted, one after another: so many so far, and those that follow.
pub record PassedSoFar {X : Type 0} (p : X → Bool) (xs : List X) (n count : ℕ) : Type 0 where
  pub few : count ≤ n
  pub so_far : count + length (filter p (drop n xs)) ≡ length (filter p xs)

passed_step : {X : Type 0} (p : X → Bool) (xs : List X) (n : ℕ) (x : X) → slice_get xs n ≡ Some x → filter p (drop n xs) ≡ cond (p x) (x ∷ filter p (drop (suc n) xs)) (filter p (drop (suc n) xs))
passed_step p [] n x at = cc
passed_step p (y ∷ xs) zero x at = ap (λ z. cond (p z) (z ∷ filter p xs) (filter p xs)) (some_is at)
passed_step p (y ∷ xs) (suc n) x at = passed_step p xs n x at

pub passed_more : {X : Type 0} (p : X → Bool) (xs : List X) (n count : ℕ) (x : X) → PassedSoFar p xs n count → slice_get xs n ≡ Some x → p x ≡ true → PassedSoFar p xs (n + 1) (count + 1)
passed_more p xs n count x h at is =
    let few = h.few in
    let so_far = h.so_far in
    let next : n + 1 ≡ suc n = omega arith in
    let step = ap length (passed_step p xs n x at ∙ ap (λ (b : Bool). cond b (x ∷ filter p (drop (suc n) xs)) (filter p (drop (suc n) xs))) is) in
    let same = ap (λ (k : ℕ). length (filter p (drop k xs))) next in
    record { few = omega (arith, few); so_far = omega (arith, so_far, step, same) }

pub passed_by : {X : Type 0} (p : X → Bool) (xs : List X) (n count : ℕ) (x : X) → PassedSoFar p xs n count → slice_get xs n ≡ Some x → p x ≡ false → PassedSoFar p xs (n + 1) count
passed_by p xs n count x h at is =
    let few = h.few in
    let so_far = h.so_far in
    let next : n + 1 ≡ suc n = omega arith in
    let step = ap length (passed_step p xs n x at ∙ ap (λ (b : Bool). cond b (x ∷ filter p (drop (suc n) xs)) (filter p (drop (suc n) xs))) is) in
    let same = ap (λ (k : ℕ). length (filter p (drop k xs))) next in
    record { few = omega (arith, few); so_far = omega (arith, so_far, step, same) }

pub passed_all : {X : Type 0} (p : X → Bool) (xs : List X) (n count : ℕ) → PassedSoFar p xs n count → length xs ≤ n → count ≡ length (filter p xs)
passed_all p xs n count h all = let so_far = h.so_far in let none = ap (λ l. length (filter p l)) (dropped_all xs n all) in omega (arith, so_far, none)

module _ (routes : List Route) (after : ℕ) (readers : List ℕ) (calls : List Call) (tape : List Token) (early : ℕ) (before : List ℕ) where
  -- A call has a late message where one has a greater number than there are early ones.
  late_tells : length readers ≤ 4 → IsNumbered tape → TakesFrom readers calls tape → IsEarly routes after tape early
      → ((j channel : ℕ) → j < 4 → slice_get readers j ≡ Some channel → slice_index before j ≡ length (on_channel channel (take early tape)))
      → (n : ℕ) (x : Call) → slice_get calls n ≡ Some x → Decides (late_from 0 (messages_of x.tuple) before) (HasLate routes after tape x)
  late_tells few numbered takes e counts n x at = (λ is. some is, λ h. found h)
    where
      count : (j : ℕ) (m : Token) → slice_get (messages_of x.tuple) j ≡ Some m → slice_index before (0 + j) ≡ length (on_channel m.channel (take early tape))
      count j m there =
          let its = takes.reads n j x m at there in
          let inside = slice_get_within readers j m.channel its in
          let same : 0 + j ≡ j = omega arith in
          ap (slice_index before) same ∙ counts j m.channel (omega (arith, inside, few)) its

      some : late_from 0 (messages_of x.tuple) before ≡ true → HasLate routes after tape x
      some is = let l = late_some 0 (messages_of x.tuple) before is in
          record {
            place = l.0;
            message = l.1;
            there = l.2;
            late = number_late routes after tape early numbered e l.1 (takes.stands n l.0 x l.1 at l.2) (subst (λ k. k < l.1.seq) (count l.0 l.1 l.2) l.3);
          }

      found : HasLate routes after tape x → late_from 0 (messages_of x.tuple) before ≡ true
      found h = some_late 0 (messages_of x.tuple) before h.place h.message h.there
          (subst (λ k. k < h.message.seq) (sym (count h.place h.message h.there)) (late_number routes after tape early numbered e h.message h.late))

  -- Whether no two calls have one, by how many have one.
  obeys_made : length readers ≤ 4 → IsNumbered tape → TakesFrom readers calls tape → IsEarly routes after tape early
      → ((j channel : ℕ) → j < 4 → slice_get readers j ≡ Some channel → slice_index before j ≡ length (on_channel channel (take early tape)))
      → (many : ℕ) → many ≡ length (filter (λ (x : Call). late_from 0 (messages_of x.tuple) before) calls)
      → (b : Bool) → Decides b (many ≤ 1) → Decides b (HasOneLate routes after calls tape)
  obeys_made few numbered takes e counts many is b d =
      let tell = late_tells few numbered takes e counts in (
        λ yes m n x y a c late_x late_y. few_one (λ (x : Call). late_from 0 (messages_of x.tuple) before) calls (subst (λ k. k ≤ 1) is (d.0 yes)) m n x y a c ((tell m x a).1 late_x) ((tell n y c).1 late_y),
        λ one. d.1 (subst (λ k. k ≤ 1) (sym is) (one_few (λ (x : Call). late_from 0 (messages_of x.tuple) before) calls (λ m n x y a c px py. one m n x y a c ((tell m x a).0 px) ((tell n y c).0 py)))),
      )

  -- .. and as is told.
  pub obeys_tells : (told : List TraceCall) → trace_calls 0 calls ≡ told → length readers ≤ 4 → IsNumbered tape → TakesFrom readers calls tape → IsEarly routes after tape early
      → ((j channel : ℕ) → j < 4 → slice_get readers j ≡ Some channel → slice_index before j ≡ length (on_channel channel (take early tape)))
      → (many : ℕ) → many ≡ length (filter (λ (x : TraceCall). late_seqs 0 x.seqs before) told)
      → (b : Bool) → Decides b (many ≤ 1) → Decides b (HasOneLate routes after calls tape)
  obeys_tells told same few numbered takes e counts many is b d =
      obeys_made few numbered takes e counts many
      (is ∙ ap (λ (l : List TraceCall). length (filter (λ (x : TraceCall). late_seqs 0 x.seqs before) l)) (sym same) ∙ late_told 0 calls before) b d
