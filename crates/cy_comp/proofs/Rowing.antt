-- Rows of calls among the numbers of the messages of more and more calls.
use Rattle.std.proofs.Common.{ℕ, zero, suc, ◌+◌, ◌-◌, ◌≡◌, ◌≤◌, ◌<◌, Bool, true, false, cond, List, [], ◌∷◌, ◌++◌, length, map, take, drop, Option, Some, None, is_some, refl, sym, ap, subst, ◌∙◌, arith, length-append}
use Rattle.std.specs.Prelude.{slice_get, option_map, filter}
use Rattle.std.proofs.lemmas.List.{get_or_append_left, get_or-append-add, map_push, length-map}
use Rattle.std.proofs.lemmas.Option.{same_Some, slice_get-map, slice_get_within}
use Rattle.circular_buffer.proofs.Places.{slice_get-append_left}
use Rattle.cy_msg.specs.declared.token.Tuple.{Tuple}
use Rattle.cy_msg.specs.declared.token.Tuple.TheVariants.{One, Two, Three, Four}
use Rattle.cy_msg.specs.Tuple.{messages_of}
use Rattle.cy_comp.specs.declared.call.Out.{Out}
use Rattle.cy_comp.specs.declared.call.Call.{Call}
use Rattle.cy_comp.specs.declared.calls.Row.{Row}
use Rattle.cy_comp.specs.declared.summary.CallSummary.{CallSummary}
use Rattle.cy_comp.specs.declared.summary.TupleSeqs.{TupleSeqs}
use Rattle.cy_comp.specs.declared.summary.TupleSeqs.TheVariants as seqs
use Rattle.cy_comp.specs.Summary.{seqs_of, numbers_of, summary_of}
use Rattle.cy_comp.specs.private.CallsView.{CallsView}
use Rattle.cy_comp.specs.private.Rows.{seq_in, seqs_in, given, out_in, summary_in, IsWithin, Keep, IsCallList}

seq-stays : (ns more : List ℕ) (place : ℕ) → place < length ns → seq_in (ns ++ more) place ≡ seq_in ns place
seq-stays ns more place within = get_or_append_left ns more 0 place within

-- numbers that come behind leave those of a tuple as they are
seqs-stay : (ns more : List ℕ) (start count : ℕ) → 1 ≤ count → count ≤ 4 → start + count ≤ length ns → seqs_in (ns ++ more) start count ≡ seqs_in ns start count
seqs-stay ns more start zero some few within = absurd (omega (arith, some))
seqs-stay ns more start (suc zero) some few within = ap seqs.One (seq-stays ns more start (omega (arith, within)))
seqs-stay ns more start (suc (suc zero)) some few within =
    ap (λ a. seqs.Two a (seq_in (ns ++ more) (start + 1))) (seq-stays ns more start (omega (arith, within)))
    ∙ ap (seqs.Two (seq_in ns start)) (seq-stays ns more (start + 1) (omega (arith, within)))
seqs-stay ns more start (suc (suc (suc zero))) some few within =
    ap (λ a. seqs.Three a (seq_in (ns ++ more) (start + 1)) (seq_in (ns ++ more) (start + 2))) (seq-stays ns more start (omega (arith, within)))
    ∙ ap (λ b. seqs.Three (seq_in ns start) b (seq_in (ns ++ more) (start + 2))) (seq-stays ns more (start + 1) (omega (arith, within)))
    ∙ ap (seqs.Three (seq_in ns start) (seq_in ns (start + 1))) (seq-stays ns more (start + 2) (omega (arith, within)))
seqs-stay ns more start (suc (suc (suc (suc zero)))) some few within =
    ap (λ a. seqs.Four a (seq_in (ns ++ more) (start + 1)) (seq_in (ns ++ more) (start + 2)) (seq_in (ns ++ more) (start + 3)))
    (seq-stays ns more start (omega (arith, within)))
    ∙ ap (λ b. seqs.Four (seq_in ns start) b (seq_in (ns ++ more) (start + 2)) (seq_in (ns ++ more) (start + 3)))
    (seq-stays ns more (start + 1) (omega (arith, within)))
    ∙ ap (λ x. seqs.Four (seq_in ns start) (seq_in ns (start + 1)) x (seq_in (ns ++ more) (start + 3))) (seq-stays ns more (start + 2) (omega (arith, within)))
    ∙ ap (seqs.Four (seq_in ns start) (seq_in ns (start + 1)) (seq_in ns (start + 2))) (seq-stays ns more (start + 3) (omega (arith, within)))
seqs-stay ns more start (suc (suc (suc (suc (suc n))))) some few within = absurd (omega (arith, few))

summary-stays : (ns more : List ℕ) (r : Row) → IsWithin ns r → summary_in (ns ++ more) r ≡ summary_in ns r
summary-stays ns more r w = ap (λ (t : TupleSeqs). record { position = r.position; tail = r.tail; seqs = t; out = out_in r }) (seqs-stay ns more r.start r.count w.some w.few w.within)

abbrev pub AreWithin : List ℕ → List Row → Type 0
AreWithin ns rows = (n : ℕ) (r : Row) → slice_get rows n ≡ Some r → IsWithin ns r

summaries-stay : (ns more : List ℕ) (rows : List Row) → AreWithin ns rows → map (summary_in (ns ++ more)) rows ≡ map (summary_in ns) rows
summaries-stay ns more [] a = refl
summaries-stay ns more (r ∷ rest) a =
    ap (λ c. c ∷ map (summary_in (ns ++ more)) rest) (summary-stays ns more r (a 0 r refl))
    ∙ ap (λ l. summary_in ns r ∷ l) (summaries-stay ns more rest (λ n q at. a (suc n) q at))

-- the numbers of the messages that stand last
at_end : (ns more : List ℕ) (n : ℕ) → seq_in (ns ++ more) (length ns + n) ≡ seq_in more n
at_end ns more n = get_or-append-add ns more n 0

at_first : (ns more : List ℕ) → seq_in (ns ++ more) (length ns) ≡ seq_in more 0
at_first ns more = ap (seq_in (ns ++ more)) (omega arith) ∙ at_end ns more 0

abbrev behind : List ℕ → Tuple → List ℕ
behind ns t = ns ++ numbers_of (seqs_of t)

seqs-last : (ns : List ℕ) (t : Tuple) → seqs_in (behind ns t) (length ns) (length (messages_of t)) ≡ seqs_of t
seqs-last ns (One a) = ap seqs.One (at_first ns (numbers_of (seqs_of (One a))))
seqs-last ns (Two a b) =
    let t = numbers_of (seqs_of (Two a b)) in
    ap (λ x. seqs.Two x (seq_in (ns ++ t) (length ns + 1))) (at_first ns t) ∙ ap (seqs.Two a.seq) (at_end ns t 1)
seqs-last ns (Three a b c) =
    let t = numbers_of (seqs_of (Three a b c)) in
    let m = seq_in (ns ++ t) in
    ap (λ x. seqs.Three x (m (length ns + 1)) (m (length ns + 2))) (at_first ns t) ∙ ap (λ x. seqs.Three a.seq x (m (length ns + 2))) (at_end ns t 1)
    ∙ ap (seqs.Three a.seq b.seq) (at_end ns t 2)
seqs-last ns (Four a b c d) =
    let t = numbers_of (seqs_of (Four a b c d)) in
    let m = seq_in (ns ++ t) in
    ap (λ x. seqs.Four x (m (length ns + 1)) (m (length ns + 2)) (m (length ns + 3))) (at_first ns t)
    ∙ ap (λ x. seqs.Four a.seq x (m (length ns + 2)) (m (length ns + 3))) (at_end ns t 1)
    ∙ ap (λ x. seqs.Four a.seq b.seq x (m (length ns + 3))) (at_end ns t 2)
    ∙ ap (seqs.Four a.seq b.seq c.seq) (at_end ns t 3)

-- What a row keeps of a call the numbers of whose messages come last.
pub record Rows (ns : List ℕ) (x : Call) (r : Row) : Type 0 where
  pub position : r.position ≡ x.position
  pub tail : r.tail ≡ x.tail
  pub start : r.start ≡ length ns
  pub count : r.count ≡ length (messages_of x.tuple)
  pub out : out_in r ≡ x.out

count_of : (t : Tuple) → (1 ≤ length (messages_of t)) × ((length (messages_of t) ≤ 4) × (length (numbers_of (seqs_of t)) ≡ length (messages_of t)))
count_of (One a) = (omega arith, (omega arith, refl))
count_of (Two a b) = (omega arith, (omega arith, refl))
count_of (Three a b c) = (omega arith, (omega arith, refl))
count_of (Four a b c d) = (omega arith, (omega arith, refl))

summary-last : (ns : List ℕ) (x : Call) (r : Row) → Rows ns x r → summary_in (behind ns x.tuple) r ≡ summary_of x
summary-last ns x r k =
    ap (λ p. record { position = p; tail = r.tail; seqs = seqs_in (behind ns x.tuple) r.start r.count; out = out_in r }) k.position
    ∙ ap (λ n. record { position = x.position; tail = n; seqs = seqs_in (behind ns x.tuple) r.start r.count; out = out_in r }) k.tail
    ∙ ap (λ (t : TupleSeqs). record { position = x.position; tail = x.tail; seqs = t; out = out_in r })
    (ap (λ s. seqs_in (behind ns x.tuple) s r.count) k.start ∙ ap (seqs_in (behind ns x.tuple) (length ns)) k.count ∙ seqs-last ns x.tuple)
    ∙ ap (λ (o : Option Out). record { position = x.position; tail = x.tail; seqs = seqs_of x.tuple; out = o }) k.out

-- and each row's numbers are still among them
longer : (ns : List ℕ) (x : Call) → length (behind ns x.tuple) ≡ length ns + length (messages_of x.tuple)
longer ns x = length-append ns (numbers_of (seqs_of x.tuple)) ∙ ap (λ n. length ns + n) (count_of x.tuple).1.1

rows-within : (ns : List ℕ) (rows : List Row) (x : Call) (r : Row) → AreWithin ns rows → Rows ns x r → AreWithin (behind ns x.tuple) (rows ++ r ∷ [])
rows-within ns rows x r a k n q at = by_place (slice_get rows n) refl
  where
    behind_all : (xs : List Row) (y : Row) (n : ℕ) (z : Row) → slice_get (xs ++ y ∷ []) n ≡ Some z → slice_get xs n ≡ None → y ≡ z
    behind_all [] y zero z is none = cc
    behind_all [] y (suc n) z is none = cc
    behind_all (x ∷ xs) y zero z is none = cc
    behind_all (x ∷ xs) y (suc n) z is none = behind_all xs y n z is none

    by_place : (o : Option Row) → slice_get rows n ≡ o → IsWithin (behind ns x.tuple) q
    by_place (Some p) e =
        let same : Some q ≡ Some p = sym at ∙ slice_get-append_left rows (r ∷ []) n (slice_get_within rows n p e) ∙ e in
        let w = a n q (e ∙ sym same) in
        record { some = w.some; few = w.few; within = omega (arith, w.within, longer ns x) }
    by_place None e =
        let end = behind_all rows r n q at e in
        let c = count_of x.tuple in
        rw (← end) (record { some = omega (arith, c.0, k.count); few = omega (arith, c.1.0, k.count); within = omega (arith, k.start, k.count, longer ns x) })

-- So the rows keep the calls before it, and it.
keep-push : (ns : List ℕ) (rows : List Row) (made : List Call) (x : Call) (r : Row) → Keep ns rows made → Rows ns x r → Keep (behind ns x.tuple) (rows ++ r ∷ []) (made ++ x ∷ [])
keep-push ns rows made x r keep k = record {
  within = rows-within ns rows x r keep.within k;
  same = map_push (summary_in (behind ns x.tuple)) rows r
      ∙ ap (λ l. l ++ summary_in (behind ns x.tuple) r ∷ []) (summaries-stay ns (numbers_of (seqs_of x.tuple)) rows keep.within ∙ keep.same)
      ∙ ap (λ (s : CallSummary). map summary_of made ++ s ∷ []) (summary-last ns x r k)
      ∙ sym (map_push summary_of made x);
}

pub list-push : (ns all : List ℕ) (rows more : List Row) (made calls : List Call) (x : Call) (r : Row) (spare seq_room room seq_after after : ℕ) → IsCallList ns rows made spare seq_room room → 1 ≤ spare → Rows ns x r
    → all ≡ behind ns x.tuple → more ≡ rows ++ r ∷ [] → calls ≡ made ++ x ∷ [] → seq_after ≡ seq_room → after ≡ room → IsCallList all more calls (spare - 1) seq_after after
list-push ns all rows more made calls x r spare seq_room room seq_after after l some k all_are more_are calls_are seq_same same = rw all_are (rw more_are (rw calls_are (record {
  keep = keep-push ns rows made x r l.keep k;
  fits = omega (arith, length-append rows (r ∷ []), l.fits, some, same);
  seqs_fit = omega (arith, longer ns x, (count_of x.tuple).1.0, l.seqs_fit, some, seq_same);
})))

abbrev pub seen_with : List Call → ℕ → CallsView
seen_with made spare = record { made = made; spare = spare }

-- As many rows as calls.
pub count-same : (ns : List ℕ) (rows : List Row) (made : List Call) → Keep ns rows made → length rows ≡ length made
count-same ns rows made keep = sym (length-map rows (summary_in ns)) ∙ ap length keep.same ∙ length-map made summary_of

-- The first row keeps the first call, and the others the other ones.
pub record IsFirst (ns : List ℕ) (first : Row) (others : List Row) (made : List Call) : Type 0 where
  pub here : IsWithin ns first
  pub call : Call
  pub parted : made ≡ call ∷ drop 1 made
  pub kept : summary_in ns first ≡ summary_of call
  pub rest : Keep ns others (drop 1 made)

pub first-kept : {ns : List ℕ} {rows : List Row} {made : List Call} (first : Row) (others : List Row) → rows ≡ first ∷ others → Keep ns rows made → IsFirst ns first others made
first-kept {ns = ns} {made = made} first others is keep =
    by_calls made (λ n r at. keep.within n r (ap (λ l. slice_get l n) is ∙ at)) (ap (map (summary_in ns)) (sym is) ∙ keep.same)
  where
    by_calls : (calls : List Call) → AreWithin ns (first ∷ others) → map (summary_in ns) (first ∷ others) ≡ map summary_of calls → IsFirst ns first others calls
    by_calls [] within same = absurd (omega (arith, ap length same))
    by_calls (x ∷ rest) within same = record {
      here = within 0 first refl;
      call = x;
      parted = refl;
      kept = same_Some (summary_in ns first) (summary_of x) (ap (λ l. slice_get l 0) same);
      rest = record { within = λ n r at. within (suc n) r at; same = ap (drop 1) same };
    }

-- Some of the rows keep as many of the calls.
map-take : {X Y : Type 0} (f : X → Y) (n : ℕ) (xs : List X) → map f (take n xs) ≡ take n (map f xs)
map-take f zero xs = refl
map-take f (suc n) [] = refl
map-take f (suc n) (x ∷ xs) = ap (λ l. f x ∷ l) (map-take f n xs)

map-drop : {X Y : Type 0} (f : X → Y) (n : ℕ) (xs : List X) → map f (drop n xs) ≡ drop n (map f xs)
map-drop f zero xs = refl
map-drop f (suc n) [] = refl
map-drop f (suc n) (x ∷ xs) = map-drop f n xs

taken-there : {X : Type 0} (n : ℕ) (xs : List X) (k : ℕ) (x : X) → slice_get (take n xs) k ≡ Some x → slice_get xs k ≡ Some x
taken-there zero xs k x at = cc
taken-there (suc n) [] k x at = cc
taken-there (suc n) (y ∷ xs) zero x at = at
taken-there (suc n) (y ∷ xs) (suc k) x at = taken-there n xs k x at

dropped-there : {X : Type 0} (n : ℕ) (xs : List X) (k : ℕ) (x : X) → slice_get (drop n xs) k ≡ Some x → slice_get xs (n + k) ≡ Some x
dropped-there zero xs k x at =
    let same : k ≡ 0 + k = omega arith in
    subst (λ m. slice_get xs m ≡ Some x) same at
dropped-there (suc n) [] k x at = cc
dropped-there (suc n) (y ∷ xs) k x at =
    let same : suc (n + k) ≡ suc n + k = omega arith in
    subst (λ m. slice_get (y ∷ xs) m ≡ Some x) same (dropped-there n xs k x at)

pub keep-take : (ns : List ℕ) (rows : List Row) (made : List Call) (n : ℕ) → Keep ns rows made → Keep ns (take n rows) (take n made)
keep-take ns rows made n keep = record {
  within = λ k r at. keep.within k r (taken-there n rows k r at);
  same = map-take (summary_in ns) n rows ∙ ap (take n) keep.same ∙ sym (map-take summary_of n made);
}

pub keep-drop : (ns : List ℕ) (rows : List Row) (made : List Call) (n : ℕ) → Keep ns rows made → Keep ns (drop n rows) (drop n made)
keep-drop ns rows made n keep = record {
  within = λ k r at. keep.within (n + k) r (dropped-there n rows k r at);
  same = map-drop (summary_in ns) n rows ∙ ap (drop n) keep.same ∙ sym (map-drop summary_of n made);
}

-- The last call has the position of the last row.
pub record IsLastRow (made : List Call) (r : Row) : Type 0 where
  pub call : Call
  pub there : slice_get made (length made - 1) ≡ Some call
  pub position : r.position ≡ call.position

pub last-row : (ns : List ℕ) (rows : List Row) (made : List Call) (r : Row) → Keep ns rows made → slice_get rows (length rows - 1) ≡ Some r → IsLastRow made r
last-row ns rows made r keep at = by_call (slice_get made (length made - 1)) refl
  where
    shown : option_map summary_of (slice_get made (length made - 1)) ≡ Some (summary_in ns r)
    shown =
        sym (slice_get-map summary_of made (length made - 1)) ∙ ap (λ l. slice_get l (length made - 1)) (sym keep.same)
        ∙ ap (λ n. slice_get (map (summary_in ns) rows) (n - 1)) (sym (count-same ns rows made keep))
        ∙ slice_get-map (summary_in ns) rows (length rows - 1) ∙ ap (option_map (summary_in ns)) at

    by_call : (o : Option Call) → slice_get made (length made - 1) ≡ o → IsLastRow made r
    by_call None e = let none = ap (option_map summary_of) (sym e) ∙ shown in cc
    by_call (Some x) e =
        let same = same_Some (summary_of x) (summary_in ns r) (ap (option_map summary_of) (sym e) ∙ shown) in
        record { call = x; there = e; position = sym (ap (λ (s : CallSummary). s.position) same) }

-- As many rows have an output as calls.
is_given : (b : Bool) (o : Out) → is_some (given b o) ≡ b
is_given true o = refl
is_given false o = refl

one_more : (r : Row) (x : Call) (rows : List Row) (made : List Call) (b : Bool) → length rows ≡ length made → length (cond b (r ∷ rows) rows) ≡ length (cond b (x ∷ made) made)
one_more r x rows made true e = ap suc e
one_more r x rows made false e = e

pub outputs-same : (ns : List ℕ) (rows : List Row) (made : List Call) → map (summary_in ns) rows ≡ map summary_of made → length (filter (λ (r : Row). r.has_out) rows) ≡ length (filter (λ (x : Call). is_some x.out) made)
outputs-same ns [] [] same = refl
outputs-same ns [] (x ∷ made) same = absurd (omega (arith, ap length same))
outputs-same ns (r ∷ rows) [] same = absurd (omega (arith, ap length same))
outputs-same ns (r ∷ rows) (x ∷ made) same =
    let first = same_Some (summary_in ns r) (summary_of x) (ap (λ l. slice_get l 0) same) in
    let there : r.has_out ≡ is_some x.out = sym (is_given r.has_out (record { time = r.time; whole = given r.has_whole r.whole; origin = given r.has_origin r.origin })) ∙ ap (λ (s : CallSummary). is_some s.out) first in
    let kept = filter (λ (q : Row). q.has_out) rows in
    let calls = filter (λ (y : Call). is_some y.out) made in
    ap (λ b. length (cond b (r ∷ kept) kept)) there ∙ one_more r x kept calls (is_some x.out) (outputs-same ns rows made (ap (drop 1) same))

-- No rows keep no calls.
pub none-kept : (ns : List ℕ) (rows : List Row) (made : List Call) → Keep ns rows made → length rows ≤ 0 → made ≡ []
none-kept ns rows made keep none = by_calls made (omega (arith, none, count-same ns rows made keep))
  where
    by_calls : (calls : List Call) → length calls ≤ 0 → calls ≡ []
    by_calls [] e = refl
    by_calls (x ∷ rest) e = absurd (omega (arith, e))
