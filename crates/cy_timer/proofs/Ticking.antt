-- The ticks of a timer.
use Rattle.std.proofs.Common.{ℕ, zero, suc, ◌+◌, ◌*◌, ◌-◌, ◌/◌, ◌%◌, ◌^◌, ◌≡◌, ◌≤◌, ◌<◌, min, Bool, true, false, cond, not, List, [], ◌∷◌, ◌++◌, length, map, refl, sym, ap, ◌∙◌, subst, arith}
use Rattle.std.specs.Prelude.{filter, nat_lt, pos, Some, None, IsSome}
use Rattle.std.specs.List.{range_with_len}
use Rattle.std.proofs.lemmas.Bool.{false≢true, lt-ltb, le-ltb, eq-eqb, ne_eqb}
use Rattle.std.proofs.lemmas.Nat.{div-add-mod', le-div, mod_below}
use Rattle.std.proofs.lemmas.List.{length-map}
use Rattle.std.proofs.lemmas.List.Elements.{filter-append}
use native.Mathlib.Nat.{add-mul, mul-le-mul_left, mul-le-mul_right, suc-mul}
use Rattle.cy_msg.specs.declared.token.Token.{Token}
use Rattle.cy_msg.specs.Tokens.{on_channel}
use Rattle.cy_timer.specs.Ticks.{multiples, ticks_at, ticks_between}
use Rattle.cy_timer.specs.private.Sources.{CanTick, IsFirst, first_time, ticks_left}
use Rattle.cy_timer.specs.declared.timer.Timer.{Timer}
use Rattle.cy_timer.proofs.Sorting.{Each, From, Rises}
use Rattle.cy_timer.proofs.Numbering.{Counts}

-- which multiple is the first
pub first_of : (period begin first : ℕ) → 1 ≤ period → first ≡ begin / period + min 1 (begin % period) → IsFirst period begin first
first_of period begin first some is = record {
  not_before = not_before (begin % period) refl;
  least = before (begin % period) refl;
}
  where
    whole : begin / period * period + begin % period ≡ begin
    whole = div-add-mod' begin period

    low : begin % period < period
    low = mod_below begin period some

    not_before : (r : ℕ) → begin % period ≡ r → begin ≤ first * period
    not_before zero e =
        let same : first ≡ begin / period = omega (arith, is, e) in
        rw same (omega (arith, whole, e))
    not_before (suc r) e =
        let same : first ≡ begin / period + 1 = omega (arith, is, e) in
        rw same (omega (arith, whole, low, add-mul (begin / period) 1 period))

    before : (r : ℕ) → begin % period ≡ r → (k : ℕ) → k < first → k * period < begin
    before zero e k less =
        let more : suc k ≤ begin / period = omega (arith, is, e, less) in
        omega (arith, whole, e, some, mul-le-mul_right {m = suc k} {n = begin / period} period more, suc-mul k period)
    before (suc r) e k less =
        let more : k ≤ begin / period = omega (arith, is, e, less) in
        omega (arith, whole, e, mul-le-mul_right {m = k} {n = begin / period} period more)

-- it stands at most one multiple behind the last
pub first-most : (period begin end first : ℕ) → 1 ≤ period → begin ≤ end → IsFirst period begin first → first ≤ end / period + 1
first-most period begin end zero some order is = omega arith
first-most period begin end (suc k) some order is =
    let before = is.least k (omega arith) in
    let most = le-div k end period some (omega (arith, before, order)) in
    omega (arith, most)

-- the numbers from one on, in two parts
range-parts : (a m n : ℕ) → range_with_len a (m + n) ≡ range_with_len a m ++ range_with_len (a + m) n
range-parts a zero n = (λ i. range_with_len (at i) (many i))
  where
    at : a ≡ a + 0
    at = omega arith

    many : 0 + n ≡ n
    many = omega arith
range-parts a (suc m) n =
    let next : suc m + n ≡ suc (m + n) = omega arith in
    let at : (a + 1) + m ≡ a + suc m = omega arith in
    ap (range_with_len a) next ∙ ap (λ (ks : List ℕ). a ∷ ks) (range-parts (a + 1) m n ∙ ap (λ (b : ℕ). range_with_len (a + 1) m ++ range_with_len b n) at)

map-parts : (f : ℕ → ℕ) (xs ys : List ℕ) → map f (xs ++ ys) ≡ map f xs ++ map f ys
map-parts f [] ys = refl
map-parts f (x ∷ xs) ys = ap (λ (zs : List ℕ). f x ∷ zs) (map-parts f xs ys)

module _ (period begin first : ℕ) (is : IsFirst period begin first) where
  abbrev kept : ℕ → Bool
  kept time = not (nat_lt time begin)

  -- none of those before the first is kept, and all from it on are
  none : (a m : ℕ) → a + m ≤ first → filter kept (map (λ k. k * period) (range_with_len a m)) ≡ []
  none a zero low = refl
  none a (suc m) low =
      let before : nat_lt (a * period) begin ≡ true = lt-ltb (a * period) begin (is.least a (omega (arith, low))) in
      ap (λ (b : Bool). cond (not b) (a * period ∷ filter kept (map (λ k. k * period) (range_with_len (a + 1) m))) (filter kept (map (λ k. k * period) (range_with_len (a + 1) m)))) before
      ∙ none (a + 1) m (omega (arith, low))

  all : (a m : ℕ) → first ≤ a → filter kept (map (λ k. k * period) (range_with_len a m)) ≡ map (λ k. k * period) (range_with_len a m)
  all a zero high = refl
  all a (suc m) high =
      let not_before = is.not_before in
      let grown = mul-le-mul_right {m = first} {n = a} period high in
      let from : nat_lt (a * period) begin ≡ false = le-ltb (a * period) begin (omega (arith, not_before, grown)) in
      ap (λ (b : Bool). cond (not b) (a * period ∷ filter kept (map (λ k. k * period) (range_with_len (a + 1) m))) (filter kept (map (λ k. k * period) (range_with_len (a + 1) m)))) from
      ∙ ap (λ (ts : List ℕ). a * period ∷ ts) (all (a + 1) m (omega (arith, high)))

  pub multiples-are : (end left : ℕ) → first + left ≡ end / period + 1 → multiples period begin end ≡ map (λ k. k * period) (range_with_len first left)
  unfolding multiples
  multiples-are end left whole =
      let times : List ℕ → List ℕ = λ ks. map (λ k. k * period) ks in
      ap (λ (n : ℕ). filter kept (times (range_with_len 0 n))) (sym whole)
      ∙ ap (λ (ks : List ℕ). filter kept (times ks)) (range-parts 0 first left)
      ∙ ap (filter kept) (map-parts (λ k. k * period) (range_with_len 0 first) (range_with_len (0 + first) left))
      ∙ filter-append kept (times (range_with_len 0 first)) (times (range_with_len (0 + first) left))
      ∙ ap (λ (ts : List ℕ). ts ++ filter kept (times (range_with_len (0 + first) left))) (none 0 first (omega arith))
      ∙ all (0 + first) left (omega arith)
      ∙ ap (λ (a : ℕ). times (range_with_len a left)) (let e : 0 + first ≡ first = omega arith in e)

length-range : (a n : ℕ) → length (range_with_len a n) ≡ n
length-range a zero = refl
length-range a (suc n) = ap suc (length-range (a + 1) n)

-- how many they are
pub counted_is : (period begin end first : ℕ) → 1 ≤ period → begin ≤ end → IsFirst period begin first → end / period + 1 - first ≡ length (multiples period begin end)
counted_is period begin end first some order is =
    let most = first-most period begin end first some order is in
    let left = end / period + 1 - first in
    sym (ap length (multiples-are period begin first is end left (omega (arith, most)))
    ∙ length-map (range_with_len first left) (λ k. k * period) ∙ length-range first left)

-- how many there are at most
pub most_ticks : (interval end : ℕ) → 1 ≤ interval → end < 2 ^ 64 → end / (interval * 1000000) ≤ 18446744073709
most_ticks interval end some fits =
    let period = interval * 1000000 in
    let q = end / period in
    let whole = div-add-mod' end period in
    let grown : q * 1000000 ≤ q * period = mul-le-mul_left {m = 1000000} {n = period} q (omega (arith, some)) in
    omega (arith, whole, grown, fits)

-- the ticks at some times
pub length-ticks : (channel number : ℕ) (times : List ℕ) → length (ticks_at channel number times) ≡ length times
length-ticks channel number [] = refl
length-ticks channel number (time ∷ rest) = ap suc (length-ticks channel (number + 1) rest)

pub counts-ticks : (channel number : ℕ) (times : List ℕ) → Counts number (ticks_at channel number times)
counts-ticks channel number [] = tt
counts-ticks channel number (time ∷ rest) = (refl, counts-ticks channel (number + 1) rest)

pub each-ticks : (P : Token → Type 0) (channel : ℕ) → ((t : Token) → t.channel ≡ channel → t.origin ≡ None → P t) → (number : ℕ) (times : List ℕ) → Each P (ticks_at channel number times)
each-ticks P channel good number [] = tt
each-ticks P channel good number (time ∷ rest) = (good _ refl refl, each-ticks P channel good (number + 1) rest)

pub on-own : (channel number : ℕ) (times : List ℕ) → on_channel channel (ticks_at channel number times) ≡ ticks_at channel number times
on-own channel number [] = refl
on-own channel number (time ∷ rest) =
    let tick : Token = record { channel = channel; seq = number; time = time; whole = Some (pos number); origin = None } in
    let more = ticks_at channel (number + 1) rest in
    ap (λ (b : Bool). cond b (tick ∷ on_channel channel more) (on_channel channel more)) (eq-eqb channel channel refl) ∙ ap (λ (ts : List Token). tick ∷ ts) (on-own channel (number + 1) rest)

pub on-other : (c channel number : ℕ) (times : List ℕ) → (channel ≡ c → ⊥) → on_channel c (ticks_at channel number times) ≡ []
on-other c channel number [] differs = refl
on-other c channel number (time ∷ rest) differs =
    let tick : Token = record { channel = channel; seq = number; time = time; whole = Some (pos number); origin = None } in
    let more = ticks_at channel (number + 1) rest in
    ap (λ (b : Bool). cond b (tick ∷ on_channel c more) (on_channel c more)) (ne_eqb channel c differs) ∙ on-other c channel (number + 1) rest differs

-- they rise
times-from : (period a n low : ℕ) → low ≤ a * period → Each (λ time. low ≤ time) (map (λ k. k * period) (range_with_len a n))
times-from period a zero low from = tt
times-from period a (suc n) low from =
    (from, times-from period (a + 1) n low (omega (arith, from, add-mul a 1 period)))

ticks-from : (channel number time : ℕ) (times : List ℕ) → Each (λ u. time ≤ u) times → Each (From time) (ticks_at channel number times)
ticks-from channel number time [] from = tt
ticks-from channel number time (u ∷ rest) from = (from.0, ticks-from channel (number + 1) time rest from.1)

pub rises-left : (channel period number seq left : ℕ) → Rises (ticks_left channel period number seq left)
rises-left channel period number seq zero = tt
rises-left channel period number seq (suc left) =
    (ticks-from channel (seq + 1) (number * period) _ (times-from period (number + 1) left (number * period) (omega (arith, add-mul number 1 period))), rises-left channel period (number + 1) (seq + 1) left)

pub rises-between : (begin end : ℕ) (timer : Timer) → 1 ≤ timer.interval → begin ≤ end → Rises (ticks_between begin end timer)
rises-between begin end timer some order =
    let period = timer.interval * 1000000 in
    let first = begin / period + min 1 (begin % period) in
    let positive : 1 ≤ period = omega (arith, some) in
    let is = first_of period begin first positive refl in
    let most = first-most period begin end first positive order is in
    let left = end / period + 1 - first in
    let are = multiples-are period begin first is end left (omega (arith, most)) in
    subst (λ (times : List ℕ). Rises (ticks_at timer.channel 1 times)) (sym are) (rises-left timer.channel period first 1 left)

-- the next tick of those that are left
pub next-time : (channel period number seq left : ℕ) → (left ≡ 0 → ⊥) → Some (number * period) ≡ first_time (ticks_left channel period number seq left)
next-time channel period number seq zero some = absurd (some refl)
next-time channel period number seq (suc left) some = refl

pub some-left : (channel period number seq left : ℕ) → IsSome (first_time (ticks_left channel period number seq left)) → 1 ≤ left
some-left channel period number seq zero some = absurd (false≢true some)
some-left channel period number seq (suc left) some = omega arith

pub next-taken : (channel period number seq left : ℕ) (t : Token) → 1 ≤ left → t ≡ record { channel = channel; seq = seq; time = number * period; whole = Some (pos seq); origin = None }
    → ticks_left channel period number seq left ≡ t ∷ ticks_left channel period (number + 1) (seq + 1) (left - 1)
next-taken channel period number seq zero t some is = absurd (omega (arith, some))
next-taken channel period number seq (suc left) t some is =
    let one : suc left - 1 ≡ left = omega arith in
    rw (is, one) refl

-- the ticks of a timer, as they are kept
left-is : (period begin end first count : ℕ) → 1 ≤ period → begin ≤ end → IsFirst period begin first → count ≡ length (multiples period begin end) → first + count ≡ end / period + 1
left-is period begin end first count some order is counts =
    let most = first-most period begin end first some order is in
    let given = counted_is period begin end first some order is in
    omega (arith, most, given, counts)

pub can-tick : (interval period begin end first count : ℕ) → 1 ≤ interval → begin ≤ end → end < 2 ^ 64 → period ≡ interval * 1000000 → IsFirst period begin first → count ≡ length (multiples period begin end) → count ≤ 4194304
    → CanTick period first 1 count
can-tick interval period begin end first count some order fits in_nanoseconds is counts few =
    let positive : 1 ≤ period = omega (arith, some, in_nanoseconds) in
    let whole = left-is period begin end first count positive order is counts in
    let low = most_ticks interval end some fits in
    let last : end / period ≡ end / (interval * 1000000) = ap (λ (p : ℕ). end / p) in_nanoseconds in
    let parts = div-add-mod' end period in
    record {
      times = λ k less.
          let most : first + k ≤ end / period = omega (arith, whole, less) in
          let grown = mul-le-mul_right {m = first + k} {n = end / period} period most in
          omega (arith, parts, grown, fits);
      numbers = omega (arith, whole, low, last);
      seqs = omega (arith, few);
    }

pub kept-ticks : (timer : Timer) (period begin end first count : ℕ) → 1 ≤ timer.interval → begin ≤ end → period ≡ timer.interval * 1000000 → IsFirst period begin first → count ≡ length (multiples period begin end)
    → ticks_left timer.channel period first 1 count ≡ ticks_between begin end timer
kept-ticks timer period begin end first count some order in_nanoseconds is counts =
    let positive : 1 ≤ period = omega (arith, some, in_nanoseconds) in
    let whole = left-is period begin end first count positive order is counts in
    ap (ticks_at timer.channel 1) (sym (multiples-are period begin first is end count whole) ∙ ap (λ (p : ℕ). multiples p begin end) in_nanoseconds)

pub length-between : (begin end : ℕ) (timer : Timer) → length (ticks_between begin end timer) ≡ length (multiples (timer.interval * 1000000) begin end)
length-between begin end timer = length-ticks timer.channel 1 (multiples (timer.interval * 1000000) begin end)
