-- Numbers whose digits are kept as the bytes of one number.
use Rattle.std.proofs.Common.{ℕ, zero, suc, ◌+◌, ◌-◌, ◌*◌, ◌/◌, ◌%◌, ◌^◌, ◌<◌, ◌≤◌, ◌≡◌, ◌∙◌, inl, inr, refl, ap, sym, List, [], ◌∷◌, ◌++◌, length, take, drop, get_or, replicate, length-append, length-take-le, take-take, take_at, append_assoc, mul_assoc, w64, arith}
use Rattle.std.proofs.Math.Nat.{pow-zero, pow-succ', pow-suc, pow-le-pow_right, mul-le-mul_left, mul-suc}
use Rattle.std.proofs.lemmas.Slice.{take-put_mid}
use Rattle.std.proofs.lemmas.Bool.{cases_lt}
use Rattle.std.proofs.lemmas.List.{drop-replicate, length-replicate}
use Rattle.std.proofs.lemmas.Nat.{le_bytes_8}
use Rattle.std.proofs.lemmas.Fmt.{decimal_digit, decimal_step, length-decimal-le, decimal_nonempty, IsAscii-decimal}
use Rattle.std.specs.Fmt.{decimal}
use Rattle.std.specs.Int.{from_le_bytes, to_le_bytes}
use borrow.Rule.Slice.PartMut.{put_mid}
use Rattle.cy_trace_text.specs.private.Kept.{low_first, IsKept}

-- bytes behind others are worth more by so many places
low_first-append : (xs ys : List ℕ) → low_first (xs ++ ys) ≡ low_first xs + 256 ^ length xs * low_first ys
unfolding low_first
low_first-append [] ys = rw (pow-zero 256) (omega arith)
low_first-append (x ∷ xs) ys =
    let rest = low_first-append xs ys in
    let same : 256 ^ suc (length xs) * low_first ys ≡ 256 * (256 ^ length xs * low_first ys) =
    ap (λ p. p * low_first ys) (pow-succ' 256 (length xs)) ∙ mul_assoc 256 (256 ^ length xs) (low_first ys) in
    omega (arith, rest, same)

low_first_zeros : (m : ℕ) → low_first (replicate m 0) ≡ 0
unfolding low_first
low_first_zeros zero = refl
low_first_zeros (suc m) = omega (arith, low_first_zeros m)

-- zeros behind bytes change nothing
low_first-zeros_after : (xs : List ℕ) (m : ℕ) → low_first (xs ++ replicate m 0) ≡ low_first xs
unfolding low_first
low_first-zeros_after [] m = low_first_zeros m
low_first-zeros_after (x ∷ xs) m = ap (λ n. x + 256 * n) (low_first-zeros_after xs m)

low_first_below : (xs : List ℕ) → ((i : ℕ) → get_or xs i 0 < 256) → low_first xs < 256 ^ length xs
unfolding low_first
low_first_below [] small = rw (pow-zero 256) (omega arith)
low_first_below (x ∷ xs) small =
    let rest = low_first_below xs (λ i. small (suc i)) in
    let first : x < 256 = small 0 in
    omega (arith, rest, first, pow-succ' 256 (length xs))

zeros_are_bytes : (m i : ℕ) → get_or (replicate m 0) i 0 < 256
zeros_are_bytes zero i = omega arith
zeros_are_bytes (suc m) zero = omega arith
zeros_are_bytes (suc m) (suc i) = zeros_are_bytes m i

zeros_after_are_bytes : (xs : List ℕ) (m : ℕ) → ((i : ℕ) → get_or xs i 0 < 256) → (i : ℕ) → get_or (xs ++ replicate m 0) i 0 < 256
zeros_after_are_bytes [] m small i = zeros_are_bytes m i
zeros_after_are_bytes (x ∷ xs) m small zero = small 0
zeros_after_are_bytes (x ∷ xs) m small (suc i) = zeros_after_are_bytes xs m (λ k. small (suc k)) i

-- eight bytes make the number that is read of them
from_eight : (bs : List ℕ) → length bs ≡ 8 → from_le_bytes w64 bs ≡ low_first bs
unfolding low_first
from_eight [] l = absurd (omega arith)
from_eight (a ∷ []) l = absurd (omega arith)
from_eight (a ∷ b ∷ []) l = absurd (omega arith)
from_eight (a ∷ b ∷ c ∷ []) l = absurd (omega arith)
from_eight (a ∷ b ∷ c ∷ d ∷ []) l = absurd (omega arith)
from_eight (a ∷ b ∷ c ∷ d ∷ e ∷ []) l = absurd (omega arith)
from_eight (a ∷ b ∷ c ∷ d ∷ e ∷ f ∷ []) l = absurd (omega arith)
from_eight (a ∷ b ∷ c ∷ d ∷ e ∷ f ∷ g ∷ []) l = absurd (omega arith)
from_eight (a ∷ b ∷ c ∷ d ∷ e ∷ f ∷ g ∷ h ∷ []) l = omega arith
from_eight (a ∷ b ∷ c ∷ d ∷ e ∷ f ∷ g ∷ h ∷ x ∷ bs) l = absurd (omega arith)

-- a number's digits are bytes, and eight at most
pub few_digits : (n : ℕ) → n < 100000000 → length (decimal n) ≤ 8
few_digits n few = length-decimal-le 8 n (omega arith) (omega arith) (omega arith)

digits_are_bytes : (n : ℕ) → n < 100000000 → (i : ℕ) → get_or (decimal n) i 0 < 256
digits_are_bytes n few i = let ascii = IsAscii-decimal n (omega arith) i in omega (arith, ascii)

-- what is read of a number's digits with zeros behind them
pub digits_read : (n len start : ℕ) (bytes : List ℕ) → n < 100000000 → len ≡ length (decimal n) → start + length (decimal n) ≡ len
    → drop start bytes ≡ decimal n ++ drop len (replicate 8 0) → from_le_bytes w64 bytes ≡ low_first (decimal n)
digits_read n len start bytes few long ends written =
    let first : start ≡ 0 = omega (arith, long, ends) in
    let is : bytes ≡ decimal n ++ replicate (8 - len) 0 = sym (ap (λ k. drop k bytes) first) ∙ written ∙ ap (λ (l : List ℕ). decimal n ++ l) (drop-replicate len 8 0) in
    let eight : length (decimal n ++ replicate (8 - len) 0) ≡ 8 = omega (arith, few_digits n few, long, length-append (decimal n) (replicate (8 - len) 0), length-replicate {A = ℕ} (8 - len) 0) in
    ap (from_le_bytes w64) is ∙ from_eight (decimal n ++ replicate (8 - len) 0) eight ∙ low_first-zeros_after (decimal n) (8 - len)

eight_long : (n : ℕ) → n < 100000000 → length (decimal n ++ replicate (8 - length (decimal n)) 0) ≡ 8
eight_long n few = omega (arith, few_digits n few, length-append (decimal n) (replicate (8 - length (decimal n)) 0), length-replicate {A = ℕ} (8 - length (decimal n)) 0)

-- what is written of them
pub digits_written : (n digits : ℕ) → n < 100000000 → digits ≡ low_first (decimal n) → to_le_bytes w64 digits ≡ decimal n ++ replicate (8 - length (decimal n)) 0
digits_written n digits few is =
    le_bytes_8 (decimal n ++ replicate (8 - length (decimal n)) 0) digits (eight_long n few)
    (zeros_after_are_bytes (decimal n) (8 - length (decimal n)) (digits_are_bytes n few))
    (is ∙ sym (low_first-zeros_after (decimal n) (8 - length (decimal n))) ∙ sym (from_eight (decimal n ++ replicate (8 - length (decimal n)) 0) (eight_long n few)))

-- they fit 64 bits, and so does a 9 in the place of the last one
pub digits_fit : (n : ℕ) → n < 100000000 → low_first (decimal n) < 2 ^ 64
digits_fit n few =
    let below = low_first_below (decimal n) (digits_are_bytes n few) in
    let most = pow-le-pow_right {n = 256} (omega arith) {i = length (decimal n)} {j = 8} (few_digits n few) in
    omega (arith, below, most)

pub unit_fits : (n digits unit len : ℕ) → IsKept n digits unit len → 256 * unit ≤ 2 ^ 64
unit_fits n digits unit len kept =
    let most = pow-le-pow_right {n = 256} (omega arith) {i = len} {j = 8} (omega (arith, few_digits n kept.few, kept.long)) in
    omega (arith, most, kept.place)

-- the next number has the same digits but for the last one, where that is not a 9
one_counted : (n : ℕ) → n < 10 → n % 10 < 9 → decimal (n + 1) ≡ (49 + n % 10) ∷ []
one_counted n one not_9 =
    let next : 48 + (n + 1) ≡ 49 + n % 10 = omega (arith, one) in
    decimal_digit (n + 1) (omega (arith, one, not_9)) ∙ ap (λ d. d ∷ []) next

more_counted : (n : ℕ) → 10 ≤ n → n < 100000000 → n % 10 < 9 → decimal (n + 1) ≡ decimal (n / 10) ++ (49 + n % 10) ∷ []
more_counted n more few not_9 =
    let same : (n + 1) / 10 ≡ n / 10 = omega (arith, not_9) in
    let next : 48 + (n + 1) % 10 ≡ 49 + n % 10 = omega (arith, not_9) in
    decimal_step (n + 1) (omega (arith, more)) (omega (arith, few)) ∙ ap (λ m. decimal m ++ (48 + (n + 1) % 10) ∷ []) same
    ∙ ap (λ d. decimal (n / 10) ++ d ∷ []) next

last_digit : (n : ℕ) → n < 100000000 → (front : List ℕ) × ((decimal n ≡ front ++ (48 + n % 10) ∷ []) × (n % 10 < 9 → decimal (n + 1) ≡ front ++ (49 + n % 10) ∷ []))
last_digit n few = elim (cases_lt n 10) [
  | inl one ↦
      let this : 48 + n ≡ 48 + n % 10 = omega (arith, one) in
      ([], (decimal_digit n one ∙ ap (λ d. d ∷ []) this, one_counted n one))
  | inr more ↦ (decimal (n / 10), (decimal_step n more (omega (arith, few)), more_counted n more few))
]

low_first-last : (front : List ℕ) (d : ℕ) → low_first (front ++ d ∷ []) ≡ low_first front + 256 ^ length front * d
unfolding low_first
low_first-last front d =
    let one : d + 256 * 0 ≡ d = omega arith in
    low_first-append front (d ∷ []) ∙ ap (λ n. low_first front + 256 ^ length front * n) one

-- so that its digits are one more in the place of the last one
pub next_kept : (n digits unit len : ℕ) → IsKept n digits unit len → digits < 57 * unit → IsKept (n + 1) (digits + unit) unit len
next_kept n digits unit len kept below =
    let last = last_digit n kept.few in
    let front : List ℕ = last.0 in
    let this = last.1.0 in
    let long : length (decimal n) ≡ length front + 1 = ap length this ∙ length-append front ((48 + n % 10) ∷ []) in
    let power : 256 ^ len ≡ 256 ^ length front * 256 = ap (λ k. 256 ^ k) (omega (arith, kept.long, long)) ∙ pow-suc 256 (length front) in
    let place : unit ≡ 256 ^ length front = omega (arith, kept.place, power) in
    let is : digits ≡ low_first front + unit * (48 + n % 10) = kept.spelled ∙ ap low_first this ∙ low_first-last front (48 + n % 10) ∙ ap (λ p. low_first front + p * (48 + n % 10)) (sym place) in
    let not_9 : n % 10 < 9 = elim (cases_lt (n % 10) 9) [
      | inl less ↦ less
      | inr nine ↦ absurd (omega (arith, below, is, mul-le-mul_left {m = 57} {n = 48 + n % 10} unit (omega (arith, nine))))
    ] in
    let next : decimal (n + 1) ≡ front ++ (49 + n % 10) ∷ [] = last.1.1 not_9 in
    let one_more : 49 + n % 10 ≡ suc (48 + n % 10) = omega arith in
    let more : unit * (49 + n % 10) ≡ unit * (48 + n % 10) + unit = ap (λ d. unit * d) one_more ∙ mul-suc unit (48 + n % 10) in
    let worth : low_first (decimal (n + 1)) ≡ low_first front + unit * (49 + n % 10) = ap low_first next ∙ low_first-last front (49 + n % 10) ∙ ap (λ p. low_first front + p * (49 + n % 10)) (sym place) in
    let long_next : length (decimal (n + 1)) ≡ length front + 1 = ap length next ∙ length-append front ((49 + n % 10) ∷ []) in
    record {
      spelled = omega (arith, is, more, worth);
      place = kept.place;
      long = omega (arith, kept.long, long, long_next);
      few = omega (arith, kept.few, not_9);
    }

-- a number's digits by a copy of eight bytes
pub copied : (n at len digits k : ℕ) (old ys : List ℕ) → n < 100000000 → digits ≡ low_first (decimal n) → len ≡ length (decimal n)
    → ys ≡ to_le_bytes w64 digits → at ≤ length old → take (at + len) (put_mid at k old ys) ≡ take at old ++ decimal n
copied n at len digits k old ys few is long bytes room =
    let text : ys ≡ decimal n ++ replicate (8 - length (decimal n)) 0 = bytes ∙ digits_written n digits few is in
    let eight : length ys ≡ 8 = ap length text ∙ eight_long n few in
    let front : take (at + len) (take (at + 8) (put_mid at k old ys)) ≡ take (at + len) (put_mid at k old ys) = take-take (at + len) (at + 8) (put_mid at k old ys) (omega (arith, few_digits n few, long)) in
    let all : take (at + 8) (put_mid at k old ys) ≡ take at old ++ ys = take-put_mid at k old ys (at + 8) (omega (arith, eight)) room in
    let split : take at old ++ ys ≡ (take at old ++ decimal n) ++ replicate (8 - length (decimal n)) 0 = ap (λ (l : List ℕ). take at old ++ l) text ∙ sym (append_assoc (take at old) (decimal n) (replicate (8 - length (decimal n)) 0)) in
    sym front ∙ ap (λ l. take (at + len) l) (all ∙ split)
    ∙ take_at (take at old ++ decimal n) (replicate (8 - length (decimal n)) 0) (at + len)
    (length-append (take at old) (decimal n) ∙ omega (arith, length-take-le at old room, long))

-- the number 0
pub zero_kept : (digits : ℕ) → digits ≡ 48 → IsKept 0 digits 1 1
unfolding low_first
zero_kept digits is =
    let spelled : decimal 0 ≡ 48 ∷ [] = decimal_digit 0 (omega arith) in
    record {
      spelled = is ∙ sym (ap low_first spelled);
      place = refl;
      long = sym (ap length spelled);
      few = omega arith;
    }

pub some_digits : (n : ℕ) → n < 100000000 → 1 ≤ length (decimal n)
some_digits n few = omega (arith, decimal_nonempty n (omega arith))

-- where a one stands in the place of the last digit
place_of : (len : ℕ) → 1 ≤ len → len ≤ 8 → (1 * 2 ^ (8 * (len - 1)) % 18446744073709551616) * 256 ≡ 256 ^ len
place_of zero low high = absurd (omega arith)
place_of (suc zero) low high = refl
place_of (suc (suc zero)) low high = refl
place_of (suc (suc (suc zero))) low high = refl
place_of (suc (suc (suc (suc zero)))) low high = refl
place_of (suc (suc (suc (suc (suc zero))))) low high = refl
place_of (suc (suc (suc (suc (suc (suc zero)))))) low high = refl
place_of (suc (suc (suc (suc (suc (suc (suc zero))))))) low high = refl
place_of (suc (suc (suc (suc (suc (suc (suc (suc zero)))))))) low high = refl
place_of (suc (suc (suc (suc (suc (suc (suc (suc (suc k))))))))) low high = absurd (omega arith)

pub read_kept : (n digits len start : ℕ) (bytes : List ℕ) → n < 100000000 → len ≡ length (decimal n) → start + length (decimal n) ≡ len
    → drop start bytes ≡ decimal n ++ drop len (replicate 8 0) → digits ≡ from_le_bytes w64 bytes
    → IsKept n digits (1 * 2 ^ (8 * (len - 1)) % 18446744073709551616) len
read_kept n digits len start bytes few long ends written read = record {
  spelled = read ∙ digits_read n len start bytes few long ends written;
  place = place_of len (omega (arith, long, some_digits n few)) (omega (arith, long, few_digits n few));
  long = long;
  few = few;
}

-- the next number's digits, as the code finds that there is one more
pub nine_fits : (n digits unit len nine : ℕ) → IsKept n digits unit len → nine ≡ 57 → nine * unit < 2 ^ 64
nine_fits n digits unit len nine kept is = let fits = unit_fits n digits unit len kept in rw is (omega (arith, fits))

pub moved_kept : (n next digits unit len nine : ℕ) → IsKept n digits unit len → next ≡ n + 1 → nine ≡ 57 → digits < nine * unit → IsKept next (digits + unit) unit len
moved_kept n next digits unit len nine kept one_more is below =
    let under : digits < 57 * unit = rw is at below in
    rw one_more (next_kept n digits unit len kept under)

pub moved_fit : (n digits unit len : ℕ) → IsKept n digits unit len → digits < 2 ^ 64
moved_fit n digits unit len kept = omega (arith, kept.spelled, digits_fit n kept.few)
