-- Reading a number byte by byte, and that what is written is read.
use Rattle.std.proofs.Common.{◌≡◌, ℕ, zero, suc, ◌+◌, ◌*◌, ◌-◌, ◌/◌, ◌%◌, ◌^◌, ◌<◌, ◌≤◌, List, [], ◌∷◌, ◌++◌, length, drop, get_or, refl, ap, sym, ◌∙◌, arith, lit<, inl, inr, add-one, one-add, length-drop, Option, Some, None}
use Rattle.std.proofs.lemmas.Grind.{common_steps}
use Rattle.std.proofs.lemmas.Bool.{cases_lt}
use Rattle.std.proofs.lemmas.List.{drop_more}
use Rattle.std.proofs.Math.Nat.{pow-suc, pow-le-pow_right}
use Rattle.cy_wire.specs.Wire.{varint_within, varint_bytes}
use Rattle.cy_wire.specs.Front.{number_within, front_number, behind}
use Rattle.cy_wire.proofs.Varints.{varint_within-zero, varint_within-small, varint_within-large}

-- a low byte is the number
number_within-low : (k b : ℕ) (bs : List ℕ) → b < 128 → number_within (suc k) (b ∷ bs) ≡ Some (b, 1)
unfolding number_within
number_within-low k b bs h = grind (arith, common_steps)

-- a high one is its low bits
number_within-high : (k b : ℕ) (bs : List ℕ) → 128 ≤ b → number_within (suc k) (b ∷ bs) ≡ behind (b % 128) 128 1 (number_within k bs)
unfolding number_within
number_within-high k b bs h = grind (arith, common_steps)

number_within-nothing : (k : ℕ) (bs : List ℕ) → length bs ≡ 0 → number_within k bs ≡ None
unfolding number_within
number_within-nothing zero bs e = refl
number_within-nothing (suc k) [] e = refl
number_within-nothing (suc k) (b ∷ bs) e = absurd (omega arith)

behind-behind : (v s k low : ℕ) (r : Option (ℕ × ℕ)) → behind v s k (behind low 128 1 r) ≡ behind (v + low * s) (s * 128) (k + 1) r
behind-behind v s k low None = refl
behind-behind v s k low (Some r) =
    let number : v + s * (low + 128 * r.0) ≡ (v + low * s) + (s * 128) * r.0 = omega arith in
    let count : k + (1 + r.1) ≡ k + 1 + r.1 = omega arith in
    rw (number, count) refl

-- with room enough, what is written is read
number_within-varint_within : (k n : ℕ) (rest : List ℕ) → n < 128 ^ suc k → number_within (suc k) (varint_within k n ++ rest) ≡ Some (n, length (varint_within k n))
number_within-varint_within zero n rest h =
    rw (varint_within-zero n, number_within-low zero n rest (omega (arith, pow-suc 128 0))) refl
number_within-varint_within (suc k) n rest h = elim (cases_lt n 128) [
  | inl small ↦ rw (varint_within-small (suc k) n small, number_within-low (suc k) n rest small) refl
  | inr large ↦
      let fits : n / 128 < 128 ^ suc k = omega (arith, pow-suc 128 (suc k)) in
      let whole : (n % 128 + 128) % 128 + 128 * (n / 128) ≡ n = omega arith in
      rw (varint_within-large k n large) (number_within-high (suc k) (n % 128 + 128) (varint_within k (n / 128) ++ rest) (omega arith)
      ∙ ap (behind ((n % 128 + 128) % 128) 128 1) (number_within-varint_within k (n / 128) rest fits)
      ∙ ap (λ (m : ℕ). Some (m, 1 + length (varint_within k (n / 128)))) whole
      ∙ ap (λ (m : ℕ). Some (n, m)) (one-add (length (varint_within k (n / 128)))))
]

-- A number that was written is the one that is read, whatever follows it.
pub front_number-varint_bytes : (n : ℕ) (rest : List ℕ) → n < 2 ^ 64 → front_number (varint_bytes n ++ rest) ≡ Some (n, length (varint_bytes n))
unfolding front_number varint_bytes
front_number-varint_bytes n rest h =
    rw (number_within-varint_within 9 n rest (omega arith)) (grind (arith, common_steps))

-- no byte is left
pub ends_at : (v s k : ℕ) (bytes : List ℕ) → length bytes ≤ k
    → behind v s k (number_within (10 - k) (drop k bytes)) ≡ number_within 10 bytes → front_number bytes ≡ None
unfolding front_number
ends_at v s k bytes h e =
    let none : length (drop k bytes) ≡ 0 = omega (arith, length-drop k bytes) in
    rw (← e, number_within-nothing (10 - k) (drop k bytes) none) refl

-- a low byte is the last
pub last_at : (v s k b : ℕ) (bytes : List ℕ) → k < 10 → k < length bytes → b ≡ get_or bytes k b → b < 128 → v + b * s < 2 ^ 64
    → behind v s k (number_within (10 - k) (drop k bytes)) ≡ number_within 10 bytes → front_number bytes ≡ Some (v + b * s, k + 1)
unfolding front_number
last_at v s k b bytes room there here low fits e =
    let now : 10 - k ≡ suc (9 - k) = omega arith in
    let front : drop k bytes ≡ b ∷ drop (k + 1) bytes = drop_more bytes k b there ∙ ap (λ (x : ℕ). x ∷ drop (k + 1) bytes) (sym here) in
    let whole : number_within 10 bytes ≡ Some (v + s * b, k + 1) = sym (rw (now, front, number_within-low (9 - k) b (drop (k + 1) bytes) low) at e) in
    rw whole (grind (arith, common_steps))

-- a high byte is not
pub step : (v s k b : ℕ) (bytes : List ℕ) (whole : Option (ℕ × ℕ)) → k < 9 → k < length bytes → b ≡ get_or bytes k b → 128 ≤ b
    → behind v s k (number_within (10 - k) (drop k bytes)) ≡ whole
    → behind (v + b % 128 * s) (s * 128) (k + 1) (number_within (10 - (k + 1)) (drop (k + 1) bytes)) ≡ whole
step v s k b bytes whole room there here high e =
    let now : 10 - k ≡ suc (9 - k) = omega arith in
    let next : 10 - (k + 1) ≡ 9 - k = omega arith in
    let front : drop k bytes ≡ b ∷ drop (k + 1) bytes = drop_more bytes k b there ∙ ap (λ (x : ℕ). x ∷ drop (k + 1) bytes) (sym here) in
    rw next (sym (behind-behind v s k (b % 128) (number_within (9 - k) (drop (k + 1) bytes)))
    ∙ ap (behind v s k) (sym (number_within-high (9 - k) b (drop (k + 1) bytes) high))
    ∙ rw (now, front) at e)

-- a tenth byte with more than one bit
pub exceeds_at : (v b : ℕ) (bytes : List ℕ) → 9 < length bytes → b ≡ get_or bytes 9 b → 2 ≤ b
    → behind v (2 ^ 63) 9 (number_within 1 (drop 9 bytes)) ≡ number_within 10 bytes → front_number bytes ≡ None
unfolding front_number number_within
exceeds_at v b bytes there here large e =
    let front : drop 9 bytes ≡ b ∷ drop 10 bytes = drop_more bytes 9 b there ∙ ap (λ (x : ℕ). x ∷ drop 10 bytes) (sym here) in
    elim (cases_lt b 128) [
      | inl low ↦
          let whole : number_within 10 bytes ≡ Some (v + 2 ^ 63 * b, 10) = sym (rw (front, number_within-low 0 b (drop 10 bytes) low) at e) in
          rw whole (grind (arith, common_steps))
      | inr high ↦
          let whole : number_within 10 bytes ≡ None = sym (rw (front, number_within-high 0 b (drop 10 bytes) high) at e) in
          rw whole refl
    ]

-- the scales fit, and what is read so far is below the scale
pub scale_bound : (k : ℕ) → k < 9 → 128 ^ k ≤ 2 ^ 56
scale_bound k h = pow-le-pow_right {n = 128} (lit< tt) {i = k} {j = 8} (omega arith)

pub below_next : (v s low : ℕ) → v < s → low < 128 → v + low * s < s * 128
below_next v s low h l = grind arith

pub next_scale : (s k : ℕ) → s ≡ 128 ^ k → s * 128 ≡ 128 ^ (k + 1)
next_scale s k e = rw (add-one k, pow-suc 128 k) (ap (λ (x : ℕ). x * 128) e)

pub last_scale : (s k : ℕ) → k ≡ 9 → s ≡ 128 ^ k → s ≡ 2 ^ 63
last_scale s k nine e = rw nine at e
