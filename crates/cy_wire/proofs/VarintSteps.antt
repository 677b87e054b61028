-- Reading a varint byte by byte.
use Rattle.std.proofs.Common.{◌≡◌, ℕ, zero, suc, ◌+◌, ◌*◌, ◌-◌, ◌/◌, ◌%◌, ◌^◌, ◌<◌, ◌≤◌, List, [], ◌∷◌, ◌++◌, length, drop, get_or, refl, ap, sym, ◌∙◌, arith, lit<, inl, inr, one-add, length-drop, Result, Ok, Err, mod-eq_of_lt}
use Rattle.std.proofs.lemmas.Grind.{common_steps}
use Rattle.std.proofs.lemmas.Bool.{cases_lt}
use Rattle.std.proofs.lemmas.List.{drop_more}
use Rattle.std.proofs.Math.Nat.{pow-suc}
use Rattle.cy_wire.specs.declared.error.WireError.{WireError}
use Rattle.cy_wire.specs.declared.error.WireError.TheVariants.{Cut, LongVarint}
use Rattle.cy_wire.specs.Wire.{varint_within, varint_bytes}
use Rattle.cy_wire.specs.Varint.{varint_in, varint_at, above, low_64_bits}
use Rattle.cy_wire.proofs.Varints.{varint_within-zero, varint_within-small, varint_within-large}

-- a low byte is the number
pub varint_in-low : (k at b : ℕ) (bs : List ℕ) → b < 128 → varint_in (suc k) at (b ∷ bs) ≡ Ok (b, 1)
unfolding varint_in
varint_in-low k at b bs h = grind (arith, common_steps)

-- a high one is its low bits
pub varint_in-high : (k at b : ℕ) (bs : List ℕ) → 128 ≤ b → varint_in (suc k) at (b ∷ bs) ≡ above (b % 128) 128 1 (varint_in k at bs)
unfolding varint_in
varint_in-high k at b bs h = grind (arith, common_steps)

pub varint_in-nothing : (k at : ℕ) (bs : List ℕ) → length bs ≡ 0 → varint_in (suc k) at bs ≡ Err (Cut at)
unfolding varint_in
varint_in-nothing k at [] e = refl
varint_in-nothing k at (b ∷ bs) e = absurd (omega arith)

above-above : (v s k low : ℕ) (r : Result (ℕ × ℕ) WireError) → above v s k (above low 128 1 r) ≡ above (v + low * s) (s * 128) (k + 1) r
above-above v s k low (Err fault) = refl
above-above v s k low (Ok r) =
    let number : v + s * (low + 128 * r.0) ≡ (v + low * s) + (s * 128) * r.0 = omega arith in
    let count : k + (1 + r.1) ≡ k + 1 + r.1 = omega arith in
    rw (number, count) refl

-- with room enough, what is written is read
varint_in-varint_within : (k n at : ℕ) (rest : List ℕ) → n < 128 ^ suc k → varint_in (suc k) at (varint_within k n ++ rest) ≡ Ok (n, length (varint_within k n))
varint_in-varint_within zero n at rest h =
    rw (varint_within-zero n, varint_in-low zero at n rest (omega (arith, pow-suc 128 0))) refl
varint_in-varint_within (suc k) n at rest h = elim (cases_lt n 128) [
  | inl small ↦ rw (varint_within-small (suc k) n small, varint_in-low (suc k) at n rest small) refl
  | inr large ↦
      let fits : n / 128 < 128 ^ suc k = omega (arith, pow-suc 128 (suc k)) in
      let whole : (n % 128 + 128) % 128 + 128 * (n / 128) ≡ n = omega arith in
      rw (varint_within-large k n large) (varint_in-high (suc k) at (n % 128 + 128) (varint_within k (n / 128) ++ rest) (omega arith)
      ∙ ap (above ((n % 128 + 128) % 128) 128 1) (varint_in-varint_within k (n / 128) at rest fits)
      ∙ ap (λ (m : ℕ). Ok (m, 1 + length (varint_within k (n / 128)))) whole
      ∙ ap (λ (m : ℕ). Ok (n, m)) (one-add (length (varint_within k (n / 128)))))
]

-- A first byte that is low is the whole number.
pub first_at : (at b : ℕ) (bytes : List ℕ) → b < 128 → varint_at at (b ∷ bytes) ≡ Ok (b, 1)
unfolding varint_at
first_at at b bytes h =
    let fits : b < 2 ^ 64 = omega arith in
    ap low_64_bits (varint_in-low 9 at b bytes h) ∙ ap (λ (m : ℕ). Ok (m, 1)) (mod-eq_of_lt fits)

-- A number that was written is the one that is read, whatever follows it.
pub varint_at-varint_bytes : (n at : ℕ) (rest : List ℕ) → n < 2 ^ 64 → varint_at at (varint_bytes n ++ rest) ≡ Ok (n, length (varint_bytes n))
unfolding varint_at varint_bytes
varint_at-varint_bytes n at rest h =
    ap low_64_bits (varint_in-varint_within 9 n at rest (omega arith)) ∙ ap (λ (m : ℕ). Ok (m, length (varint_within 9 n))) (mod-eq_of_lt h)

-- no byte is left
pub ends_at : (v s k at : ℕ) (bytes : List ℕ) → k < 10 → length bytes ≤ k
    → above v s k (varint_in (10 - k) at (drop k bytes)) ≡ varint_in 10 at bytes → varint_at at bytes ≡ Err (Cut at)
unfolding varint_at
ends_at v s k at bytes room h e =
    let now : 10 - k ≡ suc (9 - k) = omega arith in
    let none : length (drop k bytes) ≡ 0 = omega (arith, length-drop k bytes) in
    ap low_64_bits (sym e ∙ ap (λ (n : ℕ). above v s k (varint_in n at (drop k bytes))) now ∙ ap (above v s k) (varint_in-nothing (9 - k) at (drop k bytes) none))

-- a low byte is the last
pub last_at : (v s k at b : ℕ) (bytes : List ℕ) → k < 10 → k < length bytes → b ≡ get_or bytes k b → b < 128
    → above v s k (varint_in (10 - k) at (drop k bytes)) ≡ varint_in 10 at bytes → varint_at at bytes ≡ Ok ((v + s * b) % 2 ^ 64, k + 1)
unfolding varint_at
last_at v s k at b bytes room there here low e =
    let now : 10 - k ≡ suc (9 - k) = omega arith in
    let front : drop k bytes ≡ b ∷ drop (k + 1) bytes = drop_more bytes k b there ∙ ap (λ (x : ℕ). x ∷ drop (k + 1) bytes) (sym here) in
    let whole : varint_in 10 at bytes ≡ Ok (v + s * b, k + 1) = sym (rw (now, front, varint_in-low (9 - k) at b (drop (k + 1) bytes) low) at e) in
    ap low_64_bits whole

-- and where the number fits
pub last_fits : (v s k at b : ℕ) (bytes : List ℕ) → k < 10 → k < length bytes → b ≡ get_or bytes k b → b < 128 → v + b * s < 2 ^ 64
    → above v s k (varint_in (10 - k) at (drop k bytes)) ≡ varint_in 10 at bytes → varint_at at bytes ≡ Ok (v + b * s, k + 1)
last_fits v s k at b bytes room there here low fits e =
    let same : (v + s * b) % 2 ^ 64 ≡ v + b * s = omega arith in
    rw same at (last_at v s k at b bytes room there here low e)

-- a high byte is not
pub step : (v s k at b : ℕ) (bytes : List ℕ) (whole : Result (ℕ × ℕ) WireError) → k < 10 → k < length bytes → b ≡ get_or bytes k b → 128 ≤ b
    → above v s k (varint_in (10 - k) at (drop k bytes)) ≡ whole
    → above (v + b % 128 * s) (s * 128) (k + 1) (varint_in (10 - (k + 1)) at (drop (k + 1) bytes)) ≡ whole
step v s k at b bytes whole room there here high e =
    let now : 10 - k ≡ suc (9 - k) = omega arith in
    let next : 10 - (k + 1) ≡ 9 - k = omega arith in
    let front : drop k bytes ≡ b ∷ drop (k + 1) bytes = drop_more bytes k b there ∙ ap (λ (x : ℕ). x ∷ drop (k + 1) bytes) (sym here) in
    rw next (sym (above-above v s k (b % 128) (varint_in (9 - k) at (drop (k + 1) bytes)))
    ∙ ap (above v s k) (sym (varint_in-high (9 - k) at b (drop (k + 1) bytes) high))
    ∙ rw (now, front) at e)

-- a tenth byte that isn't the last
pub long_at : (v s at b : ℕ) (bytes : List ℕ) → 9 < length bytes → b ≡ get_or bytes 9 b → 128 ≤ b
    → above v s 9 (varint_in (10 - 9) at (drop 9 bytes)) ≡ varint_in 10 at bytes → varint_at at bytes ≡ Err (LongVarint at)
unfolding varint_at varint_in
long_at v s at b bytes there here high e =
    let ended = step v s 9 at b bytes (varint_in 10 at bytes) (lit< tt) there here high e in
    ap low_64_bits (sym ended)
