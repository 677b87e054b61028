-- The spelling of a number, byte by byte.
use Rattle.std.proofs.Common.{◌≡◌, ℕ, zero, suc, ◌+◌, ◌/◌, ◌%◌, ◌^◌, ◌<◌, ◌≤◌, [], ◌∷◌, length, All, refl, arith, inl, inr}
use Rattle.std.proofs.lemmas.Grind.{common_steps}
use Rattle.std.proofs.lemmas.Bool.{cases_lt}
use Rattle.std.proofs.lemmas.List.Elements.{All-cons, All-nil}
use Rattle.std.proofs.Math.Nat.{pow-suc}
use Rattle.cy_wire.specs.Wire.{varint_within, varint_bytes}

-- room for one more byte changes nothing where the number is small enough
varint_within-suc : (k n : ℕ) → n < 128 ^ suc k → varint_within k n ≡ varint_within (suc k) n
unfolding varint_within
varint_within-suc zero n h = grind (arith, common_steps)
varint_within-suc (suc k) n h =
    let small : n / 128 < 128 ^ suc k = omega (arith, pow-suc 128 (suc k)) in
    rw (varint_within-suc k (n / 128) small) refl

pub varint_within-zero : (n : ℕ) → varint_within zero n ≡ n ∷ []
unfolding varint_within
varint_within-zero n = refl

pub varint_within-small : (k n : ℕ) → n < 128 → varint_within k n ≡ n ∷ []
unfolding varint_within
varint_within-small zero n h = refl
varint_within-small (suc k) n h = grind (arith, common_steps)

pub varint_within-large : (k n : ℕ) → 128 ≤ n → varint_within (suc k) n ≡ (n % 128 + 128) ∷ varint_within k (n / 128)
unfolding varint_within
varint_within-large k n h = grind (arith, common_steps)

-- a number below 128 is its own byte
pub varint_bytes-small : (n : ℕ) → n < 128 → varint_bytes n ≡ n ∷ []
unfolding varint_bytes
varint_bytes-small n h = varint_within-small 9 n h

-- another one begins with its low seven bits
pub varint_bytes-large : (n : ℕ) → 128 ≤ n → n < 2 ^ 64 → varint_bytes n ≡ (n % 128 + 128) ∷ varint_bytes (n / 128)
unfolding varint_bytes
varint_bytes-large n h fits =
    let small : n / 128 < 128 ^ 9 = omega arith in
    rw (varint_within-large 8 n h, varint_within-suc 8 (n / 128) small) refl

-- both, for `using`
pub ruleset varint_steps = (varint_bytes-small, varint_bytes-large)

length-varint_within : (k n : ℕ) → length (varint_within k n) ≤ k + 1
length-varint_within zero n = rw varint_within-zero (omega arith)
length-varint_within (suc k) n = elim (cases_lt n 128) [
  | inl small ↦ rw (varint_within-small (suc k) n small) (omega arith)
  | inr large ↦ rw (varint_within-large k n large) (omega (arith, length-varint_within k (n / 128)))
]

-- a number takes ten bytes at most
pub length-varint_bytes : (n : ℕ) → length (varint_bytes n) ≤ 10
unfolding varint_bytes
length-varint_bytes n = length-varint_within 9 n

-- and one at least
pub some-varint_bytes : (n : ℕ) → 0 < length (varint_bytes n)
unfolding varint_bytes
some-varint_bytes n = elim (cases_lt n 128) [
  | inl small ↦ rw (varint_within-small 9 n small) (omega arith)
  | inr large ↦ rw (varint_within-large 8 n large) (omega arith)
]

bytes-varint_within : (k n : ℕ) → n < 128 ^ suc k → All (λ byte. byte < 256) (varint_within k n)
bytes-varint_within zero n h =
    rw varint_within-zero (All-cons (λ byte. byte < 256) n [] (omega (arith, pow-suc 128 0)) (All-nil (λ byte. byte < 256)))
bytes-varint_within (suc k) n h = elim (cases_lt n 128) [
  | inl small ↦ rw (varint_within-small (suc k) n small) (All-cons (λ byte. byte < 256) n [] (omega arith) (All-nil (λ byte. byte < 256)))
  | inr large ↦
      let fits : n / 128 < 128 ^ suc k = omega (arith, pow-suc 128 (suc k)) in
      rw (varint_within-large k n large) (All-cons (λ byte. byte < 256) (n % 128 + 128) (varint_within k (n / 128)) (omega arith) (bytes-varint_within k (n / 128) fits))
]

-- each of them is a byte
pub bytes-varint_bytes : (n : ℕ) → n < 2 ^ 64 → All (λ byte. byte < 256) (varint_bytes n)
unfolding varint_bytes
bytes-varint_bytes n h = bytes-varint_within 9 n (omega arith)
