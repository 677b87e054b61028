-- Bytes of a file that were read ahead.
use Rattle.std.proofs.Common.{◌≡◌, ◌≤◌, ◌+◌, ◌-◌, ◌++◌, min, ℕ, List, [], length, take, drop, refl, ap, sym, ◌∙◌, arith, inl, inr, take-add, length-take, length-drop}
use Rattle.std.proofs.lemmas.Bool.{le-ltb, lt-ltb, cases_lt}
use Rattle.std.proofs.lemmas.List.{drop-drop, drop-take, take-append-le, take_at, drop_all, take-take, take_min, take_all}
use Rattle.std.proofs.Math.Seq.{take-append-add}
use Rattle.cy_cut.specs.declared.window.Window.{Window}
use Rattle.cy_cut.specs.private.Window.{IsFrontAt, IsRead, rest}

-- bytes that are known, and those behind them that were read
pub whole_behind : (file front part rest new : List ℕ) (at n m size : ℕ) → length front ≤ size → IsFrontAt at front file → n ≤ length part → new ≡ front ++ (part ++ rest) → m ≡ size - length front
    → take n part ≡ take m (drop (at + length front) file) → take (length front + n) new ≡ take size (drop at file)
whole_behind file front part rest new at n m size fits known few is left read =
    let k = length front in
    let all : k + m ≡ size = omega (arith, fits, left) in
    ap (take (k + n)) is ∙ take-append-add front (part ++ rest) n ∙ ap (λ (l : List ℕ). front ++ l) (take-append-le n part rest few) ∙ ap (λ (l : List ℕ). l ++ take n part) known
    ∙ ap (λ (l : List ℕ). take k (drop at file) ++ l) (read ∙ ap (take m) (sym (drop-drop k at file))) ∙ sym (take-add k m (drop at file)) ∙ ap (λ (i : ℕ). take i (drop at file)) all

pub front_first : (front copied behind : List ℕ) → copied ≡ front → take (length front) (copied ++ behind) ≡ front
front_first front copied behind e = take_at copied behind (length front) (ap length e) ∙ e

-- a part of the front stands where it begins
front_behind : (file bytes : List ℕ) (from k : ℕ) → IsFrontAt from bytes file → k ≤ length bytes → IsFrontAt (from + k) (drop k bytes) file
front_behind file bytes from k stands few =
    let n = length bytes in
    let all : k + (n - k) ≡ n = omega (arith, few) in
    let left : length (drop k bytes) ≡ n - k = length-drop k bytes in
    ap (drop k) (stands ∙ ap (λ (m : ℕ). take m (drop from file)) (sym all)) ∙ drop-take k (n - k) (drop from file)
    ∙ ap (take (n - k)) (drop-drop k from file) ∙ ap (λ (m : ℕ). take m (drop (from + k) file)) (sym left)

empty_stands : (file bytes : List ℕ) (at : ℕ) → bytes ≡ [] → IsFrontAt at bytes file
empty_stands file bytes at none = rw none refl

-- what a window has from a place on stands there
pub rest_stands : (file : List ℕ) (w : Window) (at : ℕ) → IsRead file w → IsFrontAt at (rest w at) file
rest_stands file w at read =
    let bytes = w.bytes.items in
    let n = length bytes in
    elim (cases_lt at w.at) [
      | inl before ↦ rw (lt-ltb at w.at before) refl
      | inr behind ↦ elim (cases_lt n (at - w.at)) [
        | inl past ↦
            let all : min n (at - w.at) ≡ n = omega (arith, past) in
            rw (le-ltb at w.at behind, all) (empty_stands file (drop n bytes) at (drop_all n bytes (omega arith)))
        | inr inside ↦
            let same : min n (at - w.at) ≡ at - w.at = omega (arith, inside) in
            let place : w.at + (at - w.at) ≡ at = omega (arith, behind) in
            rw (le-ltb at w.at behind, same) (subst_place file (drop (at - w.at) bytes) (w.at + (at - w.at)) at place (front_behind file bytes w.at (at - w.at) read inside))
      ]
    ]
  where
    subst_place : (file bytes : List ℕ) (a b : ℕ) → a ≡ b → IsFrontAt a bytes file → IsFrontAt b bytes file
    subst_place file bytes a b e stands = stands ∙ ap (λ (m : ℕ). take (length bytes) (drop m file)) e

-- it is enough where it has so many bytes
pub reached_so : (file bytes : List ℕ) (at need : ℕ) → IsFrontAt at bytes file → need ≤ length bytes → take need bytes ≡ take need (drop at file)
reached_so file bytes at need stands enough = ap (take need) stands ∙ take-take need (length bytes) (drop at file) enough

-- or once as many were read
pub read_front : (file bytes : List ℕ) (at ask : ℕ) → bytes ≡ take ask (drop at file) → IsFrontAt at bytes file
read_front file bytes at ask read =
    let many : length bytes ≡ min ask (length (drop at file)) = ap length read ∙ length-take ask (drop at file) in
    read ∙ sym (take_min ask (drop at file)) ∙ ap (λ (m : ℕ). take m (drop at file)) (sym many)

rest_there : (w : Window) (at : ℕ) → w.at ≡ at → rest w at ≡ w.bytes.items
rest_there w at e =
    let same : min (length w.bytes.items) (at - w.at) ≡ 0 = omega (arith, e) in
    rw (le-ltb at w.at (omega (arith, e)), same) refl

pub read_reached : (file : List ℕ) (w : Window) (at ask need : ℕ) → w.at ≡ at → need ≤ ask → w.bytes.items ≡ take ask (drop at file) → take need (rest w at) ≡ take need (drop at file)
read_reached file w at ask need e enough read = ap (take need) (rest_there w at e ∙ read) ∙ take-take need ask (drop at file) enough

-- the first bytes that a window has from a place on stand there
pub front_stands : (file : List ℕ) (w : Window) (at most : ℕ) (front : List ℕ) → IsRead file w → front ≡ take most (rest w at) → IsFrontAt at front file
front_stands file w at most front read is =
    let r = rest w at in
    let there : IsFrontAt at r file = rest_stands file w at read in
    elim (cases_lt most (length r)) [
      | inl low ↦
          let many : length front ≡ most = omega (arith, ap length is, length-take most r, low) in
          is ∙ reached_so file r at most there (omega (arith, low)) ∙ ap (λ (m : ℕ). take m (drop at file)) (sym many)
      | inr all ↦
          let whole : front ≡ r = is ∙ take_all most r all in
          rw whole there
    ]
