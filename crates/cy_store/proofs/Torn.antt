-- A put that was cut off leaves a torn file.
use Rattle.std.proofs.Common.{◌≡◌, ℕ, ◌+◌, ◌-◌, ◌≤◌, List, ◌++◌, Option, Some, None, length, take, drop, [], ap, ◌∙◌, arith, append_assoc, length-append, length-drop, is_some, cond, IfSome}
use Rattle.std.proofs.lemmas.List.{length-take-le, take_at}
use Rattle.std.proofs.lemmas.Slice.{drop-append-drop}
use Rattle.std.specs.Option.{MatchOption, unwrap_or}
use Rattle.std.specs.FinMap.{get, insert}
use Rattle.cy_store.specs.Files.{Files}
use Rattle.cy_store.specs.Write.{Put, written_at, IsTorn, Leaves}
use Rattle.cy_store.specs.Memory.{put_over}

-- what a shorter piece leaves of the range of a longer one
pub written_at-torn : (before piece : List ℕ) (at n : ℕ) → at ≤ length before → length piece ≤ n → IsTorn at n before (written_at before at piece)
written_at-torn before piece at n inside short =
    let rest = drop (at + length piece) before in
    let front : length (take at before) ≡ at = length-take-le at before inside in
    let put : length (take at before ++ piece) ≡ at + length piece = length-append (take at before) piece ∙ ap (λ k. k + length piece) front in
    let whole : length (written_at before at piece) ≡ (at + length piece) + (length before - (at + length piece)) =
    length-append (take at before ++ piece) rest ∙ (λ i. put i + length-drop (at + length piece) before i) in
    record {
      front = rw append_assoc (take_at (take at before) (piece ++ rest) at front);
      back = drop-append-drop (at + length piece) before (take at before ++ piece) (at + n) (omega arith) put;
      no_shorter = omega arith;
      no_longer = omega arith;
    }

leaves_by : (found : Option (List ℕ)) (m n : Files) (name : List ℕ) (at : ℕ) (piece bytes : List ℕ) → IfSome found (λ before. at ≤ length before) → length piece ≤ length bytes
    → n ≡ cond (is_some found) (insert m name (written_at (unwrap_or found []) at piece)) m
    → MatchOption found (n ≡ m) (λ before. (after : List ℕ) × IsTorn at (length bytes) before after × (n ≡ insert m name after))
leaves_by None m n name at piece bytes inside short is = is
leaves_by (Some before) m n name at piece bytes inside short is = (written_at before at piece, written_at-torn before piece at (length bytes) inside short, is)

-- what a put of a front of its bytes leaves
pub put_over-leaves : (m n : Files) (name : List ℕ) (at : ℕ) (piece bytes : List ℕ) → IfSome (get m name) (λ before. at ≤ length before) → length piece ≤ length bytes
    → n ≡ put_over name at piece m → Leaves (Put name at bytes) m n
put_over-leaves m n name at piece bytes inside short is = leaves_by (get m name) m n name at piece bytes inside short is
