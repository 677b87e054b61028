use Rattle.std.proofs.Common.{ℕ, ◌≡◌, ◌≤◌, ◌+◌, ◌-◌, length, drop}
use Rattle.cy_text.specs.Tokens.{tokens_from}
use Rattle.cy_text.proofs.gap.gap_len.Given as goal

abbrev pub invariant-loop-place : goal.invariant-loop-place
invariant-loop-place l = record {
  same : (at : ℕ) → tokens_from (at + l.place) 0 (drop l.place l.bytes) ≡ tokens_from at 0 l.bytes;
  within : l.place ≤ length l.bytes;
}

abbrev pub decreases-loop-place : goal.decreases-loop-place
decreases-loop-place l = length l.bytes - l.place
