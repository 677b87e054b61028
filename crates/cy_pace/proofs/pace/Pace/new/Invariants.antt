use Rattle.std.proofs.Common.{◌≡◌, ◌≤◌, vec_len, vec_capacity}
use Rattle.cy_pace.proofs.pace.Pace.new.Given as goal

abbrev pub invariant-loop : goal.invariant-loop
invariant-loop l = (vec_len l.until ≡ l.counter) × (64 ≤ vec_capacity l.until)
