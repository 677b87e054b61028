-- What is planned is within the limit, part by part.
use Rattle.std.proofs.Common.{ℕ, zero, suc, ◌+◌, ◌≤◌, ◌<◌, inl, inr, arith, List, length}
use Rattle.cy_msg.proofs.Lists.{place}
use Rattle.wake_core.specs.Run.{Route}
use Rattle.wake_core.specs.Planned.{planned, planned_count, counts_from}

pub counts_in : (routes : List Route) (counts : List ℕ) (first more channel : ℕ) → first ≤ channel → channel < first + more → planned_count routes counts channel ≤ counts_from routes counts first more
counts_in routes counts first zero channel a b = absurd (omega (arith, a, b))
counts_in routes counts first (suc more) channel a b = elim (place channel first) [
  | inl same ↦ rw same (omega arith)
  | inr other ↦ let rest = counts_in routes counts (suc first) more channel (omega (arith, a, other)) (omega (arith, b)) in omega (arith, rest)
]

pub tape_limit : (routes : List Route) (counts : List ℕ) → counts_from routes counts 0 (length counts) ≤ planned routes counts
unfolding planned
tape_limit routes counts = omega arith

pub count_limit : (routes : List Route) (counts : List ℕ) (channel most : ℕ) → planned routes counts ≤ most → channel < length counts → planned_count routes counts channel ≤ most
count_limit routes counts channel most limited known =
    let one = counts_in routes counts 0 (length counts) channel (omega arith) (omega (arith, known)) in
    let all = tape_limit routes counts in
    omega (arith, one, all, limited)
