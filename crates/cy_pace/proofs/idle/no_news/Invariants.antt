use Rattle.std.proofs.Common.{◌≡◌, ◌≤◌, vec_len, vec_capacity}
use Rattle.cy_pace.proofs.idle.no_news.Given as goal

abbrev pub invariant-loop : goal.invariant-loop
invariant-loop l = (vec_len l.news ≡ l.counter) × (65 ≤ vec_capacity l.news)
