use Rattle.std.proofs.Common.{rules}
use Rattle.std.proofs.lemmas.Fn.{always_returns_same}
use Rattle.cy_play_list.specs.Play.{time_at}
use Rattle.cy_play_list.proofs.play.sort.Goals as goal

pub returns-clause-order : goal.returns-clause-order
returns-clause-order c = record {
  by_time = c.in_ok-sort_by_key.ensures.sorted (time_at c.args.whole.now) (always_returns_same _ _ _ (λ a r q k. search rules));
  stable = c.in_ok-sort_by_key.ensures.stable (time_at c.args.whole.now) (always_returns_same _ _ _ (λ a r q k. search rules));
}
