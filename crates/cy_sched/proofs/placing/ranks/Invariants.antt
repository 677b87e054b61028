use Rattle.std.proofs.Common.{◌≡◌, map}
use Rattle.std.specs.List.{filter}
use Rattle.cy_sched.specs.Placing.{is_member, numbers_below}
use Rattle.cy_sched.specs.private.Ranks.{HaveRanks}
use Rattle.cy_sched.proofs.placing.ranks.Given as goal

abbrev pub invariant-loop-component : goal.invariant-loop-component
invariant-loop-component l = record {
  members : map (λ r. r.1) l.ranks.items ≡ filter (is_member l.homes l.context) (numbers_below l.component);
  ranked : HaveRanks l.homes l.ranks.items;
}
