use Rattle.std.proofs.Common.{List, ℕ, ◌≡◌, map, take, drop}
use Rattle.std.specs.List.{list_any}
use Rattle.std.specs.Str.{bytes_eq}
use Rattle.std.specs.HashSet.{contains_by}
use Rattle.cy_config.specs.Refusals.{first_repeated, repeated_behind}
use Rattle.cy_sched.proofs.read.repeated_name.Given as goal

abbrev pub invariant-loop-group : goal.invariant-loop-group
invariant-loop-group l = record {
  kept : (q : List ℕ) → contains_by (λ k. bytes_eq q k.now) l.names ≡ list_any (λ n. bytes_eq n q) (map (λ g. g.name) (take l.group-index l.groups));
  behind : first_repeated (map (λ g. g.name) l.groups) ≡ repeated_behind (map (λ g. g.name) (take l.group-index l.groups)) (map (λ g. g.name) (drop l.group-index l.groups));
}
