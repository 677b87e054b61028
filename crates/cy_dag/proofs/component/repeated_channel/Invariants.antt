use Rattle.std.proofs.Common.{◌≡◌, map, take, drop}
use Rattle.cy_config.specs.Refusals.{first_repeated, repeated_behind}
use Rattle.cy_dag.proofs.component.repeated_channel.Given as goal

abbrev pub invariant-loop-place : goal.invariant-loop-place
invariant-loop-place l = first_repeated (map (λ r. r.channel) l.readers) ≡ repeated_behind (map (λ r. r.channel) (take l.place l.readers)) (map (λ r. r.channel) (drop l.place l.readers))
