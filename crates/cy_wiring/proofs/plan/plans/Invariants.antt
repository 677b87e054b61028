use Rattle.std.proofs.Common.{◌≡◌, take}
use Rattle.std.specs.List.{zip}
use Rattle.cy_wiring.specs.Wiring.{plans_of}
use Rattle.cy_wiring.proofs.plan.plans.Given as goal

abbrev pub invariant-loop-place : goal.invariant-loop-place
invariant-loop-place l = l.plans.items ≡ plans_of l.names (zip (take l.place l.components) (take l.place l.configs))
