use Rattle.std.proofs.Common.{◌≡◌, ◌+◌, ◌*◌, ◌≤◌, map, sum, drop}
use Rattle.wake_core.specs.Run.{routes_of}
use Rattle.wake_core.specs.Planned.{planned_count}
use Rattle.wake_core.proofs.entries.planned_arrivals.Given as goal

-- What was summed, and what is left.
abbrev pub invariant-loop-plan : goal.invariant-loop-plan
invariant-loop-plan l = record {
  sums : l.sum + sum (map (λ x. sum (map (planned_count (routes_of l.fn.wiring.plans) l.fn.counts) x.readers)) (drop l.plan-index (routes_of l.fn.wiring.plans)))
      ≡ sum (map (λ x. sum (map (planned_count (routes_of l.fn.wiring.plans) l.fn.counts) x.readers)) (routes_of l.fn.wiring.plans));
  most : l.sum ≤ l.plan-index * 17179869180;
}
