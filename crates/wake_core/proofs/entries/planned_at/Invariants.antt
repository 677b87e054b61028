use Rattle.std.proofs.Common.{◌≡◌, ◌+◌, ◌*◌, ◌≤◌, map, sum, drop}
use Rattle.wake_core.specs.Run.{routes_of}
use Rattle.wake_core.specs.Planned.{planned_count}
use Rattle.wake_core.proofs.entries.planned_at.Given as goal

-- What was summed, and what is left.
abbrev pub invariant-loop-channel : goal.invariant-loop-channel
invariant-loop-channel l = record {
  sums : l.sum + sum (map (planned_count (routes_of l.fn.wiring.plans) l.fn.counts) (drop l.channel-index l.fn.readers))
      ≡ sum (map (planned_count (routes_of l.fn.wiring.plans) l.fn.counts) l.fn.readers);
  most : l.sum ≤ l.channel-index * 4294967295;
}
