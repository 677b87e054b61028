use Rattle.std.proofs.Common.{◌≡◌, ◌+◌, ◌-◌, ◌*◌, ◌≤◌, length}
use Rattle.wake_core.specs.Run.{routes_of}
use Rattle.wake_core.specs.Planned.{counts_from}
use Rattle.wake_core.proofs.entries.planned_messages.Given as goal

-- What was summed, and what is left.
abbrev pub invariant-loop-channel : goal.invariant-loop-channel
invariant-loop-channel l = record {
  sums : l.sum + counts_from (routes_of l.fn.wiring.plans) l.fn.counts l.channel (length l.fn.counts - l.channel)
      ≡ counts_from (routes_of l.fn.wiring.plans) l.fn.counts 0 (length l.fn.counts);
  most : l.sum ≤ l.channel * 4294967295;
}
