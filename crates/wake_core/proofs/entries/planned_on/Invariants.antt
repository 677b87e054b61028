use Rattle.std.proofs.Common.{◌≡◌, ◌-◌, ◌<◌, length}
use Rattle.wake_core.specs.Run.{routes_of}
use Rattle.wake_core.specs.Planned.{source_after}
use Rattle.wake_core.proofs.entries.planned_on.Given as goal

-- As many steps as are left lead from here to the same channel as all of them from the first one.
abbrev pub invariant-loop : goal.invariant-loop
invariant-loop l = record {
  known : l.from < length l.fn.wiring.names;
  ends : l.end ≡ length l.fn.wiring.plans;
  after : source_after (routes_of l.fn.wiring.plans) (l.end - l.counter) l.from
      ≡ source_after (routes_of l.fn.wiring.plans) (length l.fn.wiring.plans) l.fn.channel;
}
