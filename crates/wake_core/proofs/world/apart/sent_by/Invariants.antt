use Rattle.std.proofs.Common.{◌≡◌, map, take}
use Rattle.wake_core.specs.private.Sent.{sent_count}
use Rattle.wake_core.proofs.world.apart.sent_by.Given as goal

-- Those of the components so far.
abbrev pub invariant-loop-routine : goal.invariant-loop-routine
invariant-loop-routine l = record {
  so_far : l.sent.items ≡ take l.routine-index (map sent_count l.fn.routines);
}
