use Rattle.std.proofs.Common.{◌≡◌, length}
use Rattle.wake_core.specs.private.Shown.{IsTable}
use Rattle.wake_core.proofs.fixed.table_of.Given as goal

-- Those of the channels so far.
abbrev pub invariant-loop-channel : goal.invariant-loop-channel
invariant-loop-channel l = record {
  long : length l.table.items ≡ l.channel;
  whole : IsTable l.fn.routes l.channel l.table.items;
}
