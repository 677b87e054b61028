use Rattle.std.proofs.Common.{◌≡◌, length, drop}
use Rattle.wake_core.specs.private.Delivery.{cleared_by_all, AreReaders}
use Rattle.wake_core.proofs.world.deliver.clear_all.Given as goal

-- What the readers that are left come to is what all came to at first.
abbrev pub invariant-loop-reader : goal.invariant-loop-reader
invariant-loop-reader l = record {
  known : AreReaders (drop l.reader-index l.readers) (length l.routines);
  size : length l.spent.items ≡ length l.routines;
  same : cleared_by_all (drop l.reader-index l.readers) l.routines l.spent.items ≡ cleared_by_all l.readers l.routines l.fn.spent.items;
}
