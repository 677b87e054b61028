use Rattle.std.proofs.Common.{◌≡◌, drop}
use Rattle.wake_core.specs.private.Delivery.{arrived_at_all, MayArriveAtAll}
use Rattle.wake_core.proofs.world.deliver.arrive_at_all.Given as goal

-- What the readers that are left come to is what all came to at first.
abbrev pub invariant-loop-reader : goal.invariant-loop-reader
invariant-loop-reader l = record {
  may : MayArriveAtAll (drop l.reader-index l.readers) l.token l.visitors.items;
  same : arrived_at_all (drop l.reader-index l.readers) l.token l.visitors.items ≡ arrived_at_all l.readers l.token l.fn.visitors.items;
}
