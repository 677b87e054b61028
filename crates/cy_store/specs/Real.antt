-- Files and streams of the machine: they tell no content, so that a contract sees only their
-- counts.
use Rattle.std.specs.Prelude.{ℕ, List, Option, None}
use Rattle.cy_store.specs.Store.{StoreView, SinkView}
use Rattle.cy_store.specs.Memory.{next}

-- The counts of faults and of names that were not there.
pub record Counts : Type 0 where
  pub faults : ℕ
  pub misses : ℕ

-- No fault yet, and no name that was not there.
abbrev pub new_counts : Counts
new_counts = record { faults = 0; misses = 0 }

-- After a fault.
abbrev pub count_fault : Counts → Counts
count_fault c = record c { faults = next c.faults }

-- After a name that was not there.
abbrev pub count_miss : Counts → Counts
count_miss c = record c { misses = next c.misses }

-- What the files of the machine show as a store.
abbrev pub untold_store : Counts → StoreView
untold_store c = record { files = None; faults = c.faults; misses = c.misses }

-- A stream of the machine: the count of faults, and what the writer behind it holds, where that
-- tells it.
pub record Stream : Type 0 where
  pub faults : ℕ
  pub contents : Option (List ℕ)

-- What a stream of the machine shows as a sink.
abbrev pub untold_sink : Stream → SinkView
untold_sink s = record { bytes = None; faults = s.faults }
