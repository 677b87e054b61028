-- A stream in memory: what a contract sees of it.
use Rattle.std.specs.Prelude.{ℕ, List, [], Bool, Some, refl}
use Rattle.std.specs.Ordering.{nat_cmp}
use Rattle.std.specs.FinSet as set
use Rattle.std.specs.Coded.{Coded, code_by, coded×, coded_ℕ, coded_list}
use Rattle.cy_store.specs.Store.{SinkView}
use Rattle.cy_store.specs.Memory.{next}

-- The numbers of writes.
abbrev pub Numbers : Type 0
Numbers = set.FinSet nat_cmp

-- The bytes that were written, the counts of faults and of writes, and which writes are to fail.
pub record Output : Type 0 where
  pub bytes : List ℕ
  pub faults : ℕ
  pub writes : ℕ
  pub failing : Numbers

-- An output is stored as the tuple of its fields.
abbrev pub output_code : Coded Output
output_code =
    code_by (List ℕ × (ℕ × (ℕ × Numbers))) (coded× (coded_list coded_ℕ)
    (coded× coded_ℕ (coded× coded_ℕ (set.code coded_ℕ))))
    (λ o. (o.bytes, (o.faults, (o.writes, o.failing))))
    (λ p. record { bytes = p.0; faults = p.1.0; writes = p.1.1.0; failing = p.1.1.1 })
    (λ _. refl)

-- No byte, no write yet, and none that is to fail.
abbrev pub new_output : Output
new_output = record { bytes = []; faults = 0; writes = 0; failing = set.empty }

-- What it shows as a sink.
abbrev pub sink_of : Output → SinkView
sink_of o = record { bytes = Some o.bytes; faults = o.faults }

-- With a write counted.
abbrev pub with_write : Output → Output
with_write o = record o { writes = next o.writes }

-- After a fault.
abbrev pub with_write_fault : Output → Output
with_write_fault o = record o { faults = next o.faults }

-- Whether the next write is to fail.
abbrev pub fails_next : Output → Bool
fails_next o = set.contains o.failing (next o.writes)
