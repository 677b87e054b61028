-- Each queue that a component reads keeps at least one message.
use Rattle.std.proofs.Common.{ℕ, zero, suc, ◌≡◌, ◌≤◌, List, map, slice_get, codes, Option, Some, None, sym, ap, ◌∙◌, arith}
use Rattle.std.proofs.lemmas.Option.{slice_get-map}
use Rattle.cy_text.specs.Fields.{Fields}
use Rattle.cy_config.specs.Lookups.{messages_under, u32_under}
use Rattle.cy_dag.specs.DagFile.{HaveQueues, component_of, queue_of, reader_of, settings_of}
use Rattle.cy_dag.specs.declared.dag.DagComponent.{DagComponent}
use Rattle.cy_dag.specs.declared.dag.DagReader.{DagReader}
use Rattle.cy_dag.proofs.Found.{mapped_some}

queue_least : (o : Option ℕ) → 1 ≤ queue_of o
queue_least None = omega arith
queue_least (Some zero) = omega arith
queue_least (Some (suc n)) = omega arith

pub queues_of : (ms : List Fields) → HaveQueues (map component_of ms)
queues_of ms i c at j r reads =
    let m = mapped_some component_of (slice_get ms i) c (sym (slice_get-map component_of ms i) ∙ at) in
    let rs = messages_under (codes "readers") (settings_of m.0) in
    let e : slice_get (map reader_of rs) j ≡ Some r = ap (λ (x : DagComponent). slice_get x.readers j) m.2 ∙ reads in
    let f = mapped_some reader_of (slice_get rs j) r (sym (slice_get-map reader_of rs j) ∙ e) in
    omega (arith, ap (λ (x : DagReader). x.queue) f.2, queue_least (u32_under (codes "pending_queue_size") f.0))
