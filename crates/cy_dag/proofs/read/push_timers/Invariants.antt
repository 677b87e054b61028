use Rattle.std.proofs.Common.{◌≡◌, ◌++◌, map, take, drop}
use Rattle.cy_dag.specs.DagFile.{timer_of, timers_refusal}
use Rattle.cy_dag.proofs.read.push_timers.Given as goal

abbrev pub invariant-loop-fields : goal.invariant-loop-fields
invariant-loop-fields l = record {
  made : l.components.items ≡ l.fn.components.items ++ map timer_of (map (λ m. m.now) (take l.fields-index l.timers));
  behind : timers_refusal l.fn.components.items (map (λ m. m.now) l.timers) ≡ timers_refusal l.components.items (map (λ m. m.now) (drop l.fields-index l.timers));
}
