-- Seats come and go.
use Rattle.cy_table.proofs.Benching.{splits, joins}
use Rattle.cy_table.proofs.laws.bench_steps.Goals as goal

pub returns : goal.returns
returns k = record {
  split = λ r w s v sits. splits r w s v sits;
  join = λ r w s v j o sits apart at live empty. joins r w s v sits j o apart at live empty;
}
