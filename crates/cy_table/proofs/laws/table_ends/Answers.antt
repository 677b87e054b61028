-- The start and the end of a table.
use Rattle.cy_table.proofs.Lying.{starts, all_idle, lies_open}
use Rattle.cy_table.proofs.laws.table_ends.Goals as goal

pub returns : goal.returns
returns k = record {
  start = λ r w words homes seen sound idle fixed roomy lies all. starts r w words homes seen sound idle fixed roomy lies all;
  idle = λ r w s v sits empty none. all_idle r w s v sits empty none;
  open_table = λ r w s v sits empty none. lies_open r w s v sits empty none;
}
