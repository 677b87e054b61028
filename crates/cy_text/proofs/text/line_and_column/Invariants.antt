use Rattle.std.proofs.Common.{◌≡◌, ◌≤◌, ◌+◌, ◌==◌, count_by, take, drop}
use Rattle.cy_text.specs.Places.{column_behind, column_of}
use Rattle.cy_text.proofs.text.line_and_column.Given as goal

abbrev pub invariant-loop-byte : goal.invariant-loop-byte
invariant-loop-byte l = record {
  line : l.line ≡ count_by (λ byte. byte == 10) (take l.byte-index l.byte-items) + 1;
  column : column_behind l.column (drop l.byte-index l.byte-items) ≡ column_of l.text l.at;
  lines : l.line ≤ l.byte-index + 1;
  columns : l.column ≤ l.byte-index + 1;
}
