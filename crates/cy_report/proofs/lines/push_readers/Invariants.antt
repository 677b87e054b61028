use Rattle.std.proofs.Common.{◌≡◌, ◌++◌, take}
use Rattle.std.specs.List.{flat_map}
use Rattle.cy_report.specs.CheckText.{spaced}
use Rattle.cy_report.proofs.lines.push_readers.Given as goal

abbrev pub invariant-loop-reader : goal.invariant-loop-reader
invariant-loop-reader l = l.to.items ≡ l.fn.to.items ++ flat_map (λ r. spaced r.channel) (take l.reader-index l.readers)
