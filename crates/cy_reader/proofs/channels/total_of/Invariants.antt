use Rattle.std.proofs.Common.{◌≡◌, take}
use Rattle.std.specs.Prelude.{sum_by}
use Rattle.cy_reader.specs.Record.{size_of}
use Rattle.cy_reader.proofs.channels.total_of.Given as goal

abbrev pub invariant-loop-known : goal.invariant-loop-known
invariant-loop-known l = l.total ≡ sum_by size_of (take l.known-index l.channels)
