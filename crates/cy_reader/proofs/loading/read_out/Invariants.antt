use Rattle.std.proofs.Common.{◌≡◌, length}
use Rattle.cy_reader.proofs.loading.read_out.Given as goal

abbrev pub invariant-loop : goal.invariant-loop
invariant-loop l = l.left.fault ≡ l.fn.messages.fault

abbrev pub decreases-loop : goal.decreases-loop
decreases-loop l = length l.left.messages
