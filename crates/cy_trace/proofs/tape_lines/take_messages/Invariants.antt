use Rattle.std.proofs.Common.{◌+◌, ◌≤◌, length}
use Rattle.cy_trace.specs.Tapes.{told_by, AreNamed}
use Rattle.cy_trace.specs.Taking.{TakesMessages}
use Rattle.cy_trace.proofs.tape_lines.take_messages.Given as goal

abbrev pub invariant-loop-message : goal.invariant-loop-message
invariant-loop-message l = record {
  named : AreNamed l.names l.fn.messages.items → AreNamed l.names l.messages.items;
  taken : TakesMessages l.bytes l.rest (told_by l.names l.fn.messages.items) (told_by l.names l.messages.items) l.line l.next;
  room : l.next + length l.rest ≤ 4294967295;
}

abbrev pub decreases-loop-message : goal.decreases-loop-message
decreases-loop-message l = length l.rest
