use Rattle.std.proofs.Common.{◌≡◌, ◌++◌, take, drop}
use Rattle.std.specs.Prelude.{map}
use Rattle.cy_reader.specs.private.Uniting.{shifted}
use Rattle.cy_reader.proofs.uniting.shift_messages.Given as goal

abbrev pub invariant-loop-message : goal.invariant-loop-message
invariant-loop-message l = l.message-items ≡ map (shifted l.bodies l.numbers) (take l.message-index l.fn.later.items) ++ drop l.message-index l.fn.later.items
