use Rattle.std.proofs.Common.{◌≡◌, ◌++◌, take}
use Rattle.std.specs.Prelude.{map}
use Rattle.cy_reader.specs.private.Alone.{moved}
use Rattle.cy_reader.proofs.joining.move_messages.Given as goal

abbrev pub invariant-loop-message : goal.invariant-loop-message
invariant-loop-message l = l.messages.items ≡ l.fn.messages.items ++ map (moved l.body l.numbers) (take l.message-index l.others)
