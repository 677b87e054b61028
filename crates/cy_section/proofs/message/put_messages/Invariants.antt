use Rattle.std.proofs.Common.{◌≡◌, ◌++◌, take}
use Rattle.cy_section.specs.Section.{chunk_body}
use Rattle.cy_section.proofs.message.put_messages.Given as goal

abbrev pub invariant-loop-message : goal.invariant-loop-message
invariant-loop-message l = l.to ≡ l.fn.to ++ chunk_body (take l.message-index l.messages)
