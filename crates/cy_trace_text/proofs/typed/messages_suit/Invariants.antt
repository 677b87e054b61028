use Rattle.std.proofs.Common.{◌≡◌, ◌<◌, ℕ, Some, slice_get}
use Rattle.cy_msg.specs.declared.token.Token.{Token}
use Rattle.cy_trace_text.specs.Laws.{Suits}
use Rattle.cy_trace_text.proofs.typed.messages_suit.Given as goal

abbrev pub invariant-loop-message : goal.invariant-loop-message
invariant-loop-message l = (n : ℕ) (t : Token) → n < l.message-index → slice_get l.messages n ≡ Some t → Suits t
