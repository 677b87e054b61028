use Rattle.std.proofs.Common.{◌≡◌, [], take, map}
use Rattle.cy_msg.specs.declared.token.Token.{Token}
use Rattle.cy_writer.specs.Order.{numbers_after}
use Rattle.cy_recording.proofs.recording.order_of.Given as goal

abbrev pub invariant-loop-token : goal.invariant-loop-token
invariant-loop-token l = record {
  numbers : l.order.numbers ≡ numbers_after [] (take l.token-index (map (λ (t : Token). t.channel) l.tape));
  all : l.order.all ≡ l.channels;
}
