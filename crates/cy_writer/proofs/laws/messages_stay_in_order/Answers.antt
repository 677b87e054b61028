use Rattle.cy_writer.proofs.Cut.{message_last}
use Rattle.cy_writer.proofs.laws.messages_stay_in_order.Goals as goal

pub returns : goal.returns
returns c = message_last
