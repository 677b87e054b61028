use Rattle.cy_writer.proofs.Cut.{nothing_cut, channel_cut, message_cut}
use Rattle.cy_writer.proofs.laws.chunks_end_in_time.Goals as goal

pub returns-clause-begins : goal.returns-clause-begins
returns-clause-begins c = nothing_cut

pub returns-clause-channels : goal.returns-clause-channels
returns-clause-channels c = channel_cut

pub returns-clause-messages : goal.returns-clause-messages
returns-clause-messages c = message_cut
