use Rattle.cy_writer.proofs.RecordChunks.{are_chunks_given}
use Rattle.cy_writer.proofs.laws.messages_stand_in_their_chunks.Goals as goal

pub returns : goal.returns
returns c = are_chunks_given
