use Rattle.cy_writer.proofs.RecordBytes.{after_record}
use Rattle.cy_writer.proofs.laws.record_writes_leave_the_record.Goals as goal

pub returns : goal.returns
returns c = λ name channels chunks files. after_record channels chunks files name
