use Rattle.cy_commands.proofs.Leaving.{leaves_its_files}
use Rattle.cy_commands.proofs.laws.commands_leave_their_files.Goals as goal

pub returns : goal.returns
returns c = leaves_its_files c.play_files_differ.ensures record {
  whole = c.record_writes_leave_the_record.ensures;
  failed = c.stopped_writes_leave_a_front.ensures.failed;
  starved = c.stopped_writes_leave_a_front.ensures.starved;
  others = c.stopped_writes_leave_other_files.ensures.failed;
  others_starved = c.stopped_writes_leave_other_files.ensures.starved;
}
