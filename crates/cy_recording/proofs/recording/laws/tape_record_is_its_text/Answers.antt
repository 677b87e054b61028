use Rattle.cy_recording.proofs.TapeText.{record_text}
use Rattle.cy_recording.proofs.recording.laws.tape_record_is_its_text.Goals as goal

pub returns : goal.returns
returns c = record_text
