use Rattle.cy_make.proofs.RecordText.{record_text}
use Rattle.cy_make.proofs.laws.made_record_is_its_text.Goals as goal

pub returns : goal.returns
returns c = record_text
