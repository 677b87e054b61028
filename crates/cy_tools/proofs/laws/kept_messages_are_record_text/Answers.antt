use Rattle.cy_tools.proofs.Texts.{kept_text}
use Rattle.cy_tools.proofs.laws.kept_messages_are_record_text.Goals as goal

pub returns : goal.returns
returns c = kept_text
