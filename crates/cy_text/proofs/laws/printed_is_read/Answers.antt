use Rattle.cy_text.proofs.PrintedText.{printed_read}
use Rattle.cy_text.proofs.laws.printed_is_read.Goals as goal

pub returns : goal.returns
returns c = printed_read
