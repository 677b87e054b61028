use Rattle.cy_text.proofs.FormReads.{form_read}
use Rattle.cy_text.proofs.laws.form_is_read.Goals as goal

pub returns : goal.returns
returns c = form_read
