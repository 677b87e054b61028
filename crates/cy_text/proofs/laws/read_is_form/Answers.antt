use Rattle.cy_text.proofs.FormOnly.{read_form}
use Rattle.cy_text.proofs.laws.read_is_form.Goals as goal

pub returns : goal.returns
returns c = read_form
