use Rattle.std.proofs.Common.{sym}
use Rattle.cy_wire.proofs.FormReads.{fields_read}
use Rattle.cy_wire.proofs.ReadForm.{read_form}
use Rattle.cy_wire.proofs.laws.fields_are_form.Goals as goal

pub returns : goal.returns
returns c at bytes = (read_form at bytes, λ other is. sym (fields_read is))
