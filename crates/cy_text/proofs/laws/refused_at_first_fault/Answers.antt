use Rattle.cy_text.proofs.FormOnly.{refused}
use Rattle.cy_text.proofs.FirstFaults as faults
use Rattle.cy_text.proofs.laws.refused_at_first_fault.Goals as goal

pub returns : goal.returns
returns c = record { no_form = refused; first_fault = faults.refused_first }
