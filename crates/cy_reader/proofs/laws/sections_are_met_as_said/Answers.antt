use Rattle.cy_reader.proofs.Told.{told_as_said}
use Rattle.cy_reader.proofs.laws.sections_are_met_as_said.Goals as goal

pub returns : goal.returns
returns c = told_as_said
