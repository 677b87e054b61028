use Rattle.cy_reader.proofs.Told.{record_once}
use Rattle.cy_reader.proofs.laws.channels_have_own_names.Goals as goal

pub returns : goal.returns
returns c = record_once
