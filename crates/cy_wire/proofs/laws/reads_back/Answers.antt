use Rattle.cy_wire.proofs.Fronts.{front_number-varint_bytes}
use Rattle.cy_wire.proofs.laws.reads_back.Goals as goal

pub returns : goal.returns
returns c = front_number-varint_bytes
