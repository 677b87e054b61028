use denote.Param.Send.{IsSync}
use Rattle.cy_comp.proofs.Fieldless.{made_sync}
use Rattle.cy_comp.specs.contracts.made.Made.{the_row}

pub sync : IsSync the_row
sync = made_sync
