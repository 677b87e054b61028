use denote.Param.Send.{IsSend}
use Rattle.cy_comp.proofs.Fieldless.{made_send}
use Rattle.cy_comp.specs.contracts.made.Made.{the_row}

pub send : IsSend the_row
send = made_send
