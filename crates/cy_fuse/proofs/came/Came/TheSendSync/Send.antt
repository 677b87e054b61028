use denote.Param.Send.{IsSend}
use Rattle.cy_fuse.proofs.Fieldless.{came_send}
use Rattle.cy_fuse.specs.contracts.came.Came.{the_row}

pub send : IsSend the_row
send = came_send
