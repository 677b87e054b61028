use denote.Param.Send.{IsSync}
use Rattle.cy_fuse.proofs.Fieldless.{came_sync}
use Rattle.cy_fuse.specs.contracts.came.Came.{the_row}

pub sync : IsSync the_row
sync = came_sync
