use Rattle.cy_fuse.proofs.Fusing.{fused-push, fused-few}
use Rattle.cy_fuse.proofs.laws.fusions_grow.Goals as goal

pub returns-clause-grow : goal.returns-clause-grow
returns-clause-grow c = fused-push

pub returns-clause-few : goal.returns-clause-few
returns-clause-few c = fused-few
