use Rattle.cy_read_back.proofs.OncePut.{put_once}
use Rattle.cy_read_back.proofs.laws.sections_are_put_once.Goals as goal

pub returns : goal.returns
returns c = put_once
