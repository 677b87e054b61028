use Rattle.std.proofs.Common.{◌+◌, ◌-◌, arith}
use Rattle.cy_cut.proofs.Walked.{index_is}
use Rattle.cy_cut.proofs.heads.index_at.Goals as goal

pub returns-clause-index : goal.returns-clause-index
returns-clause-index c =
    let start = c.args.at + 16 in
    rw c.in_ok-body.ensures.copy (index_is c.args.file.now c.args.at c.size_at-size.result ((start + c.min-held.result) - start) (omega arith) c.size_at-size.ensures (omega (arith, c.min-held.ensures)))
