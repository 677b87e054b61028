use Rattle.std.proofs.Common.{rules}
use Rattle.cy_msg.proofs.OnceSteps.{slice_get-position}
use Rattle.cy_msg.proofs.names.Names.number_of.Goals as goal

pub returns-clause-found : goal.returns-clause-found
returns-clause-found c =
    let found = slice_get-position c.as_slice.result.now c.args.name.now c.place_of.result c.place_of.ensures.first in
    search (rules, found)
