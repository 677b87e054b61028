use Rattle.std.proofs.Common.{◌∙◌}
use Rattle.cy_args.proofs.Places.{place_mapped}
use Rattle.cy_args.proofs.options.place_of.Goals as goal

pub returns : goal.returns
returns c = c.first_place.ensures ∙ place_mapped c.args.known.now c.args.name.now
