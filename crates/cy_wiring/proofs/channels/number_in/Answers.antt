use Rattle.std.proofs.Common.{◌∙◌}
use Rattle.cy_wiring.proofs.NameSteps.{number_is}
use Rattle.cy_wiring.proofs.channels.number_in.Goals as goal

pub returns : goal.returns
returns c = c.unwrap_or.ensures ∙ number_is c.args.names.now c.args.channel.now c.number_of.result c.requires c.number_of.ensures.found c.number_of.ensures.none
