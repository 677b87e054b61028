use Rattle.std.proofs.Common.{ap, ◌∙◌, option_and_then}
use Rattle.cy_config.specs.Kinds.{message_of}
use Rattle.cy_config.proofs.Sizes.{message_size}
use Rattle.cy_config.proofs.lookup.message_under.Goals as goal

pub returns-clause-size : goal.returns-clause-size
returns-clause-size c =
    message_size c.message_of.result c.args.name.now c.args.tree.now (c.message_of.ensures ∙ ap (option_and_then message_of) c.in_ok-last_under.ensures)
