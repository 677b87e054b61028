use Rattle.cy_args.proofs.OptionsRead.{is_behind}
use Rattle.cy_args.proofs.options.behind_hyphens.Goals as goal

pub returns : goal.returns
returns c = is_behind c.args.word.now c.strip_prefix.result c.strip_prefix.ensures.cases
