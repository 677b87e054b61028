use Rattle.std.proofs.Common.{rules}
use Rattle.cy_setup.proofs.Texts.{parsed, wrong_parsed}
use Rattle.cy_setup.proofs.text.parse_text.Goals as goal

pub returns-in-Ok-clause-parsed : goal.returns-in-Ok-clause-parsed
returns-in-Ok-clause-parsed c = parsed c.args.name.now c.args.text.now c.in-Ok.tree c.requires c.in-Ok.ensures.reads

pub returns-in-Err-clause-parsed : goal.returns-in-Err-clause-parsed
returns-in-Err-clause-parsed c = wrong_parsed c.args.name.now c.args.text.now c.in-Err.fault c.refused.result c.requires (search rules) c.refused.ensures
