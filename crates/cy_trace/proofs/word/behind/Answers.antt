use Rattle.cy_trace.proofs.CutLaws.{behind_result}
use Rattle.cy_trace.proofs.word.behind.Goals as goal

pub returns : goal.returns
returns c = behind_result c.args.prefix.now c.args.bytes.now c.strip_prefix.result c.strip_prefix.ensures.cases
