use Rattle.cy_trace.proofs.FrontLaws.{word_found}
use Rattle.cy_trace.proofs.front.front_word.Goals as goal

pub returns : goal.returns
returns c = word_found c.args.word.now c.args.bytes.now c.behind.result c.behind.ensures
