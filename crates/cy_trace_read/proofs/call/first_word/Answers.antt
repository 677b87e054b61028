use Rattle.std.proofs.Common.{sym}
use Rattle.cy_trace_read.proofs.ReadingSteps.{words_found, last_word}
use Rattle.cy_trace_read.proofs.call.first_word.Goals as goal

pub returns-in-Some-clause-parts : goal.returns-in-Some-clause-parts
returns-in-Some-clause-parts c = words_found c.args.words.now (c.in-Some.word.now, c.in-Some.more.now) (sym c.in-Some.ensures.parts)

pub returns-in-None-clause-parts : goal.returns-in-None-clause-parts
returns-in-None-clause-parts c = last_word c.args.words.now (sym c.in-None.ensures.parts)
