use Rattle.cy_setup.proofs.Listed.{no_timers, none_judged}
use Rattle.cy_setup.proofs.listing.with_ticks.Goals as goal

pub returns-then-is_empty-clause-merged : goal.returns-then-is_empty-clause-merged
returns-then-is_empty-clause-merged c = no_timers c.args.messages c.args.timers.now c.is_empty.result c.is_empty.ensures c.if-is_empty.true

pub returns-then-is_empty-clause-judged : goal.returns-then-is_empty-clause-judged
returns-then-is_empty-clause-judged c = none_judged c.args.name.now c.args.messages c.args.timers.now c.is_empty.result c.is_empty.ensures c.if-is_empty.true c.requires.few
