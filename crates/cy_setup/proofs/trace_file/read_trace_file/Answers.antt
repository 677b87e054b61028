use Rattle.std.proofs.Common.{rules}
use Rattle.cy_setup.proofs.TraceTexts.{long_read, short_read}
use Rattle.cy_setup.proofs.trace_file.read_trace_file.Goals as goal

pub returns-in-Ok-Whole-clause-comes : goal.returns-in-Ok-Whole-clause-comes
returns-in-Ok-Whole-clause-comes g c =
    short_read c.args.name.now c.in-Ok-Whole.text (g.S.Store.shows c.args.store.now) (g.S.Store.shows c.read_file.new.store) (search rules) (search rules)
    record { same = c.read_file.ensures.same; counts = c.read_file.ensures.causes.quiet (λ e. search rules) }

pub returns-in-Ok-Longer-clause-comes : goal.returns-in-Ok-Longer-clause-comes
returns-in-Ok-Longer-clause-comes g c =
    long_read c.args.name.now c.in-Ok-Longer.size (g.S.Store.shows c.args.store.now) (g.S.Store.shows c.read_file.new.store) c.refused.result (search rules) (search rules)
    record { same = c.read_file.ensures.same; counts = c.read_file.ensures.causes.quiet (λ e. search rules) } c.refused.ensures
