use Rattle.std.proofs.Common.{rules}
use Rattle.cy_setup.proofs.Texts.{longer_text}
use Rattle.cy_setup.proofs.text.read_text.Goals as goal

pub returns-in-Ok-Longer-clause-comes : goal.returns-in-Ok-Longer-clause-comes
returns-in-Ok-Longer-clause-comes g c =
    longer_text c.args.name.now c.in-Ok-Longer.size (g.S.Store.shows c.args.store.now) (g.S.Store.shows c.read_file.new.store) c.refused.result (search rules) (search rules) c.refused.ensures c.read_file.ensures.same
    (c.read_file.ensures.causes.quiet (λ e. search rules))
