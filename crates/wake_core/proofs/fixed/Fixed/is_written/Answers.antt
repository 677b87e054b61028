use Rattle.std.proofs.Common.{◌==◌, ◌∙◌, rules, tests}
use Rattle.std.proofs.lemmas.Iterator.{YieldsList-from_slice}
use Rattle.std.proofs.lemmas.Iterator.Search.{any_from_yields_List}
use Rattle.wake_core.specs.Run.{Route}
use Rattle.wake_core.proofs.Parting.{any_writes}
use Rattle.wake_core.proofs.fixed.Fixed.is_written.Goals as goal

pub returns : goal.returns
returns c =
    let routes = c.args.self.now.routes.items in
    any_from_yields_List (λ (x : Route). x.out == c.args.channel) _ _ c.any.result c.any.ensures.ran (YieldsList-from_slice routes cc) (λ x b q k. search (rules, tests)) ∙ any_writes routes 0 c.args.channel
