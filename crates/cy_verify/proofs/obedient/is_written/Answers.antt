use Rattle.std.proofs.Common.{◌==◌, ◌∙◌, rules, tests}
use Rattle.std.proofs.lemmas.Iterator.{YieldsList-from_slice}
use Rattle.std.proofs.lemmas.Iterator.Search.{any_from_yields_List}
use Rattle.cy_comp.specs.declared.plan.Plan.{Plan}
use Rattle.cy_verify.proofs.Written.{any_plans}
use Rattle.cy_verify.proofs.obedient.is_written.Goals as goal

pub returns : goal.returns
returns c =
    any_from_yields_List (λ (p : Plan). p.out == c.args.channel) _ _ c.any.result c.any.ensures.ran (YieldsList-from_slice c.args.plans.now cc) (λ x b q k. search (rules, tests)) ∙ any_plans c.args.plans.now 0 c.args.channel
