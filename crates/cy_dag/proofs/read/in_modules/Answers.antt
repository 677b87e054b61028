use Rattle.std.specs.List.{flat_map}
use Rattle.std.proofs.Common.{Bor, List, map, ap, ◌∙◌}
use Rattle.std.proofs.lemmas.List.{take_all}
use Rattle.cy_config.specs.Lookups.{messages_under}
use Rattle.cy_config.proofs.Loops.{gathered_more}
use Rattle.cy_text.specs.Fields.{Fields}
use Rattle.cy_dag.proofs.read.in_modules.Goals as goal

pub loop-module-preserved : goal.loop-module-preserved
loop-module-preserved c =
    gathered_more (messages_under c.args.name.now) c.args.modules.now c.loop-module.module-index c.module-item.result c.loop-module.found.items c.in_ok-more.more.items _
    c.loop-module-test.true c.module-item.is c.loop-module.invariant c.in_ok-more.ensures.messages c.in_ok-append.ensures.items

pub returns : goal.returns
returns c =
    c.loop-module.invariant
    ∙ ap (λ (ms : List (Bor Fields)). flat_map (messages_under c.args.name.now) (map (λ (m : Bor Fields). m.now) ms)) (take_all c.loop-module.module-index c.args.modules.now c.loop-module-test.false)
