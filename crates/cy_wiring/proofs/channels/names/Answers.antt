use Rattle.std.proofs.Common.{Bor, List, ℕ, map, take}
use Rattle.cy_wiring.proofs.NameSteps.{names_step, once_same}
use Rattle.cy_wiring.proofs.channels.names.Goals as goal

pub loop-mention-preserved : goal.loop-mention-preserved
loop-mention-preserved c = names_step c.args.mentions.now c.loop-mention.mention-index _ c.loop-mention.names c.add.new.self _ c.loop-mention-test.true c.loop-mention.invariant c.in_ok-add.ensures

pub returns-clause-once : goal.returns-clause-once
returns-clause-once c = once_same (map (λ (m : Bor (List ℕ)). m.now) (take c.loop-mention.mention-index c.args.mentions.now)) c.loop-mention.names c.loop-mention.invariant
