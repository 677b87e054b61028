use Rattle.std.proofs.Common.{◌≡◌, take}
use Rattle.cy_msg.specs.Placement.{processors_of}
use Rattle.cy_run.proofs.run.processors_in.Given as goal

abbrev pub invariant-loop-plan : goal.invariant-loop-plan
invariant-loop-plan l = l.processors ≡ processors_of (take l.plan-index l.placement.contexts)
