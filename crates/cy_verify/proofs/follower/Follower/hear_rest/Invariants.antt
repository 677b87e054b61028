use Rattle.wake_core.specs.Run.{route_of}
use Rattle.cy_verify.proofs.Awaited.{HearingRest}
use Rattle.cy_verify.proofs.follower.Follower.hear_rest.Given as goal

abbrev pub invariant-loop-at : goal.invariant-loop-at
invariant-loop-at l = HearingRest (route_of l.plan) l.roles l.tape l.fn.self l.self l.at
