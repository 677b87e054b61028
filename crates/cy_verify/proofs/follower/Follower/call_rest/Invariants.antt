use Rattle.wake_core.specs.Run.{route_of}
use Rattle.cy_verify.proofs.EndLed.{LedWhole}
use Rattle.cy_verify.proofs.follower.Follower.call_rest.Given as goal

abbrev pub invariant-loop-at : goal.invariant-loop-at
invariant-loop-at l = LedWhole (route_of l.plan) l.told l.tape l.fn.self l._at l.self
