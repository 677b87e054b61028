use Rattle.wake_core.specs.Run.{route_of}
use Rattle.cy_verify.proofs.Awaited.{ListeningTo}
use Rattle.cy_verify.proofs.follower.Follower.listen.Given as goal

abbrev pub invariant-loop-at : goal.invariant-loop-at
invariant-loop-at l = ListeningTo (route_of l.plan) l.roles l.tail l.tape l.fn.self l.self l.at
