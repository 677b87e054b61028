use Rattle.cy_verify.proofs.Heard.{AllCame}
use Rattle.cy_verify.proofs.follower.Follower.has_heard_all.Given as goal

abbrev pub invariant-loop-reader : goal.invariant-loop-reader
invariant-loop-reader l = AllCame l.plan.readers l.self.visitor.arrivals l.tape l.reader
