use Rattle.std.proofs.Common.{sym}
use Rattle.cy_verify.proofs.Searched.{next_found, none_found}
use Rattle.cy_verify.proofs.follower.next_on.Goals as goal

pub returns-in_err-found-clause-none : goal.returns-in_err-found-clause-none
returns-in_err-found-clause-none c = λ _. none_found c.args.channel c.args.from c.args.tape.now (sym c.in_err-found.ensures)

pub returns-clause-next : goal.returns-clause-next
returns-clause-next c = next_found c.args.channel c.args.from c.in_ok-found.found c.args.tape.now (sym c.in_ok-found.ensures)
