-- The load of the stop word, by the law of Check.
use Rattle.cy_table.proofs.Raising.{check_becomes, named}
use Rattle.cy_table.proofs.laws.stop_loads.Goals as goal

pub returns : goal.returns
returns k = record {
  check = λ r w s id v g out sits e may. check_becomes r w s id v sits g e may out (k.check.ensures.sound id g.croutine);
  names = λ r w s c rules less. named r w s c rules less;
}
