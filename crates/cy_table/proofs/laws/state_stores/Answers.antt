-- The stores of a state, by the laws of Ready, Ask and Yield.
use Rattle.cy_table.specs.Steps.{next_state}
use Rattle.cy_table.proofs.Holding.{ready_becomes, ask_becomes, yield_becomes}
use Rattle.cy_table.proofs.laws.state_stores.Goals as goal

pub returns : goal.returns
returns k = record {
  ready = λ r w s id v g out sits e may. ready_becomes r w s id v sits g e may out (k.ready.ensures.sound id g.croutine);
  ask = λ r w s id v g out sits e may. ask_becomes r w s id v sits g e may out (k.ask.ensures.sound id g.croutine);
  yield_as = λ r w s id v g out sits e may. yield_becomes r w s id v sits g e may out (k.yield_as.ensures.sound id g.croutine (next_state g));
}
