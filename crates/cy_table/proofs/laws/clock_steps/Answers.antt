-- The load and the store of the clock, by the law of Tick.
use Rattle.cy_table.proofs.Telling.{clock_seen, clock_rises, tick_becomes}
use Rattle.cy_table.proofs.laws.clock_steps.Goals as goal

pub returns : goal.returns
returns k = record {
  load = λ r w s id v out sits. clock_seen r w s id v sits out;
  rises = λ r w s id v sits. clock_rises r w s id v sits;
  tick = λ r w s v time out sits later. tick_becomes r w s v sits time later out (k.tick.ensures.sound time);
}
