-- The load of a state, by the law of Look.
use Rattle.cy_table.proofs.Telling.{look_becomes}
use Rattle.cy_table.proofs.laws.state_loads.Goals as goal

pub returns : goal.returns
returns k = record { look = λ r w s id v c later out sits filled first less. look_becomes r w s id v sits c later filled first less out (k.look.ensures.sound id c) }
