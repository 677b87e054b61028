use Rattle.std.proofs.Common.{◌≡◌}
use Rattle.cy_wiring.specs.Triggers.{after, met}
use Rattle.cy_wiring.proofs.triggers.met.Given as goal

abbrev pub invariant-loop-step : goal.invariant-loop-step
invariant-loop-step l = record {
  met : l.components.items ≡ met l.triggers l.start l._step;
  here : l.at ≡ after l.triggers l._step l.start;
}
