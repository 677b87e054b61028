use Rattle.std.proofs.Common.{◌≡◌, ◌^◌, false}
use Rattle.cy_dag.specs.Values.{is_power_below}
use Rattle.cy_dag.proofs.values.is_power.Given as goal

abbrev pub invariant-loop-exponent : goal.invariant-loop-exponent
invariant-loop-exponent l = record {
  power : l.power ≡ 10 ^ l._exponent;
  none : is_power_below l._exponent l.number ≡ false;
}
