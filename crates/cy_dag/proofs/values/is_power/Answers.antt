use Rattle.std.proofs.Common.{arith, sym, ◌∙◌}
use Rattle.cy_dag.specs.Values.{is_power_of_ten}
use Rattle.cy_dag.proofs.Powers.{at_most, power_found, power_more, power_passed}
use Rattle.cy_dag.proofs.values.is_power.Goals as goal

pub overflow_mul-power : goal.overflow_mul-power
overflow_mul-power c = let small = at_most c.loop-exponent._exponent c.loop-exponent-test.true in omega (arith, small, c.loop-exponent.invariant.power)

pub returns-then-from-power : goal.returns-then-from-power
unfolding is_power_of_ten
returns-then-from-power c = sym (power_found c.args.number c.loop-exponent._exponent 20 c.loop-exponent-test.true (sym c.from.ensures ∙ c.if-from-power.true ∙ c.loop-exponent.invariant.power))

pub loop-exponent-preserved : goal.loop-exponent-preserved
loop-exponent-preserved c = record {
  power = power_more c.loop-exponent._exponent c.loop-exponent.power c.loop-exponent.invariant.power;
  none = power_passed c.args.number c.loop-exponent._exponent c.loop-exponent.power c.loop-exponent.invariant.power (λ same. c.if-from-power.false (c.from.ensures ∙ same)) c.loop-exponent.invariant.none;
}
