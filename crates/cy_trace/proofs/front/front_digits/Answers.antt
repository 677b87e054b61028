use Rattle.std.proofs.Common.{◌∷◌, ◌+◌, arith}
use Rattle.cy_trace.proofs.FrontLaws.{digit_first, digit_taken}
use Rattle.cy_trace.proofs.front.front_digits.Goals as goal

pub loop-digit-init : goal.loop-digit-init
loop-digit-init c = record { text = digit_first c.args.first c.args.bytes.now c.requires.1; some = c.requires.0 }

pub loop-digit-preserved : goal.loop-digit-preserved
loop-digit-preserved c =
    let l = c.loop-digit in
    record {
      text = digit_taken l.value c.in-Some.digit ((48 + c.args.first) ∷ c.args.bytes.now) l.rest.now c.in-Some.more.now l.invariant.text c.in-Some.ensures.1 l.invariant.some c.in-Some.ensures.0 (omega (arith, c.in-Some.ensures.0));
      some = omega (arith, l.invariant.some);
    }
