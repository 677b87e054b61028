use Rattle.std.proofs.Common.{arith}
use Rattle.std.proofs.lemmas.Result.{err_from_is_err_and}
use Rattle.cy_text.proofs.Strings as steps
use Rattle.cy_text.proofs.quote.string_at.Goals as goal

pub loop-place-init : goal.loop-place-init
loop-place-init c = record { reading = rw c.new-out.ensures.items (steps.string_starts c.args.start c.args.bytes.now c.requires.some); within = omega arith; behind = omega arith }

pub returns-then-byte-quote-clause-value : goal.returns-then-byte-quote-clause-value
returns-then-byte-quote-clause-value c =
    steps.closes c.args.start _ c.loop-place.out.items c.loop-place.place c.args.bytes.now _ c.loop-place.invariant.reading c.loop-place-test.true c.if-byte-quote.true

pub returns-then-byte-eq10-clause-value : goal.returns-then-byte-eq10-clause-value
returns-then-byte-eq10-clause-value c =
    steps.breaks c.args.start _ c.loop-place.out.items c.loop-place.place c.args.bytes.now _ c.loop-place.invariant.reading c.loop-place-test.true c.if-byte-quote.false c.if-byte-eq10.true

pub returns-in_err-len-clause-value : goal.returns-in_err-len-clause-value
returns-in_err-len-clause-value c = let p = err_from_is_err_and c.from_residual.result c.from_residual.ensures.1 in
    rw (p.1, p.2) (steps.escape_fails c.args.start _ c.loop-place.out.items c.loop-place.place c.args.bytes.now _ c.loop-place.invariant.reading c.in_err-len.field-0.0
    c.loop-place-test.true c.if-byte-quote.false c.if-byte-eq92.true (rw c.rest_from-rest.ensures.rest at c.in_err-len.ensures.value))

pub loop-place-preserved-then-byte-eq92 : goal.loop-place-preserved-then-byte-eq92
loop-place-preserved-then-byte-eq92 c = record {
  reading = steps.escape_read c.args.start _ c.loop-place.out.items c.loop-place.place c.args.bytes.now _ c.loop-place.invariant.reading c.read_escape.new.out.items c.in_ok-len.len
      c.loop-place-test.true c.if-byte-quote.false c.if-byte-eq92.true (rw c.rest_from-rest.ensures.rest at c.in_ok-len.ensures.value);
  within = omega (arith, c.in_ok-len.ensures.there);
  behind = omega arith;
}

pub loop-place-preserved : goal.loop-place-preserved
loop-place-preserved c = record {
  reading = rw c.in_ok-push.ensures.items (steps.plain c.args.start _ c.loop-place.out.items c.loop-place.place c.args.bytes.now _ c.loop-place.invariant.reading
      c.loop-place-test.true c.if-byte-quote.false c.if-byte-eq10.false c.if-byte-eq92.false);
  within = omega arith;
  behind = omega arith;
}

pub returns-clause-value : goal.returns-clause-value
returns-clause-value c = steps.ends c.args.start _ c.loop-place.out.items c.loop-place.place c.args.bytes.now _ c.loop-place.invariant.reading c.loop-place-test.false
