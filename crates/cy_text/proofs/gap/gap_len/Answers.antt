use Rattle.std.proofs.Common.{◌∙◌, sym, arith}
use Rattle.cy_text.proofs.TokenSteps.{after_blank, after_comment}
use Rattle.cy_text.proofs.gap.gap_len.Goals as goal

pub loop-place-preserved-then-is_blank : goal.loop-place-preserved-then-is_blank
loop-place-preserved-then-is_blank c = record {
  same = λ at. after_blank at c.loop-place.place c.args.bytes.now c.loop-place-test.true (sym c.is_blank.ensures ∙ c.if-is_blank.true) ∙ c.loop-place.invariant.same at;
  within = omega arith;
}

pub loop-place-preserved : goal.loop-place-preserved
loop-place-preserved c =
    let bytes = c.args.bytes.now in
    let place = c.loop-place.place in
    record {
      same = λ at. after_comment at place c.line_len.result bytes c.loop-place-test.true c.if-byte-eq35.true
          (rw c.rest_from.ensures.rest at c.line_len.ensures.count) (rw c.rest_from.ensures.rest at c.line_len.ensures.within) ∙ c.loop-place.invariant.same at;
      within = omega arith;
    }
