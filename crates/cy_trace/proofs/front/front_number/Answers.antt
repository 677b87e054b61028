use Rattle.std.proofs.Common.{◌∷◌, ◌+◌, ap, ◌∙◌, arith}
use Rattle.cy_trace.proofs.FrontLaws.{digit_first}
use Rattle.cy_trace.proofs.front.front_number.Goals as goal

pub returns-then-first-eq0 : goal.returns-then-first-eq0
returns-then-first-eq0 c =
    let rest = c.in_ok-first.rest.now in
    (c.in_ok-first.ensures.1 ∙ ap (λ n. (48 + n) ∷ rest) c.if-first-eq0.true ∙ digit_first 0 rest (omega arith), omega arith)
