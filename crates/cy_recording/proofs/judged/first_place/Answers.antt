use Rattle.std.proofs.Common.{sym, ◌∙◌, arith}
use Rattle.cy_recording.proofs.Seen.{first_found, first_longer, first_none}
use Rattle.cy_recording.proofs.judged.first_place.Goals as goal

pub returns-in-Some : goal.returns-in-Some
returns-in-Some c = λ file text size end e. first_found file text c.in-Some.place (sym e ∙ sym c.or.ensures ∙ c.in-Some.is)

pub returns-then-size-end : goal.returns-then-size-end
returns-then-size-end c = λ file text size end e.
    first_longer file text c.args.end (sym e ∙ sym c.or.ensures ∙ c.in-None.is) end (omega (arith, size, c.if-size-end.true))

pub returns-else-size-end : goal.returns-else-size-end
returns-else-size-end c = λ file text size end e.
    first_none file text (sym e ∙ sym c.or.ensures ∙ c.in-None.is) (omega (arith, size, end, c.if-size-end.false))
