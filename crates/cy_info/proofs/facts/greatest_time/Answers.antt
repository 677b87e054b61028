use Rattle.std.proofs.Common.{◌∙◌, ℕ, ap, arith}
use Rattle.std.specs.Prelude.{max}
use Rattle.cy_info.proofs.Telling.{greatest-more, greatest-end, no_message}
use Rattle.cy_info.proofs.facts.greatest_time.Goals as goal

pub loop-place-preserved : goal.loop-place-preserved
loop-place-preserved c =
    greatest-more c.args.whole.now.messages c.loop-place.place c.loop-place.time c.max-time.result no_message (omega (arith, c.loop-place-test.true, c.messages-place-end.ensures)) c.loop-place.invariant
    (c.max-time.ensures ∙ ap (λ (t : ℕ). max c.loop-place.time t) c.time_at.ensures)

pub returns : goal.returns
returns c =
    greatest-end c.args.whole.now.messages c.loop-place.place c.loop-place.time (omega (arith, c.loop-place-test.false, c.messages-place-end.ensures)) c.loop-place.invariant
