use Rattle.std.proofs.Common.{◌∙◌, ℕ, ap, arith}
use Rattle.std.specs.Prelude.{min}
use Rattle.cy_info.proofs.Telling.{least-more, least-end, no_message}
use Rattle.cy_info.proofs.facts.least_time.Goals as goal

pub loop-place-preserved : goal.loop-place-preserved
loop-place-preserved c =
    least-more c.args.whole.now.messages c.loop-place.place _ c.loop-place.time c.min-time.result no_message (omega (arith, c.loop-place-test.true, c.messages-count.ensures)) c.loop-place.invariant
    (c.min-time.ensures ∙ ap (λ (t : ℕ). min c.loop-place.time t) c.time_at.ensures)

pub returns : goal.returns
returns c =
    least-end c.args.whole.now.messages c.loop-place.place c.loop-place.time no_message (omega (arith, c.loop-place-test.false, c.messages-count.ensures)) (omega (arith, c.messages-count.ensures)) c.loop-place.invariant
