use Rattle.std.proofs.Common.{◌<◌, ◌+◌, ◌∙◌, ℕ, ap, subst, sym, get_or, length, length-set, set, arith}
use Rattle.cy_info.proofs.Telling.{count-few, count-more, counts-end, no_message}
use Rattle.cy_info.proofs.facts.channel_counts.Goals as goal

pub count_one-requires-clause-few : goal.count_one-requires-clause-few
count_one-requires-clause-few c =
    let whole = c.args.whole.now in
    let counts = c.loop-place.counts.items in
    let below = subst (λ (n : ℕ). n < length whole.channels) c.channel_at.ensures.channel c.channel_at.ensures.below in
    subst (λ (n : ℕ). get_or counts n 0 < 4294967296) (sym c.channel_at.ensures.channel)
    (count-few whole.messages c.loop-place.place (length whole.channels) no_message counts (omega (arith, c.loop-place-test.true, c.messages-place-end.ensures)) below (omega (arith, c.messages-place-end.ensures)) c.loop-place.invariant.each)

pub loop-place-preserved : goal.loop-place-preserved
loop-place-preserved c =
    let whole = c.args.whole.now in
    let counts = c.loop-place.counts.items in
    let below = subst (λ (n : ℕ). n < length whole.channels) c.channel_at.ensures.channel c.channel_at.ensures.below in
    let pushed = c.count_one.ensures ∙ ap (λ (n : ℕ). set counts n (get_or counts n 0 + 1)) c.channel_at.ensures.channel in
    record {
      all = ap length c.count_one.ensures ∙ length-set counts _ _ ∙ c.loop-place.invariant.all;
      each = count-more whole.messages c.loop-place.place (length whole.channels) no_message counts _ (omega (arith, c.loop-place-test.true, c.messages-place-end.ensures)) below c.loop-place.invariant.all c.loop-place.invariant.each pushed;
    }

pub returns-clause-counts : goal.returns-clause-counts
returns-clause-counts c =
    let whole = c.args.whole.now in
    record {
      all = c.loop-place.invariant.all;
      each = counts-end whole.messages c.loop-place.place (length whole.channels) c.loop-place.counts.items (omega (arith, c.loop-place-test.false, c.messages-place-end.ensures)) c.loop-place.invariant.each;
    }
