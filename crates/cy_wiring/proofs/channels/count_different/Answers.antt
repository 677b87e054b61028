use Rattle.cy_wiring.proofs.NameSteps.{kept_step, count_step, few_step}
use Rattle.cy_wiring.proofs.channels.count_different.Goals as goal

pub loop-mention-preserved : goal.loop-mention-preserved
loop-mention-preserved c = record {
  kept = λ q. kept_step c.args.mentions.now c.loop-mention.mention-index _ q _ _ c.loop-mention-test.true (c.loop-mention.invariant.kept q)
      (c.in_ok-insert.ensures.updates.0 (record { ref_ptr = (0, 0); now = q }));
  counted = count_step c.args.mentions.now c.loop-mention.mention-index _ c.loop-mention.count _ c.in_ok-insert.field-0 _ c.loop-mention-test.true c.loop-mention.invariant.counted
      (c.loop-mention.invariant.kept _) c.in_ok-insert.ensures.added c.more-count.ensures;
  few = few_step c.in_ok-insert.field-0 c.loop-mention.count _ c.loop-mention.mention-index c.loop-mention.invariant.few c.more-count.ensures;
}
