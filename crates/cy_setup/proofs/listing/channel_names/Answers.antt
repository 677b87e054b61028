use Rattle.std.proofs.Common.{rules, ◌∙◌}
use Rattle.cy_setup.proofs.Setting.{name_more}
use Rattle.cy_setup.proofs.listing.channel_names.Goals as goal

pub loop-number-preserved : goal.loop-number-preserved
loop-number-preserved c =
    c.in_ok-push.ensures.items ∙ name_more c.args.recorded.now c.loop-number.number c.channel.result.now c.in_ok-new.field-0 c.loop-number.names.items (search rules) c.channel.ensures (c.in_ok-new.ensures.copy ∙ c.as_str.ensures.value) c.loop-number.invariant
