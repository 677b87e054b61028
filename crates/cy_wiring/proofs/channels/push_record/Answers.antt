use Rattle.std.proofs.lemmas.List.{take_all}
use Rattle.std.proofs.Common.{map, List, ℕ, ◌++◌, ap, ◌∙◌}
use Rattle.cy_config.proofs.Loops.{shown_one}
use Rattle.cy_wiring.proofs.channels.push_record.Goals as goal

pub loop-channel-preserved : goal.loop-channel-preserved
loop-channel-preserved c =
    shown_one c.args.channels.now c.loop-channel.channel-index c.channel-item.result (map (λ m. m.now) c.args.mentions.now.items) c.loop-channel.mentions.items
    c.push.new.self.items _ c.loop-channel-test.true c.channel-item.is c.loop-channel.invariant c.as_str.ensures.value c.in_ok-push.ensures.items

pub returns : goal.returns
returns c =
    c.loop-channel.invariant ∙ ap (λ (cs : List (List ℕ)). map (λ m. m.now) c.args.mentions.now.items ++ cs) (take_all c.loop-channel.channel-index c.args.channels.now c.loop-channel-test.false)
