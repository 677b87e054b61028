use Rattle.std.proofs.Common.{List, ◌++◌, map, ap, ◌∙◌}
use Rattle.cy_value.specs.declared.values.ChannelValue.{ChannelValue}
use Rattle.cy_wiring.specs.private.Pairs.{pair_of}
use Rattle.cy_wiring.proofs.GivenSteps.{given_more}
use Rattle.cy_wiring.proofs.given.given_by.Goals as goal

pub loop-place-preserved : goal.loop-place-preserved
loop-place-preserved c =
    let place = c.loop-place.place in
    let before = map pair_of c.loop-place.given.items in
    let values = ap (λ (vs : List ChannelValue). before ++ map (λ (v : ChannelValue). (place, v)) vs) c.as_slice.ensures in
    given_more c.args.configs.now place c.index-configs-place.result before _ c.loop-place-test.true c.index-configs-place.is c.loop-place.invariant (c.in_ok-push_values.ensures ∙ values)
