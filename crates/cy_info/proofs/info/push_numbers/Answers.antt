use Rattle.cy_info.specs.Info.{number_differences}
use Rattle.cy_info.proofs.Telling.{three}
use Rattle.cy_info.proofs.info.push_numbers.Goals as goal

pub returns : goal.returns
unfolding number_differences
returns c =
    three c.push_difference-3.result c.args.to.now.items c.push_difference.new.to.items c.push_difference-2.new.to.items c.push_difference-3.new.to.items _ _ _
    c.in_ok-push_difference.ensures c.in_ok-push_difference-2.ensures c.push_difference-3.ensures
