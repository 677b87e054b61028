use Rattle.std.proofs.Common.{◌≡◌, ◌++◌, take}
use Rattle.std.specs.List.{flat_map}
use Rattle.cy_report.specs.CheckText.{name_in, spaced}
use Rattle.cy_report.proofs.lines.push_order.Given as goal

abbrev pub invariant-loop-number : goal.invariant-loop-number
invariant-loop-number l = l.to.items ≡ l.fn.to.items ++ flat_map (λ d. spaced (name_in l.components d)) (take l.number-index l.order)
