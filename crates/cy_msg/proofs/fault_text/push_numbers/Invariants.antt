use Rattle.std.proofs.Common.{◌≡◌, ◌++◌, take, codes}
use Rattle.std.specs.Fmt.{decimal}
use Rattle.std.specs.List.{flat_map}
use Rattle.cy_msg.proofs.fault_text.push_numbers.Given as goal

abbrev pub invariant-loop-number : goal.invariant-loop-number
invariant-loop-number l = l.to.items ≡ l.fn.to.items ++ l.what ++ flat_map (λ n. codes " " ++ decimal n) (take l.number-index l.numbers)
