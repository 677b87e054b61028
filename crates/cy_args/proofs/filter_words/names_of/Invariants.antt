use Rattle.std.proofs.Common.{◌≡◌, map, take}
use Rattle.cy_args.proofs.filter_words.names_of.Given as goal

abbrev pub invariant-loop-part : goal.invariant-loop-part
invariant-loop-part l = l.names.items ≡ map (λ x. x.now) (take l.part-index l.part-items)
