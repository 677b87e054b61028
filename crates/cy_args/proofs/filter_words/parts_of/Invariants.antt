use Rattle.std.proofs.Common.{map}
use Rattle.cy_args.proofs.Commas.{PartsSoFar}
use Rattle.cy_args.proofs.filter_words.parts_of.Given as goal

abbrev pub invariant-loop-place : goal.invariant-loop-place
invariant-loop-place l = PartsSoFar l.list (map (λ part. part.now) l.parts.items) l.start l.place
