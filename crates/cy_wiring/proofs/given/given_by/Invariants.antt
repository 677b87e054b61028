use Rattle.std.proofs.Common.{◌≡◌, map, take}
use Rattle.cy_wiring.specs.Given.{given_by}
use Rattle.cy_wiring.specs.private.Pairs.{pair_of}
use Rattle.cy_wiring.proofs.given.given_by.Given as goal

abbrev pub invariant-loop-place : goal.invariant-loop-place
invariant-loop-place l = map pair_of l.given.items ≡ given_by (take l.place l.configs)
