use Rattle.std.proofs.Common.{◌≡◌, ℕ, take}
use Rattle.cy_info.specs.Info.{is_head}
use Rattle.cy_info.specs.private.Facts.{has_head}
use Rattle.cy_info.proofs.facts.head_places.Given as goal

abbrev pub invariant-loop-head : goal.invariant-loop-head
invariant-loop-head l = (position number : ℕ) → has_head l.places position number ≡ is_head (take l.head-index l.heads) position number
