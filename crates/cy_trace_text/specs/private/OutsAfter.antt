-- How many outputs calls have, beside so many earlier ones.
use Rattle.std.specs.Prelude.{ℕ, ◌+◌, if◌then◌else◌, is_some, List, [], ◌∷◌}
use Rattle.cy_comp.specs.declared.call.Call.{Call}

abbrev pub outs_after : (before : ℕ) → List Call → ℕ
outs_after before [] = before
outs_after before (x ∷ rest) = outs_after (before + (if is_some x.out then 1 else 0)) rest
