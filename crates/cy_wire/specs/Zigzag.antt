-- The signed number that an unsigned one stands for.
use Rattle.std.specs.Prelude.{ℕ, ℤ, pos, negsuc, ◌/◌, ◌%◌, ◌==◌, if◌then◌else◌}

-- 0 for 0, -1 for 1, 1 for 2, -2 for 3 and so on.
abbrev pub unzigzag : ℕ → ℤ
unzigzag n = if n % 2 == 0 then pos (n / 2) else negsuc (n / 2)
