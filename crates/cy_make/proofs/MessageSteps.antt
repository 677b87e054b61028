-- The messages that are still to be given.
use Rattle.std.proofs.Common.{◌≡◌, ℕ, ◌-◌, [], ap, arith}
use Rattle.cy_make.specs.private.Steps.{given_after}

pub none_left : (given last : ℕ) → given ≡ last → given_after given (last - given) ≡ []
none_left given last e = ap (given_after given) (let none : last - given ≡ 0 = omega (arith, e) in none)
