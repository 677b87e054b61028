use Rattle.std.proofs.Common.{◌+ℤ◌, ◌-ℤ◌, FitsSigned, arith}
use Rattle.std.proofs.lemmas.Int.{ints, to_z-of_z}
use Rattle.std.specs.Int.{w64, w128}
use Rattle.cy_comp.proofs.window.moved.Goals as goal

pub returns : goal.returns
returns c =
    let left : FitsSigned w128 c.args.left = omega (arith, ints) in
    let value : FitsSigned w128 c.args.value = omega (arith, ints) in
    let rest : FitsSigned w128 (c.args.sum -ℤ c.args.left) = omega (arith, ints) in
    let all : FitsSigned w128 (c.args.sum -ℤ c.args.left +ℤ c.args.value) = omega (arith, ints) in
    let sum : FitsSigned w128 c.args.sum = c.ranges.sum in
    let l : FitsSigned w64 c.args.left = c.ranges.left in
    let v : FitsSigned w64 c.args.value = c.ranges.value in
    rw (c.from.ensures, c.from-2.ensures) (simp to_z-of_z)
