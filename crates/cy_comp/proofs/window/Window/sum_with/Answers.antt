use Rattle.std.proofs.Common.{FitsSigned, arith}
use Rattle.std.proofs.lemmas.Int.{ints, to_z-of_z}
use Rattle.std.specs.Int.{w64, w128}
use Rattle.cy_comp.proofs.Slides.{near_of, slid, moved_to}
use Rattle.cy_comp.proofs.window.Window.sum_with.Goals as goal

pub moved-self-requires : goal.moved-self-requires
moved-self-requires c =
    let near = near_of c.args.self.now.n c.args.self.now.values.items _ c.args.self.now.small c.args.self.now.few c.args.self.now.in_range c.args.self.now.summed in
    let fits : FitsSigned w128 c.args.self.now.sum = omega (arith, ints, near.low, near.high) in
    rw to_z-of_z near

pub invariant_of-self : goal.invariant_of-self
invariant_of-self c =
    let near = near_of c.args.self.now.n c.args.self.now.values.items _ c.args.self.now.small c.args.self.now.few c.args.self.now.in_range c.args.self.now.summed in
    let fits : FitsSigned w128 c.args.self.now.sum = omega (arith, ints, near.low, near.high) in
    let next = moved_to c.args.self.now.sum c.unwrap_or-left.result c.args.value c.moved-self.result fits (record { sfits = c.unwrap_or-left.type_inv }) c.ranges.value
    (record { sfits = c.moved-self.type_inv }) c.moved-self.ensures in
    let slid = slid _ _ _ _ c.args.value _ c.unwrap_or-left.result _ _ _ c.args.self.now.sized c.args.self.now.few c.args.self.now.summed c.args.self.now.small c.ranges.value
    (to_z-of_z w64 c.args.value c.ranges.value) c.push_back.ensures.items c.push_back.ensures.value c.unwrap_or-left.ensures next in
    record { in_range = c.args.self.now.in_range; sized = cc; few = slid.few; summed = slid.summed; small = slid.small }
