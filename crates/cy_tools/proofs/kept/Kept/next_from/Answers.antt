use Rattle.std.proofs.Common.{◌∙◌}
use Rattle.cy_tools.proofs.Searching.{found_from, none_from}
use Rattle.cy_tools.proofs.kept.Kept.next_from.Goals as goal

pub returns-in-Some : goal.returns-in-Some
returns-in-Some c = found_from c.args.self.now c.args.place c.loop-next.next c.in-Some.found c.loop-next.invariant c.in-Some.ensures.1

pub loop-next-preserved : goal.loop-next-preserved
loop-next-preserved c = c.loop-next.invariant ∙ c.in_default.ensures

pub returns : goal.returns
returns c =
    none_from c.args.self.now c.args.place c.loop-next.next c.messages-next-end.result c.messages-next-end.ensures c.loop-next-test.false c.loop-next.invariant
