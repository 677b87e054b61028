use Rattle.std.proofs.Common.{sym, subst, take, drop}
use Rattle.cy_comp.specs.private.Rows.{Keep}
use Rattle.cy_comp.proofs.Rowing.{keep-take, keep-drop}
use Rattle.cy_comp.proofs.calls.Calls.split_at.Goals as goal

pub invariant_of-result : goal.invariant_of-result
invariant_of-result c =
    let seqs = c.self.inside.seqs.now in
    let rows = c.self.inside.rows.now in
    subst (λ l. Keep seqs l c.part.result.list) (sym c.split_at.ensures.front)
    (subst (λ l. Keep seqs (take c.args.count rows) l) (sym c.part.ensures) (keep-take seqs rows c.self.inside.made.list c.args.count c.self.invariant))

pub invariant_of-result-2 : goal.invariant_of-result-2
invariant_of-result-2 c =
    let seqs = c.self.inside.seqs.now in
    let rows = c.self.inside.rows.now in
    subst (λ l. Keep seqs l c.part-2.result.list) (sym c.split_at.ensures.back)
    (subst (λ l. Keep seqs (drop c.args.count rows) l) (sym c.part-2.ensures) (keep-drop seqs rows c.self.inside.made.list c.args.count c.self.invariant))
