use Rattle.std.proofs.Common.{sym, subst, List}
use Rattle.cy_comp.specs.declared.call.Call.{Call}
use Rattle.cy_comp.specs.private.Rows.{Keep}
use Rattle.cy_comp.proofs.Rowing.{first-kept}
use Rattle.cy_comp.proofs.calls.CallsIterator.next.Goals as goal

pub summary-requires : goal.summary-requires
summary-requires c = (first-kept c.in_ok-first.first.now c.in_ok-first.others.now c.in_ok-first.ensures.cases.0 c.self.invariant).here

pub invariant_of-self : goal.invariant_of-self
invariant_of-self c =
    let first = first-kept c.in_ok-first.first.now c.in_ok-first.others.now c.in_ok-first.ensures.cases.0 c.self.invariant in
    subst (λ (l : List Call). Keep c.self.inside.seqs.now c.in_ok-first.others.now l) (sym c.part-self-inside.ensures) first.rest
