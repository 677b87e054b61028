use Rattle.std.proofs.Common.{◌∙◌, List, ap, arith, length, filter, is_some}
use Rattle.std.proofs.lemmas.List.Sums.{length-filter, count_by-le-length}
use Rattle.cy_comp.specs.declared.call.Call.{Call}
use Rattle.cy_comp.proofs.Rowing.{outputs-same}
use Rattle.cy_comp.proofs.calls.Calls.outputs.Goals as goal

pub returns : goal.returns
returns c =
    let made = c.self.inside.made.list in
    let counted = c.outputs_in.ensures ∙ outputs-same c.self.inside.seqs.now c.self.inside.rows.now made c.self.invariant.same in
    let few = count_by-le-length (λ (x : Call). is_some x.out) made in
    record {
      count = counted ∙ ap (λ (l : List Call). length (filter (λ (x : Call). is_some x.out) l)) c.self.view_is;
      few = omega (arith, counted, length-filter (λ (x : Call). is_some x.out) made, few, ap length c.self.view_is);
    }
