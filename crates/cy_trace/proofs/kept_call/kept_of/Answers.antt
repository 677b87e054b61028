use Rattle.std.proofs.Common.{rules, length, List, ℕ, ◌++◌, ◌∷◌, [], w64, ap, arith, refl, ◌∙◌}
use Rattle.std.proofs.lemmas.Int.{to_z-of_z}
use Rattle.cy_trace.specs.private.KeptCalls.{output_by}
use Rattle.cy_trace.proofs.KeptApart.{last_is}
use Rattle.cy_trace.proofs.kept_call.kept_of.Goals as goal

pub returns-clause-kept : goal.returns-clause-kept
returns-clause-kept c =
    let p = c.parts_of-put.result in
    let its = c.as_slice-seqs.ensures.value in
    last_is c.args.numbers.now.items c.are_put.new.numbers.items p.1 _ c.args.call.now
    (c.if-not-are_put.ensures.put refl ∙ ap (λ (ns : List ℕ). c.args.numbers.now.items ++ ns ++ p.1 ∷ []) its)
    (omega (arith, c.len-first.ensures)) (ap length its) refl refl
    (ap (output_by p.0 p.1 p.2) (to_z-of_z w64 p.3 (search rules)) ∙ c.parts_of-put.ensures)
