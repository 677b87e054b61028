use Rattle.std.proofs.Common.{inl, inr}
use Rattle.std.proofs.lemmas.Result.{err_from_is_err_and}
use Rattle.cy_reader.proofs.Fronts.{cut_wrong, cut_broken}
use Rattle.cy_reader.proofs.record.record_of_cut.Goals as goal

pub returns-in_err-bodies-clause-record : goal.returns-in_err-bodies-clause-record
returns-in_err-bodies-clause-record g c =
    let p = err_from_is_err_and c.from_residual.result c.from_residual.ensures.1 in
    rw (p.1, p.2) (elim c.in_err-bodies.ensures.met [
      | inl memory ↦ inl memory
      | inr wrong ↦ inr (cut_wrong c.args.name.now c.args.front c.args.cut _ wrong)
    ])

pub returns-in_err-index-clause-record : goal.returns-in_err-index-clause-record
returns-in_err-index-clause-record g c =
    let p = err_from_is_err_and c.from_residual-in_err-index.result c.from_residual-in_err-index.ensures.1 in
    rw (p.1, p.2) (inr (cut_broken c.args.name.now c.args.front c.args.cut _ _ c.in_err-index.was c.in_ok-bodies.ensures.met))
