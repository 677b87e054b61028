use Rattle.std.proofs.Common.{◌∙◌}
use Rattle.std.proofs.lemmas.Result.{err_from_is_err_and}
use Rattle.cy_writer.proofs.Beginning.{starts_nothing, starts_failed, starts_begun}
use Rattle.cy_writer.proofs.writer.RecordWriter.start.Goals as goal

pub returns-in_err-writing : goal.returns-in_err-writing
returns-in_err-writing g c =
    let p = err_from_is_err_and c.from_residual.result c.from_residual.ensures.1 in
    starts_nothing c.args.name.now _ c.from_residual.result _ p.1 (p.2 ∙ c.in_err-writing.ensures.only_memory)

pub returns-in_err-begin : goal.returns-in_err-begin
returns-in_err-begin g c =
    let p = err_from_is_err_and c.from_residual-in_err-begin.result c.from_residual-in_err-begin.ensures.1 in
    starts_failed c.args.name.now c.in_ok-writing.writing.name _ _ c.from_residual-in_err-begin.result _ c.in_err-begin.field-0.0 p.1 p.2 c.in_ok-writing.ensures.given.name c.in_err-begin.ensures

pub returns : goal.returns
returns g c = starts_begun c.args.name.now c.in_ok-writing.writing _ _ _ c.in_ok-writing.ensures.given c.in_ok-begin.ensures
