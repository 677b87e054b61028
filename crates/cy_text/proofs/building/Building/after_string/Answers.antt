use Rattle.std.proofs.lemmas.Result.{err_from_is_err_and}
use Rattle.cy_text.specs.Fault.{fault_in}
use Rattle.cy_text.specs.Views.{view_building, view_reading}
use Rattle.cy_text.proofs.StringEnds.{no_fault, string_ends}
use Rattle.cy_text.proofs.building.Building.after_string.Goals as goal

pub returns-in_err-placed-in_default : goal.returns-in_err-placed-in_default
returns-in_err-placed-in_default c =
    let p = err_from_is_err_and c.from_residual-in_err-placed-in_default.result c.from_residual-in_err-placed-in_default.ensures.1 in
    rw (p.1, p.2) (no_fault (fault_in c.in_err-placed-in_default.field-0.0) _ _ c.in_err-placed-in_default.ensures)

pub returns-in_ok-placed-in_default : goal.returns-in_ok-placed-in_default
returns-in_ok-placed-in_default c =
    string_ends (view_building c.args.self) c.args.slot c.args.bytes c.args.end c.args.lexeme.token c.args.lexeme.span (view_reading c.in_ok-placed-in_default.field-0) c.after_value.result
    c.in_default.not-Quote c.in_ok-placed-in_default.ensures c.after_value.ensures
