use Rattle.std.proofs.Common.{rules, refl}
use Rattle.std.proofs.lemmas.Result.{IfOk-from_err}
use Rattle.cy_writer.proofs.Standing.{stands_new}
use Rattle.cy_writer.proofs.writing.Writing.new.Goals as goal

pub returns-clause-given : goal.returns-clause-given
returns-clause-given c = stands_new _ c.args.name.now (search rules) refl c.new-2.ensures.items c.new-3.ensures.items c.new-4.ensures refl

pub returns-in_err-map_err-clause-given : goal.returns-in_err-map_err-clause-given
returns-in_err-map_err-clause-given c = IfOk-from_err c.from_residual.result _ c.from_residual.ensures.0
