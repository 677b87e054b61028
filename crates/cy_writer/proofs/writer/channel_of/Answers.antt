use Rattle.std.proofs.lemmas.Result.{IfOk-from_err}
use Rattle.cy_writer.proofs.writer.channel_of.Goals as goal

pub returns-in_err-map_err-clause-channel : goal.returns-in_err-map_err-clause-channel
returns-in_err-map_err-clause-channel c = IfOk-from_err c.from_residual.result _ c.from_residual.ensures.0

pub returns-in_err-map_err-2-clause-channel : goal.returns-in_err-map_err-2-clause-channel
returns-in_err-map_err-2-clause-channel c = IfOk-from_err c.from_residual-in_err-map_err-2.result _ c.from_residual-in_err-map_err-2.ensures.0

pub returns-in_err-map_err-3-clause-channel : goal.returns-in_err-map_err-3-clause-channel
returns-in_err-map_err-3-clause-channel c = IfOk-from_err c.from_residual-in_err-map_err-3.result _ c.from_residual-in_err-map_err-3.ensures.0
