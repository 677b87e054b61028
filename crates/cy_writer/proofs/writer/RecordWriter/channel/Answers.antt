use Rattle.std.proofs.Common.{◌∙◌}
use Rattle.std.proofs.lemmas.Result.{err_from_is_err_and, IfOk-from_err}
use Rattle.std.proofs.Common.{Option, IsSomeAnd, subst}
use Rattle.cy_writer.specs.declared.writing.Writing.{Writing}
use Rattle.cy_writer.specs.Stands.{StandsFor}
use Rattle.cy_writer.proofs.Unput.{puts_without_memory, goes_on_without_memory, refuses_channel, stays_broken}
use Rattle.cy_writer.proofs.writer.RecordWriter.channel.Goals as goal

pub returns-in_default-clause-puts : goal.returns-in_default-clause-puts
returns-in_default-clause-puts g c = refuses_channel _ _ _

pub returns-in_default-clause-goes_on : goal.returns-in_default-clause-goes_on
returns-in_default-clause-goes_on g c = stays_broken c.args.self.now _ c.in_default.is c.requires

pub returns-in_err-channel-clause-puts : goal.returns-in_err-channel-clause-puts
returns-in_err-channel-clause-puts g c =
    let p = err_from_is_err_and c.from_residual.result c.from_residual.ensures.1 in
    puts_without_memory _ _ _ _ c.from_residual.result _ p.1 (p.2 ∙ c.in_err-channel.ensures.only_memory)
    (λ given held. subst (λ (w : Option Writing). IsSomeAnd w (λ o. StandsFor o given)) c.in-Some.is held)

pub returns-in_err-channel-clause-goes_on : goal.returns-in_err-channel-clause-goes_on
returns-in_err-channel-clause-goes_on g c =
    let p = err_from_is_err_and c.from_residual.result c.from_residual.ensures.1 in
    goes_on_without_memory c.args.self.now c.in-Some.writing _ c.from_residual.result _ p.1 (p.2 ∙ c.in_err-channel.ensures.only_memory) c.in-Some.is c.requires

pub returns-in_err-channel-clause-one_more : goal.returns-in_err-channel-clause-one_more
returns-in_err-channel-clause-one_more g c = IfOk-from_err c.from_residual.result _ c.from_residual.ensures.0
