use Rattle.std.proofs.Common.{◌≡◌, ◌∙◌, IfOk, ap, subst}
use Rattle.std.proofs.lemmas.Result.{IfOk-weaker}
use Rattle.clap.specs.Words.{App, Shape, app_of, with_subcommand}
use Rattle.cy_args.specs.private.Program.{IsCommand}
use Rattle.cy_args.proofs.program.with_command.Goals as goal

abbrev top_of : App → Shape
top_of a = a.top

pub returns-in-Ok : goal.returns-in-Ok
returns-in-Ok c app known =
    let is = subst (λ r. IfOk r (IsCommand app)) c.in-Ok.is known in
    IfOk-weaker c.subcommand.result _ (λ command. app_of command ≡ with_subcommand (app_of c.args.program) app.top)
    (λ command adds. adds.shape is.1 ∙ ap (λ (a : App). with_subcommand (app_of c.args.program) (top_of a)) is.0) c.subcommand.ensures
