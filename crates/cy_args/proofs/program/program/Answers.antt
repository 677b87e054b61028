use Rattle.std.proofs.Common.{◌≡◌, ◌∙◌, true, ap, fold}
use Rattle.std.proofs.lemmas.Result.{IfOk-weaker}
use Rattle.clap.specs.Words.{App, Shape, app_of}
use Rattle.clap.specs.Simple.{app_of_fields, on_top}
use Rattle.cy_args.specs.private.Program.{heads, program, with_head}
use Rattle.cy_args.proofs.program.program.Goals as goal

pub returns : goal.returns
returns c =
    let named = ap app_of_fields c.no_binary_name.ensures ∙ ap (on_top (λ (s : Shape). record s { no_binary_name = true })) c.new.ensures.app in
    let quiet = ap app_of_fields c.disable_help_flag.ensures ∙ ap (on_top (λ (s : Shape). record s { disable_help_flag = true })) named in
    let bare = ap app_of_fields c.disable_help_subcommand-bare.ensures ∙ ap (on_top (λ (s : Shape). record s { disable_help_subcommand = true })) quiet in
    IfOk-weaker c.with_forms.result _ (λ command. app_of command ≡ program) (λ command is. is ∙ ap (λ (a : App). fold with_head a heads) bare) c.with_forms.ensures
