use Rattle.std.proofs.Common.{◌∙◌}
use Rattle.clap.specs.Words.{app_of}
use Rattle.cy_args.specs.private.OptionViews.{head_as}
use Rattle.cy_args.specs.private.Program.{with_head}
use Rattle.cy_args.proofs.ClapBuild.{more}
use Rattle.cy_args.proofs.program.with_forms.Goals as goal

pub loop-form-preserved : goal.loop-form-preserved
loop-form-preserved c =
    more with_head head_as c.args.forms.now c.loop-form.form-index _ (app_of c.loop-form.program) (app_of c.in_ok-program.program) c.loop-form-test.true
    (c.in_ok-program.ensures _ c.command_for.ensures) ∙ c.loop-form.invariant
