use Rattle.std.proofs.Common.{◌≡◌, drop, fold, map}
use Rattle.clap.specs.Words.{app_of}
use Rattle.cy_args.specs.private.OptionViews.{head_as}
use Rattle.cy_args.specs.private.Program.{with_head}
use Rattle.cy_args.proofs.program.with_forms.Given as goal

abbrev pub invariant-loop-form : goal.invariant-loop-form
invariant-loop-form l = fold with_head (app_of l.program) (map head_as (drop l.form-index l.forms)) ≡ fold with_head (app_of l.fn.program) (map head_as l.forms)
