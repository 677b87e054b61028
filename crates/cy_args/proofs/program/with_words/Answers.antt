use Rattle.std.proofs.Common.{◌∙◌, ◌||◌, Bool, ap}
use Rattle.clap.specs.Simple.{with_rule}
use Rattle.clap.specs.Walk.{Rule}
use Rattle.clap.specs.Words.{app_of}
use Rattle.clap.specs.declared.builder.command.Command.TheViews.{out-Command}
use Rattle.cy_args.specs.private.OptionViews.{known_as}
use Rattle.cy_args.specs.private.Program.{with_known}
use Rattle.cy_args.proofs.ClapBuild.{more, or_false}
use Rattle.cy_args.proofs.program.with_words.Goals as goal

pub loop-one-preserved : goal.loop-one-preserved
loop-one-preserved c = record {
  app = more with_known known_as c.args.known.now c.loop-one.one-index _ (app_of c.loop-one.command) (app_of c.in_ok-command.command) c.loop-one-test.true
      (c.in_ok-command.ensures.shape c.argument.ensures.local ∙ ap (λ (r : Rule). with_rule (app_of c.loop-one.command) r) c.argument.ensures.rule) ∙ c.loop-one.invariant.app;
  local = c.in_ok-command.ensures.globals
      ∙ (ap (λ (b : Bool). (out-Command c.loop-one.command).has_globals || b) c.argument.ensures.local ∙ (or_false (out-Command c.loop-one.command).has_globals ∙ c.loop-one.invariant.local));
}
