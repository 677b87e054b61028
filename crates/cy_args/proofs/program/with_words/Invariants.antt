use Rattle.std.proofs.Common.{◌≡◌, drop, fold}
use Rattle.clap.specs.Words.{app_of}
use Rattle.clap.specs.declared.builder.command.Command.TheViews.{out-Command}
use Rattle.cy_args.specs.private.OptionViews.{table_of}
use Rattle.cy_args.specs.private.Program.{with_known}
use Rattle.cy_args.proofs.program.with_words.Given as goal

abbrev pub invariant-loop-one : goal.invariant-loop-one
invariant-loop-one l = record {
  app : fold with_known (app_of l.command) (table_of (drop l.one-index l.known))
      ≡ fold with_known (app_of l.fn.command) (table_of l.known);
  local : (out-Command l.command).has_globals ≡ (out-Command l.fn.command).has_globals;
}
