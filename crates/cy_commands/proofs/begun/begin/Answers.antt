use Rattle.std.proofs.Common.{rules}
use Rattle.cy_args.specs.Command.{Asks, AsksStill}
use Rattle.cy_args.specs.Views.{command_asked}
use Rattle.cy_commands.proofs.OneDue.{read_begun}
use Rattle.cy_commands.proofs.begun.begin.Goals as goal

pub returns-in-Ok-clause-begun : goal.returns-in-Ok-clause-begun
returns-in-Ok-clause-begun g c words command read is =
    read_begun (Asks words) c.args.read.now c.in-Ok-Some.words words (command_asked c.in-Ok.command) command (g.S.Store.shows c.args.store.now) (g.S.Store.shows c.begin_command.new.store) c.begin_command.result
    (λ k asked. asked) (search rules) read c.in-Ok.ensures.asked is c.begin_command.ensures.begun

pub returns-in-Ok-clause-still : goal.returns-in-Ok-clause-still
returns-in-Ok-clause-still g c words command read is =
    read_begun (AsksStill words) c.args.read.now c.in-Ok-Some.words words (command_asked c.in-Ok.command) command (g.S.Store.shows c.args.store.now) (g.S.Store.shows c.begin_command.new.store) c.begin_command.result
    (λ k asked. asked.0) (search rules) read c.in-Ok.ensures.asked is c.begin_command.ensures.begun
