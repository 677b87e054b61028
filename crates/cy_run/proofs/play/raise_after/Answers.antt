use Rattle.std.proofs.Common.{rules}
use Rattle.cy_run.proofs.Played.{raise_now, raised_already}
use Rattle.cy_run.proofs.play.raise_after.Goals as goal

pub raise-requires : goal.raise-requires
raise-requires c = raise_now c.args.table.now c.args.player.now c.args.stop c.in-Some.stop c.args.played c.requires.mine c.requires.given c.in-Some.is c.requires.all c.requires.before (search rules)

pub returns-else-stop-played-clause-raised : goal.returns-else-stop-played-clause-raised
returns-else-stop-played-clause-raised c = raised_already c.args.table.now c.args.player.now c.args.stop c.in-Some.stop c.args.played c.requires.mine c.requires.given c.in-Some.is c.requires.before (search rules)
