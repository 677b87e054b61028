use Rattle.std.proofs.Common.{arith}
use Rattle.std.proofs.lemmas.Grind.{common_steps}
use Rattle.cy_reader.proofs.Sums.{places}
use Rattle.cy_reader.proofs.channels.mention.Goals as goal

pub returns-clause-kept : goal.returns-clause-kept
returns-clause-kept c = record {
  grows = c.in_ok-add.ensures.kept;
  number = grind (arith, common_steps, places);
  below = grind (arith, common_steps, places);
}
