use Rattle.cy_commands.proofs.OneDue.{ended, played}
use Rattle.cy_commands.proofs.alone.due_of.Goals as goal

pub returns-in-Ended : goal.returns-in-Ended
returns-in-Ended g c words command read is = ended command _ _ c.begin.result c.in-Ended.due c.in-Ended.is (c.begin.ensures.still words command read is)

pub returns-in-SetUp : goal.returns-in-SetUp
returns-in-SetUp g c words command read is =
    played command _ _ _ c.begin.result c.in-SetUp.play c.in-SetUp.replay _ _ c.in-SetUp.is (c.begin.ensures.still words command read is) c.due_played_alone.ensures
