use Rattle.cy_commands.proofs.play.read_files.Goals as goal

pub returns-clause-comes : goal.returns-clause-comes
returns-clause-comes g c = rw c.in_ok-filter.ensures at c.set_up-replay.ensures.comes
