use Rattle.cy_commands.proofs.commands.make.is_text.Goals as goal

pub returns : goal.returns
returns c = c.utf8.prefix
