use Rattle.cy_commands.proofs.MakeExits.{line_of}
use Rattle.cy_commands.proofs.commands.make.file_failed.Goals as goal

pub returns-clause-line : goal.returns-clause-line
returns-clause-line c = λ suffix e. line_of c.args.make.now.prefix.now suffix c.args.told.now e
