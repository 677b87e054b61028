use Rattle.cy_reader.proofs.Tied.{number-kept}
use Rattle.cy_reader.proofs.channels.keep_number.Goals as goal

pub returns-clause-kept : goal.returns-clause-kept
returns-clause-kept c = number-kept c.args.numbers.now c.insert.new.self c.args.name.now c.in_ok-name.name c.args.number c.in_ok-name.ensures.ok c.in_ok-insert.ensures.updates
