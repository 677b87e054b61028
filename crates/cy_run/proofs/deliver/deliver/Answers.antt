use Rattle.cy_run.proofs.Filled.{all_filled, all_told}
use Rattle.cy_run.proofs.deliver.deliver.Goals as goal

pub tell_all-requires-clause-all : goal.tell_all-requires-clause-all
tell_all-requires-clause-all g c = all_filled c.args.table.now c.args.token c.args.pass.now c.fill_all.new.pass c.requires.owes c.fill_all.ensures.filled c.fill_all.ensures.none

pub returns-clause-thread : goal.returns-clause-thread
returns-clause-thread g c = all_told c.args.table.now c.args.token c.args.pass.now c.fill_all.new.pass c.tell_all.new.pass c.requires.owes c.fill_all.ensures.filled c.fill_all.ensures.none
    c.tell_all.ensures.told c.tell_all.ensures.none
