use Rattle.cy_fuse.proofs.Fetched.{fetches_find, fetches_overflow}
use Rattle.cy_fuse.proofs.laws.fetches_find.Goals as goal

pub returns-clause-find : goal.returns-clause-find
returns-clause-find c = fetches_find

pub returns-clause-overflow : goal.returns-clause-overflow
returns-clause-overflow c = fetches_overflow
