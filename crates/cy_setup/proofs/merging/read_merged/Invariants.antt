use Rattle.cy_setup.proofs.JoinedRecords.{AreJoined, named}
use Rattle.cy_setup.proofs.merging.read_merged.Given as goal

abbrev pub invariant-loop-name : goal.invariant-loop-name
invariant-loop-name g l = AreJoined (named l.names) l.name-index l.merged (g.S.Store.shows l.fn.store) (g.S.Store.shows l.store)
