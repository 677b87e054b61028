use Rattle.cy_reader.proofs.Keeping.{loaded}
use Rattle.cy_reader.proofs.record.load_whole.Goals as goal

pub returns : goal.returns
returns g c = loaded (g.S.Store.shows c.args.store.now) _ c.args.name.now c.in_ok-file.file c.record_in.result c.in_ok-file.ensures c.record_in.ensures.record_of c.record_in.ensures.not_store
