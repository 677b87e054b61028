use Rattle.cy_reader.proofs.FrontRead.{loaded_so}
use Rattle.cy_reader.proofs.record.load.Goals as goal

pub returns : goal.returns
returns g c =
    loaded_so (g.S.Store.shows c.args.store.now) (g.S.Store.shows c.front_of.new.store) (g.S.Store.shows c.cut_file.new.store) c.args.name.now c.in_ok-front.front c.in_ok-cut.cut c.record_of_cut.result
    c.in_ok-front.ensures c.in_ok-cut.ensures c.record_of_cut.ensures.record c.record_of_cut.ensures.not_store
