use Rattle.cy_salvage.proofs.Salvaging.{salvaged_so}
use Rattle.cy_salvage.proofs.salvage.salvage_record.Goals as goal

pub returns : goal.returns
returns g c =
    salvaged_so (g.S.Store.shows c.args.store.now) (g.S.Store.shows c.usable_size.new.store) (g.S.Store.shows c.cut_file.new.store) c.args.name.now c.in_ok-size.size c.in_ok-cut.cut c.salvaged_of.result
    c.in_ok-size.ensures c.in_ok-cut.ensures c.salvaged_of.ensures.salvaged c.salvaged_of.ensures.not_store
