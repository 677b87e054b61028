use Rattle.std.proofs.Common.{◌+◌}
use Rattle.cy_store.proofs.Pieces.{held_by}
use Rattle.cy_cut.proofs.Windows.{front_stands}
use Rattle.cy_cut.proofs.cutting.large_section.Goals as goal

pub read_behind-requires-clause-front : goal.read_behind-requires-clause-front
read_behind-requires-clause-front g c =
    held_by (g.S.Store.shows c.args.store.now).files c.args.name.now
    (λ file here. front_stands file c.args.window.now (c.args.at + 16) c.args.head.size c.front-front.result.now here.1 c.front-front.ensures) c.requires.there
