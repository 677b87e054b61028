use Rattle.std.proofs.Common.{rules, lit<}
use Rattle.cy_store.proofs.Pieces.{piece_answer}
use Rattle.cy_store.proofs.range.read_piece.Goals as goal

pub returns : goal.returns
returns g c =
    piece_answer (g.S.Store.shows c.args.store.now) (g.S.Store.shows c.read_at.new.self) c.args.name.now c.args.at c.min-size.result 1048576 c.args.rest.now c.read_at.new.buf c.read_at.result (lit< tt) (search rules) c.read_at.ensures
