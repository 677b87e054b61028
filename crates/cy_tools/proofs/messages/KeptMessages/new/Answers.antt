use Rattle.std.proofs.Common.{List, ap, map, subst, sym}
use Rattle.cy_reader.specs.Record.{Message}
use Rattle.cy_tools.specs.private.Giving.{ArePlaced, given_of}
use Rattle.cy_tools.proofs.Searching.{from_start}
use Rattle.cy_tools.proofs.messages.KeptMessages.new.Goals as goal

pub returns-clause-can_next : goal.returns-clause-can_next
returns-clause-can_next c = record {
  ready = c.requires.ready;
  placed = subst (λ (ms : List Message). ArePlaced c.args.order.now.numbers ms) (sym (from_start c.args.kept.now)) c.requires.placed;
}

pub returns-clause-rest : goal.returns-clause-rest
returns-clause-rest c = ap (map (given_of c.args.order.now.numbers)) (from_start c.args.kept.now)
