use Rattle.std.proofs.Common.{◌∙◌, sym, ap}
use Rattle.cy_fuse.specs.private.Joining.{joined_to}
use Rattle.cy_fuse.specs.private.Holding.{tuples_in}
use Rattle.cy_fuse.proofs.Joined.{ones_joined, pairs_joined, triples_joined, quads_joined}
use Rattle.cy_fuse.proofs.tuples.TupleBuffer.join.Goals.{in-Ones, in-Pairs, in-Triples, in-Quads}
use Rattle.cy_fuse.proofs.tuples.TupleBuffer.join.Goals as goal

pub returns : goal.returns
returns c = elim c.match-self.branch [
  | in-Ones w ↦ rw w.self-inside-is (ones_joined c.args.first c.args.last.now w.in-Ones.tuples w.fill.new.self w.new.result w.fill.ensures w.new.ensures
      ∙ ap (joined_to c.args.first c.args.last.now) (ap tuples_in (sym w.in-Ones.is) ∙ c.self.view_is))
  | in-Pairs w ↦ rw w.self-inside-is (pairs_joined c.args.first c.args.last.now w.in-Pairs.tuples w.fill-in-Pairs.new.tuples w.pair_with.result w.fill-in-Pairs.ensures w.pair_with.ensures
      ∙ ap (joined_to c.args.first c.args.last.now) (ap tuples_in (sym w.in-Pairs.is) ∙ c.self.view_is))
  | in-Triples w ↦ rw w.self-inside-is (triples_joined c.args.first c.args.last.now w.in-Triples.tuples w.fill-in-Triples.new.tuples w.triple_with.result w.fill-in-Triples.ensures w.triple_with.ensures
      ∙ ap (joined_to c.args.first c.args.last.now) (ap tuples_in (sym w.in-Triples.is) ∙ c.self.view_is))
  | in-Quads w ↦ rw w.self-inside-is (quads_joined c.args.first c.args.last.now w.in-Quads.tuples w.fill-in-Quads.new.tuples w.quad_with.result w.fill-in-Quads.ensures w.quad_with.ensures
      ∙ ap (joined_to c.args.first c.args.last.now) (ap tuples_in (sym w.in-Quads.is) ∙ c.self.view_is))
]
