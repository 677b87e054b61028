-- What the buffers of tuples stand for.
use Rattle.cy_msg.specs.declared.token.Tuple.{Tuple}
use Rattle.cy_msg.specs.declared.token.Tuple.TheVariants.{One, Two, Three, Four}
use Rattle.cy_fuse.specs.declared.tuples.Pair.{Pair}
use Rattle.cy_fuse.specs.declared.tuples.Triple.{Triple}
use Rattle.cy_fuse.specs.declared.tuples.Quad.{Quad}
use Rattle.cy_fuse.specs.declared.tuples.Kept.{Kept}
use Rattle.cy_fuse.specs.declared.tuples.Kept.TheVariants.{Ones, Pairs, Triples, Quads}
use Rattle.cy_fuse.specs.Fusion.{Arrival}
use Rattle.cy_fuse.specs.private.Joining.{TuplesView, mapped}

-- The tuple of the messages that are kept of it.
abbrev pub one_of : Arrival → Tuple
one_of a = One a.1

abbrev pub pair_of : Pair → Tuple
pair_of p = Two p.first.1 p.second.1

abbrev pub triple_of : Triple → Tuple
triple_of p = Three p.first.1 p.second.1 p.third.1

abbrev pub quad_of : Quad → Tuple
quad_of p = Four p.first.1 p.second.1 p.third.1 p.fourth.1

-- The tuples of a component, by the number of its readers.
abbrev pub tuples_in : Kept → TuplesView
tuples_in (Ones b) = record { roles = 1; cache = mapped one_of b }
tuples_in (Pairs b) = record { roles = 2; cache = mapped pair_of b }
tuples_in (Triples b) = record { roles = 3; cache = mapped triple_of b }
tuples_in (Quads b) = record { roles = 4; cache = mapped quad_of b }
