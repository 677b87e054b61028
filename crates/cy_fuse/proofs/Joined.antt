-- The tuples of a component after a message of its first reader.
use Rattle.std.proofs.Common.{ℕ, ◌≡◌, List, Option, Some, ap, ◌∙◌}
use Rattle.std.specs.Prelude.{option_map}
use Rattle.cy_msg.specs.declared.token.Token.{Token}
use Rattle.cy_msg.specs.declared.token.Tuple.{Tuple}
use Rattle.cy_fuse.specs.declared.tuples.Pair.{Pair}
use Rattle.cy_fuse.specs.declared.tuples.Triple.{Triple}
use Rattle.cy_fuse.specs.declared.tuples.Quad.{Quad}
use Rattle.cy_fuse.specs.declared.tuples.Kept.TheVariants.{Ones, Pairs, Triples, Quads}
use Rattle.cy_fuse.specs.Fusion.{Arrival}
use Rattle.cy_fuse.specs.Cache.{Cache, filled}
use Rattle.cy_fuse.specs.private.Joining.{TuplesView, mapped, fills, tuple_with, joined_to}
use Rattle.cy_fuse.specs.private.Holding.{one_of, pair_of, triple_of, quad_of, tuples_in}
use Rattle.cy_fuse.proofs.Mapped.{mapped_fills}

-- a buffer in which an item was filled, where there is one, and what is then kept of the tuples
many_joined : {X : Type 0} (f : X → Tuple) (roles : ℕ) (first : Token) (last : List (Option Token)) (before after : Cache X) (item : Option X) → after ≡ fills before item
    → option_map f item ≡ tuple_with roles first last → record { roles = roles; cache = mapped f after } ≡ joined_to first last (record { roles = roles; cache = mapped f before })
many_joined f roles first last before after item is made =
    ap with_cache (ap (mapped f) is ∙ mapped_fills f before item ∙ ap (fills (mapped f before)) made)
  where
    with_cache : Cache Tuple → TuplesView
    with_cache b = record { roles = roles; cache = b }

module _ (first : Token) (last : List (Option Token)) where
  pub ones_joined : (before after : Cache Arrival) (a : Arrival) → after ≡ filled before a → a ≡ (0, first) → tuples_in (Ones after) ≡ joined_to first last (tuples_in (Ones before))
  ones_joined before after a is made = many_joined one_of 1 first last before after (Some a) is (ap (λ (b : Arrival). Some (one_of b)) made)

  pub pairs_joined : (before after : Cache Pair) (item : Option Pair) → after ≡ fills before item → option_map pair_of item ≡ tuple_with 2 first last
      → tuples_in (Pairs after) ≡ joined_to first last (tuples_in (Pairs before))
  pairs_joined = many_joined pair_of 2 first last

  pub triples_joined : (before after : Cache Triple) (item : Option Triple) → after ≡ fills before item → option_map triple_of item ≡ tuple_with 3 first last
      → tuples_in (Triples after) ≡ joined_to first last (tuples_in (Triples before))
  triples_joined = many_joined triple_of 3 first last

  pub quads_joined : (before after : Cache Quad) (item : Option Quad) → after ≡ fills before item → option_map quad_of item ≡ tuple_with 4 first last
      → tuples_in (Quads after) ≡ joined_to first last (tuples_in (Quads before))
  quads_joined = many_joined quad_of 4 first last
