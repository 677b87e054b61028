-- The last tuples of a component, as they are kept.
use Rattle.std.specs.Prelude.{ℕ, zero, suc, ◌-◌, List, [], ◌∷◌, map, slice_index_or, Option, Some}
use Rattle.std.specs.Prelude.{None, option_map, option_and_then}
use Rattle.cy_msg.specs.declared.token.Token.{Token}
use Rattle.cy_msg.specs.declared.token.Tuple.{Tuple}
use Rattle.cy_fuse.specs.Fusion.{joined}
use Rattle.cy_fuse.specs.Cache.{Cache, filled}

-- How many readers a component has, and the buffer of its tuples.
pub record TuplesView : Type 0 where
  pub roles : ℕ
  pub cache : Cache Tuple

-- A buffer of what its items stand for.
abbrev pub mapped : {X Y : Type 0} → (X → Y) → Cache X → Cache Y
mapped f b = record { size = b.size; tail = b.tail; kept = map f b.kept }

-- The same buffer, with an item filled where there is one.
abbrev pub fills : {X : Type 0} → Cache X → Option X → Cache X
fills b None = b
fills b (Some x) = filled b x

-- The kept messages of so many roles from one on, where each of them has one.
abbrev pub last_of : (from count : ℕ) → List (Option Token) → Option (List Token)
last_of from zero last = Some []
last_of from (suc count) last =
    option_and_then (λ t. option_map (λ ts. t ∷ ts) (last_of (suc from) count last))
    (slice_index_or last from None)

-- The tuple of a message of the first reader and the last message of each other one, where each has
-- one.
abbrev pub tuple_with : (roles : ℕ) → Token → List (Option Token) → Option Tuple
tuple_with roles first last = option_map (joined first) (last_of 1 (roles - 1) last)

-- The tuples after a message of the first reader.
abbrev pub joined_to : Token → List (Option Token) → TuplesView → TuplesView
joined_to first last v =
    record v { cache = fills v.cache (tuple_with v.roles first last) }
