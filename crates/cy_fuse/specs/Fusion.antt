-- All-latest fusion: which tuples the arrivals at a component make.
use Rattle.std.specs.Prelude.{ℕ, zero, suc, ◌-◌, ◌==◌, if◌then◌else◌, List, [], ◌∷◌, ◌++◌, Option}
use Rattle.std.specs.Prelude.{Some, None, option_map, option_and_then, option_to_list}
use Rattle.cy_msg.specs.declared.token.Token.{Token}
use Rattle.cy_msg.specs.declared.token.Tuple.{Tuple}
use Rattle.cy_msg.specs.declared.token.Tuple.TheVariants.{One, Two, Three, Four}

-- A message that came to a reader: the reader's number, and the message.
abbrev pub Arrival : Type 0
Arrival = ℕ × Token

-- What came later, where anything did, and else what came earlier.
abbrev pub later_or : {X : Type 0} → Option X → Option X → Option X
later_or None earlier = earlier
later_or (Some x) earlier = Some x

-- The message of the last arrival of a role.
abbrev pub latest : ℕ → List Arrival → Option Token
latest role [] = None
latest role (a ∷ rest) = later_or (latest role rest) (if a.0 == role then Some a.1 else None)

-- The last arrivals of so many roles from one on, where each of them has one.
abbrev pub latest_of : (from count : ℕ) → List Arrival → Option (List Token)
latest_of from zero before = Some []
latest_of from (suc count) before =
    option_and_then (λ t. option_map (λ ts. t ∷ ts) (latest_of (suc from) count before))
    (latest from before)

-- A message and those that it is joined with, of up to three other readers.
abbrev pub joined : Token → List Token → Tuple
joined a [] = One a
joined a (b ∷ []) = Two a b
joined a (b ∷ c ∷ []) = Three a b c
joined a (b ∷ c ∷ d ∷ rest) = Four a b c d

-- What an arrival adds at a component of so many readers: an arrival of the first reader is joined
-- with the latest message of each other reader; where one of them has none yet, and at each other
-- arrival, nothing is made.
abbrev pub added : ℕ → List Arrival → Arrival → List Tuple
added readers before a =
    if a.0 == 0 then option_to_list (option_map (joined a.1) (latest_of 1 (readers - 1) before))
    else []

-- What arrivals add, one after another, behind those before them.
abbrev pub fused_after : ℕ → List Arrival → List Arrival → List Tuple
fused_after readers before [] = []
fused_after readers before (a ∷ rest) =
    added readers before a ++ fused_after readers (before ++ a ∷ []) rest

-- The tuples that the arrivals make at a component of so many readers, numbered from 1.
unfoldable pub fused : List Arrival → ℕ → List Tuple
fused arrivals readers = fused_after readers [] arrivals
