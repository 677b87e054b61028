-- Tuples as lists.
use Rattle.std.specs.Prelude.{List, [], ◌∷◌}
use Rattle.cy_msg.specs.declared.token.Token.{Token}
use Rattle.cy_msg.specs.declared.token.Tuple.{Tuple}
use Rattle.cy_msg.specs.declared.token.Tuple.TheVariants.{One, Two, Three, Four}

-- The first message, which is the one that triggered the call.
abbrev pub first_of : Tuple → Token
first_of (One a) = a
first_of (Two a b) = a
first_of (Three a b c) = a
first_of (Four a b c d) = a

-- The messages, in the order of the readers.
abbrev pub messages_of : Tuple → List Token
messages_of (One a) = a ∷ []
messages_of (Two a b) = a ∷ b ∷ []
messages_of (Three a b c) = a ∷ b ∷ c ∷ []
messages_of (Four a b c d) = a ∷ b ∷ c ∷ d ∷ []
