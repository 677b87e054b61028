-- Lists of tokens.
use Rattle.std.specs.Prelude.{ℕ, ◌≡◌, ◌≤◌, ◌<◌, ◌+◌, ◌==◌, List, length, take, filter, slice_get}
use Rattle.std.specs.Prelude.{Some}
use Rattle.cy_msg.specs.declared.token.Token.{Token}

-- The most messages that are played.
abbrev pub most_played : ℕ
most_played = 4194304

-- The tokens of a channel, in order.
abbrev pub on_channel : ℕ → List Token → List Token
on_channel channel tokens = filter (λ t. t.channel == channel) tokens

-- The tokens of each channel are numbered 1, 2, 3 and so on.
abbrev pub IsNumbered : List Token → Type 0
IsNumbered tokens = (n : ℕ) (t : Token) → slice_get tokens n ≡ Some t
    → t.seq ≡ length (on_channel t.channel (take n tokens)) + 1

-- The times of the tokens never fall.
abbrev pub IsTimed : List Token → Type 0
IsTimed tokens = (n : ℕ) (s t : Token) → slice_get tokens n ≡ Some s → slice_get tokens (n + 1)
    ≡ Some t → s.time ≤ t.time

-- Each token that has an origin has that of one of so many messages.
abbrev pub AreOf : ℕ → List Token → Type 0
AreOf messages tokens = (n o : ℕ) (t : Token) → slice_get tokens n ≡ Some t → t.origin ≡ Some o
    → o < messages
