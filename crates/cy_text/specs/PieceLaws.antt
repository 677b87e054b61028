-- What holds of the tokens of every text.
use Rattle.std.specs.Prelude.{ℕ, ◌≡◌, List}
use Rattle.cy_text.specs.Cuts.{IsCut}
use Rattle.cy_text.specs.Tokens.{Tokens, tokens_of}

-- The tokens that are read of a text are its cut.
abbrev pub ReadIsCut : Type 0
ReadIsCut = (text : List ℕ) → IsCut 0 text (tokens_of text)

-- A text has one cut, which is what is read.
abbrev pub CutIsRead : Type 0
CutIsRead = (text : List ℕ) (tokens : Tokens) → IsCut 0 text tokens → tokens_of text ≡ tokens
