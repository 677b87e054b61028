-- A line of the tape in two parts: what the lines of its channel begin with, and its number.
use Rattle.std.specs.Prelude.{ℕ, List, ◌++◌, codes}
use Rattle.std.specs.Fmt.{decimal}
use Rattle.cy_msg.specs.Names.{channel_name}
use Rattle.cy_msg.specs.declared.token.Token.{Token}

-- The line of a message, where the lines of each channel begin so.
abbrev pub started_line : (starts : List (List ℕ)) → Token → List ℕ
started_line starts t = channel_name starts t.channel ++ decimal t.seq ++ codes "\n"
