-- The words of `pass`.
use Rattle.std.specs.Prelude.{ℕ, if◌then◌else◌, List, [], ◌∷◌, Option, None, codes}
use Rattle.std.specs.Str.{bytes_eq}
use Rattle.cy_msg.specs.Request.{OfPass}
use Rattle.cy_args.specs.FilterWords.{◌>>=◌}
use Rattle.cy_args.specs.Options.{Known, Options, placed}
use Rattle.cy_args.specs.PlayWords.{PlayWords, play_of_all, where_play}

-- What `pass` knows: the record that is played, the record and the trace that are written, and two
-- channels.
abbrev pub pass_known : List Known
pass_known = placed (codes "record") ∷ placed (codes "out") ∷ placed (codes "trace")
    ∷ placed (codes "from") ∷ placed (codes "to") ∷ []

-- What five names ask for: a serial play through one component from one channel to another, which
-- differ.
abbrev pub passed_by : (input output trace from to : List ℕ) → Option PlayWords
passed_by input output trace from to =
    if bytes_eq from to then None
    else where_play (play_of_all (OfPass from to) input output trace)

abbrev pub pass_asked : Options → Option PlayWords
pass_asked o = do
  input ← o (codes "record")
  output ← o (codes "out")
  trace ← o (codes "trace")
  from ← o (codes "from")
  to ← o (codes "to")
  passed_by input output trace from to
