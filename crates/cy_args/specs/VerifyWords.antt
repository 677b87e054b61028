-- The words of `verify`.
use Rattle.std.specs.Prelude.{◌&&◌, Bool, if◌then◌else◌, List, [], ◌∷◌, Option, Some, None}
use Rattle.std.specs.Prelude.{codes}
use Rattle.cy_args.specs.FilterWords.{◌>>=◌}
use Rattle.cy_args.specs.Options.{Known, Options, valued}
use Rattle.cy_args.specs.PlayWords.{PlayWords, is_no_config, is_play, play_given}

-- What `verify` knows: what `play` knows but a scheduler file and whether one thread plays, on
-- which no lawful run depends.
abbrev pub verify_known : List Known
verify_known = valued (codes "dag") ∷ valued (codes "record") ∷ valued (codes "out")
    ∷ valued (codes "trace") ∷ valued (codes "channels") ∷ valued (codes "drop")
    ∷ valued (codes "begin") ∷ valued (codes "end") ∷ valued (codes "stop") ∷ []

-- Whether no two of the four files have one name: those of the record and of the trace that are
-- judged differ as they do in a play, and the record that was played is not the DAG file.
unfoldable pub is_apart : PlayWords → Bool
is_apart w = is_play w && is_no_config w.request.input w.request.components

abbrev pub where_apart : PlayWords → Option PlayWords
where_apart w = if is_apart w then Some w else None

-- What the options ask for: to judge what is said to be of the play that they say, whose scheduler
-- is the default one. They mean what they mean in `play`; no name has a value that isn't known.
unfoldable pub verify_asked : Options → Option PlayWords
verify_asked o = play_given o >>= where_apart
