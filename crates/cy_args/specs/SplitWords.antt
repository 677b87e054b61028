-- The words of `split`.
use Rattle.std.specs.Prelude.{ℕ, List, [], ◌∷◌, Option, Some, codes}
use Rattle.cy_msg.specs.declared.filter.Filter.{Filter}
use Rattle.cy_args.specs.FilterWords.{◌>>=◌, filter_asked}
use Rattle.cy_args.specs.Options.{Known, Options, placed, valued}
use Rattle.cy_args.specs.RecoverWords.{recover_asked}

-- The record that is read, the one that is written, and which messages it has of the other.
pub record SplitWords : Type 0 where
  pub input : List ℕ
  pub output : List ℕ
  pub filter : Filter

-- What `split` knows.
abbrev pub split_known : List Known
split_known = placed (codes "in") ∷ placed (codes "out") ∷ valued (codes "channels")
    ∷ valued (codes "drop") ∷ valued (codes "begin") ∷ valued (codes "end") ∷ []

-- What they ask for: the two names are those of a `recover`, and the options mean what they mean in
-- `play`.
unfoldable pub split_asked : Options → Option SplitWords
split_asked o = do
  files ← recover_asked o
  filter ← filter_asked o
  Some record { input = files.input; output = files.output; filter = filter }
