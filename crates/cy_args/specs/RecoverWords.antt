-- The words of `recover`, which name the two files of `split` too.
use Rattle.std.specs.Prelude.{ℕ, if◌then◌else◌, List, [], ◌∷◌, Option, Some, None, codes}
use Rattle.std.specs.Str.{bytes_eq}
use Rattle.cy_args.specs.FilterWords.{◌>>=◌}
use Rattle.cy_args.specs.Options.{Known, Options, placed}

-- The file that is read, and the record that is written.
pub record RecoverWords : Type 0 where
  pub input : List ℕ
  pub output : List ℕ

-- What `recover` knows.
abbrev pub recover_known : List Known
recover_known = placed (codes "in") ∷ placed (codes "out") ∷ []

-- What two names ask for, which differ.
abbrev pub apart_from : (input output : List ℕ) → Option RecoverWords
apart_from input output =
    if bytes_eq input output then None else Some record { input = input; output = output }

unfoldable pub recover_asked : Options → Option RecoverWords
recover_asked o = do
  input ← o (codes "in")
  output ← o (codes "out")
  apart_from input output
