-- The words of `merge`.
use Rattle.std.specs.Prelude.{ℕ, ◌==◌, ◌&&◌, not, Bool, if◌then◌else◌, List, [], ◌∷◌, length}
use Rattle.std.specs.Prelude.{Option, Some, None, codes}
use Rattle.std.specs.List.{list_all}
use Rattle.std.specs.Str.{bytes_eq}
use Rattle.cy_args.specs.FilterWords.{◌>>=◌, names_in}
use Rattle.cy_args.specs.Options.{Known, Options, placed}

-- The records that are read, in the order of the list, and the one that is written.
pub record MergeWords : Type 0 where
  pub inputs : List (List ℕ)
  pub output : List ℕ

-- What `merge` knows.
abbrev pub merge_known : List Known
merge_known = placed (codes "list") ∷ placed (codes "out") ∷ []

-- A list of inputs: names with single commas between, of which none is empty or that of the output.
abbrev pub is_input : (output name : List ℕ) → Bool
is_input output name = not (length name == 0) && not (bytes_eq name output)

unfoldable pub are_inputs : (output list : List ℕ) → Bool
are_inputs output list = list_all (is_input output) (names_in list)

-- What a list and a name ask for.
abbrev pub merged_by : (list output : List ℕ) → Option MergeWords
merged_by list output =
    if are_inputs output list then Some record { inputs = names_in list; output = output }
    else None

unfoldable pub merge_asked : Options → Option MergeWords
merge_asked o = do
  list ← o (codes "list")
  output ← o (codes "out")
  merged_by list output
