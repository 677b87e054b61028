-- What is given, by the values that are kept under the names of a command's words.
use Rattle.std.specs.Prelude.{ℕ, Bool, not, if◌then◌else◌, List, [], codes}
use Rattle.std.specs.Prelude.{Option, Some, None}
use Rattle.std.specs.Str.{bytes_eq}
use Rattle.clap.specs.Words.{Row, first_of}
use Rattle.cy_args.specs.Command.{Command}
use Rattle.cy_args.specs.Options.{Known, Options, is_flag, kind_of}
use Rattle.cy_args.specs.private.Scan.{asked_of}

-- A flag has a text that says whether it is given.
abbrev pub kept_as : Bool → Option (List ℕ) → Option (List ℕ)
kept_as has_text None = None
kept_as has_text (Some text) =
    if has_text then Some text else (if bytes_eq text (codes "true") then Some [] else None)

unfoldable pub options_in : List Known → List Row → Options
options_in known rows =
    λ name. kept_as (not (is_flag (kind_of known name))) (first_of name rows)

-- What they ask for, by the name of the command.
abbrev pub asked_in : List ℕ → List Row → Option Command
asked_in name rows = asked_of name (λ known. options_in known rows)
