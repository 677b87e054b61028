-- The commands, and the words that ask for them.
use Rattle.std.specs.Prelude.{ℕ, ◌≡◌, ◌≢◌, ⊤, true, All, List, [], ◌∷◌, find, Option, Some, None}
use Rattle.std.specs.Prelude.{codes}
use Rattle.std.specs.Option.{option_map}
use Rattle.std.specs.Str.{bytes_eq}
use Rattle.cy_args.specs.CheckWords.{CheckWords, check_asked, check_known}
use Rattle.cy_args.specs.MakeWords.{MakeWords, make_asked, make_known}
use Rattle.cy_args.specs.MergeWords.{MergeWords, merge_asked, merge_known}
use Rattle.cy_args.specs.Options.{AreOptions, Known, Options, placed}
use Rattle.cy_args.specs.PassWords.{pass_asked, pass_known}
use Rattle.cy_args.specs.PlayWords.{PlayWords, play_asked, play_known}
use Rattle.cy_args.specs.RecoverWords.{RecoverWords, recover_asked, recover_known}
use Rattle.cy_args.specs.SplitWords.{SplitWords, split_asked, split_known}
use Rattle.cy_args.specs.VerifyWords.{verify_asked, verify_known}

-- The words of `info`: the record that is told of.
pub record InfoWords : Type 0 where
  pub file : List ℕ

abbrev pub info_known : List Known
info_known = placed (codes "file") ∷ []

abbrev pub info_asked : Options → Option InfoWords
info_asked o = option_map (λ file. record { file = file }) (o (codes "file"))

-- `check`, `info`, `play`, `make`, `verify`, `recover`, `split` and `merge`, each with its words;
-- `pass` is a play, and the words of `verify` are those of the play that is judged.
pub data Command : Type 0 where
  Check : (words : CheckWords) → Command
  Info : (words : InfoWords) → Command
  Play : (words : PlayWords) → Command
  Make : (words : MakeWords) → Command
  Verify : (words : PlayWords) → Command
  Recover : (words : RecoverWords) → Command
  Split : (words : SplitWords) → Command
  Merge : (words : MergeWords) → Command

-- A form of words that ask for a command: the name that stands first, what is known of the words
-- behind it, and what their values ask for.
pub record Form : Type 0 where
  pub name : List ℕ
  pub known : List Known
  pub asked : Options → Option Command

abbrev pub form : List ℕ → List Known → (Options → Option Command) → Form
form name known asked = record { name = name; known = known; asked = asked }

-- The forms that there are.
abbrev pub forms : List Form
forms = form (codes "play") play_known (λ o. option_map Play (play_asked o))
    ∷ form (codes "pass") pass_known (λ o. option_map Play (pass_asked o))
    ∷ form (codes "check") check_known (λ o. option_map Check (check_asked o))
    ∷ form (codes "info") info_known (λ o. option_map Info (info_asked o))
    ∷ form (codes "make") make_known (λ o. option_map Make (make_asked o))
    ∷ form (codes "verify") verify_known (λ o. option_map Verify (verify_asked o))
    ∷ form (codes "recover") recover_known (λ o. option_map Recover (recover_asked o))
    ∷ form (codes "split") split_known (λ o. option_map Split (split_asked o))
    ∷ form (codes "merge") merge_known (λ o. option_map Merge (merge_asked o))
    ∷ []

unfoldable pub form_of : List ℕ → Option Form
form_of name = find (λ f. bytes_eq name f.name) forms

-- The words behind a name ask for a command by a form: they are what it knows, and their values ask
-- for it.
pub record AsksBy (f : Form) (words : List (List ℕ)) (c : Command) : Type 0 where
  pub options : Options
  pub are_options : AreOptions f.known words options
  pub asks : f.asked options ≡ Some c

-- The words ask for a command: by the form that the first one names.
abbrev pub Asks : List (List ℕ) → Command → Type 0
Asks [] c = ⊥
Asks (name ∷ words) c = (f : Form) × (form_of name ≡ Some f) × AsksBy f words c

-- The same where there are no threads: a `play` is then serial.
abbrev pub IsStill : Command → Type 0
IsStill (Play w) = w.serial ≡ true
IsStill c = ⊤

abbrev pub AsksStill : List (List ℕ) → Command → Type 0
AsksStill words c = Asks words c × IsStill c

-- What is asked for: a command, or nothing where no command is.
abbrev pub IsAsked : (Command → Type 0) → Option Command → Type 0
IsAsked asks None = (c : Command) → asks c → ⊥
IsAsked asks (Some c) = asks c

-- Any words ask for one thing and no other, with threads and without.
abbrev pub IsOnlyAsked : (Command → Type 0) → Option Command → Type 0
IsOnlyAsked asks asked =
    IsAsked asks asked × ((other : Option Command) → IsAsked asks other → other ≡ asked)

abbrev pub AskForOne : Type 0
AskForOne = (words : List (List ℕ))
    → ((asked : Option Command) × IsOnlyAsked (Asks words) asked)
    × ((asked : Option Command) × IsOnlyAsked (AsksStill words) asked)

-- Whatever words ask for a play, the two files that it writes have different names.
abbrev pub PlayFilesDiffer : Type 0
PlayFilesDiffer = (words : List (List ℕ)) (w : PlayWords) → Asks words (Play w)
    → w.output ≢ w.trace

-- And whatever words ask for `recover` or `split`, what is written has another name than what is
-- read.
abbrev pub RecoverFilesDiffer : Type 0
RecoverFilesDiffer = (words : List (List ℕ)) (w : RecoverWords) → Asks words (Recover w)
    → w.input ≢ w.output

abbrev pub SplitFilesDiffer : Type 0
SplitFilesDiffer = (words : List (List ℕ)) (w : SplitWords) → Asks words (Split w)
    → w.input ≢ w.output

-- And whatever words ask for `merge`, it has another name than each that is read.
abbrev pub MergeFilesDiffer : Type 0
MergeFilesDiffer = (words : List (List ℕ)) (w : MergeWords) → Asks words (Merge w)
    → All (λ input. input ≢ w.output) w.inputs
