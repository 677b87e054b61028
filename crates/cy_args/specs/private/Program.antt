-- How the program's commands are told to `clap`.
use Rattle.std.specs.Prelude.{ℕ, ◌≡◌, true, false, List, codes, fold, map, Option, Some, None}
use Rattle.clap.specs.Walk.{Rule}
use Rattle.clap.specs.Words.{app_of}
use Rattle.clap.specs.declared.builder.command.Command.TheViews.{out-Command}
use Rattle.clap.specs.declared.builder.command.Command.{Command}
use Rattle.clap.specs.Simple.{App, new_app, new_rule, on_top, with_rule, with_subcommand}
use Rattle.clap.specs.declared.builder.action.ArgAction.{ArgAction}
use Rattle.clap.specs.declared.builder.action.ArgAction.TheVariants.{SetTrue}
use Rattle.cy_args.specs.Command.{forms}
use Rattle.cy_args.specs.Options.{Flag, Kind, Known, Place}

-- A word that a command knows: one at a place has no long name, and a flag has no value.
abbrev pub long_of : List ℕ → Kind → Option (List ℕ)
long_of name Place = None
long_of name kind = Some name

abbrev pub action_of : Kind → Option ArgAction
action_of Flag = Some SetTrue
action_of kind = None

abbrev pub rule_of_known : Known → Rule
rule_of_known k =
    record (new_rule k.name) { long = long_of k.name k.kind; action = action_of k.kind }

-- A command that takes such words.
pub record Head : Type 0 where
  pub name : List ℕ
  pub known : List Known

abbrev pub with_known : App → Known → App
with_known a k = with_rule a (rule_of_known k)

abbrev pub app_for : Head → App
app_for h = fold with_known (new_app h.name) h.known

-- The program: its words are those behind its name, one of its commands stands first, and it has no
-- help of its own.
abbrev pub bare : App → App
bare a = on_top (λ s. record s {
  no_binary_name = true;
  disable_help_flag = true;
  disable_help_subcommand = true;
}) a

abbrev pub heads : List Head
heads = map (λ f. record { name = f.name; known = f.known }) forms

abbrev pub with_head : App → Head → App
with_head a h = with_subcommand a (app_for h).top

abbrev pub program : App
program = fold with_head (bare (new_app (codes "cyber"))) heads

-- The code's command is this one, and none of its arguments is one of its commands' too.
abbrev pub IsCommand : App → Command → Type 0
IsCommand a c = (app_of c ≡ a) × ((out-Command c).has_globals ≡ false)
