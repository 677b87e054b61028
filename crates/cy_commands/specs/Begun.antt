-- What words ask for, as far as nothing is played.
use Rattle.std.specs.Prelude.{◌≡◌, ⊤, Option, Some, Ok}
use Rattle.cy_store.specs.Store.{StoreView}
use Rattle.cy_setup.specs.Setup.{IsSetUp}
use Rattle.cy_setup.specs.declared.setup.Replay.{Replay}
use Rattle.cy_args.specs.Command.{Command, Play}
use Rattle.cy_args.specs.PlayViews.{play_words_of}
use Rattle.cy_args.specs.PlayWords.{PlayWords}
use Rattle.cy_commands.specs.declared.begun.Begun.{Begun}
use Rattle.cy_commands.specs.declared.begun.Begun.TheVariants as begun
use Rattle.cy_commands.specs.Due.{IsDue}
use Rattle.cy_commands.specs.Line.{bytes_of_line}
use Rattle.cy_commands.specs.PlayEnds.{SetsUp}

-- The words ask for a play, and its files come to this replay.
pub record IsBegun (command : Option Command) (old new : StoreView) (w : PlayWords) (x : Replay)
    : Type 0 where
  pub asked : command ≡ Some (Play w)
  pub came : SetsUp w old new (Ok x)

-- What the words ask for has ended, and this is due; or it is a play that is set up.
abbrev pub HasBegun : Option Command → StoreView → StoreView → Begun → Type 0
HasBegun command old new (begun.Ended due) =
    IsDue command old new due.status (bytes_of_line due.line)
HasBegun command old new (begun.SetUp play x) = IsBegun command old new (play_words_of play) x

-- A replay is set up as its play says.
abbrev pub IsReady : Begun → Type 0
IsReady (begun.Ended due) = ⊤
IsReady (begun.SetUp play x) = IsSetUp (play_words_of play).request x
