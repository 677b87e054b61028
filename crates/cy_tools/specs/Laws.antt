-- What holds of every record that is written of kept messages.
use Rattle.std.specs.Prelude.{ℕ, List}
use Rattle.cy_reader.specs.Record.{Met, Message}
use Rattle.cy_reader.specs.Said.{StandOnChannels}
use Rattle.cy_tools.specs.Kept.{IsKeptText}

-- It is the record text of the messages, where no two channels have one name and each of these
-- messages stands on one of them.
abbrev pub WritesText : Type 0
WritesText = (name : List ℕ) (met : Met) (kept : List Message) → StandOnChannels met.channels kept
    → IsKeptText name met kept
