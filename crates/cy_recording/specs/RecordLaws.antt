-- What holds of every record that is written of a tape.
use Rattle.std.specs.Prelude.{ℕ, ◌≡◌, ◌<◌, List, length, slice_get, Some}
use Rattle.cy_msg.specs.Once.{IsOnce}
use Rattle.cy_msg.specs.declared.token.Token.{Token}
use Rattle.cy_section.specs.RecordText.{IsRecordText, record_bytes}
use Rattle.cy_msg.specs.declared.play_list.PlayList.{PlayList}
use Rattle.cy_reader.specs.Record.{Contents}
use Rattle.cy_play_list.specs.Play.{Choice, IsPlayList}
use Rattle.cy_recording.specs.Recording.{Source, IsWritable, channels_of_tape, messages_of_tape}
use Rattle.cy_recording.specs.Recording.{chunks_of_tape}

-- The record of a tape is the record text of its messages, where no two channels have one name.
abbrev pub WritesText : Type 0
WritesText = (name : List ℕ) (s : Source) (tape : List Token) → IsOnce s.names → IsWritable s tape
    → IsRecordText (channels_of_tape s tape) (messages_of_tape s tape)
    (record_bytes (channels_of_tape s tape) (chunks_of_tape name s tape))

-- The places of a play list are places of the record that it is of.
abbrev pub PlacesAreThere : Type 0
PlacesAreThere = (whole : Contents) (choice : Choice) (list : PlayList)
    → IsPlayList whole choice list → (n place : ℕ) → slice_get list.places n ≡ Some place
    → place < length whole.messages
