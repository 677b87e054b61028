-- How it is told why a file is not read as a record, or not played, and whether that is a limit
-- that was passed.
use Rattle.std.specs.Prelude.{ℕ, List, ◌++◌, Bool, true, false, codes}
use Rattle.std.specs.Fmt.{decimal}
use Rattle.cy_msg.specs.FaultText.{limit_text}
use Rattle.cy_section.specs.FaultText.{section_text, is_section_limit}
use Rattle.cy_reader.specs.declared.error.LoadError.{LoadError}
use Rattle.cy_reader.specs.declared.error.LoadError.TheVariants as load

abbrev pub load_text : LoadError → List ℕ
load_text load.NotRecord = codes "not a record"
load_text (load.Section e) = section_text e
load_text (load.Compressed kind) = codes "compressed chunks of kind " ++ decimal kind
load_text (load.FileTooLarge count) = limit_text (codes "FileTooLarge") count
load_text (load.ContentTooLarge count) = limit_text (codes "ContentTooLarge") count
load_text (load.NameTooLong count) = limit_text (codes "NameTooLong") count
load_text (load.ChannelsTooLarge count) = limit_text (codes "ChannelsTooLarge") count
load_text load.TooManyChannels = limit_text (codes "TooManyChannels") 1025
load_text (load.TooManyPlayed count) = limit_text (codes "TooManyPlayed") count
load_text load.Store = codes "the store failed"
load_text load.Memory = codes "out of memory"

abbrev pub is_load_limit : LoadError → Bool
is_load_limit (load.Section e) = is_section_limit e
is_load_limit (load.FileTooLarge count) = true
is_load_limit (load.ContentTooLarge count) = true
is_load_limit (load.NameTooLong count) = true
is_load_limit (load.ChannelsTooLarge count) = true
is_load_limit load.TooManyChannels = true
is_load_limit (load.TooManyPlayed count) = true
is_load_limit other = false
