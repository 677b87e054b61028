-- What holds of everything that a writer is given.
use Rattle.std.specs.Prelude.{◌≡◌, ℕ, List, [], ◌∷◌, ◌++◌}
use Rattle.std.specs.FinMap.{insert}
use Rattle.cy_store.specs.Files.{Files}
use Rattle.cy_store.specs.Write.{after_writes}
use Rattle.cy_section.specs.declared.types.Channel.{Channel}
use Rattle.cy_section.specs.declared.types.BodyMessage.{BodyMessage}
use Rattle.cy_section.specs.Chunks.{AreChunksOf}
use Rattle.cy_section.specs.RecordText.{record_bytes}
use Rattle.cy_writer.specs.Given.{Given, nothing_given, with_channel, with_message, messages_of}
use Rattle.cy_writer.specs.Given.{IsCut}
use Rattle.cy_writer.specs.RecordWrites.{file_writes, record_puts, chunks_given}

-- The chunks end where they have to, as long as no want of memory put one earlier.
abbrev pub BeginsCut : Type 0
BeginsCut = (name : List ℕ) → IsCut (nothing_given name)

abbrev pub ChannelsStayCut : Type 0
ChannelsStayCut = (g : Given) (c : Channel) → IsCut g → IsCut (with_channel g c)

abbrev pub MessagesStayCut : Type 0
MessagesStayCut = (g : Given) (m : BodyMessage) → IsCut g → IsCut (with_message g m)

-- No message is lost or moved.
abbrev pub MessagesInOrder : Type 0
MessagesInOrder = (g : Given) (m : BodyMessage) → messages_of (with_message g m) ≡ messages_of g
    ++ m ∷ []

-- The writes of a record leave its bytes under its name, and every other name as it was.
abbrev pub LeavesRecord : Type 0
LeavesRecord = (name : List ℕ) (channels : List Channel) (chunks : List (List BodyMessage))
    (files : Files) → after_writes (file_writes name (record_puts channels chunks)) files
    ≡ insert files name (record_bytes channels chunks)

-- Messages are written in the chunks that they have to stand in.
abbrev pub StandInChunks : Type 0
StandInChunks = (name : List ℕ) (channels : List Channel) (messages : List BodyMessage)
    → AreChunksOf messages (chunks_given name channels messages)
