-- What the steps of a writer's calls come to, by what they keep.
use Rattle.std.specs.Prelude.{ℕ, ◌≡◌, ◌≤◌, ◌+◌, ◌++◌, ◌∷◌, List, [], length, drop, true, None}
use Rattle.std.specs.Prelude.{Some, slice_get, vec_len, vec_capacity, Result, IfOk, OnOk, OnErr}
use Rattle.std.specs.Prelude.{IsErrOf, IsOkUnless}
use Rattle.cy_store.specs.Store.{StoreView, HasWriteCauses}
use Rattle.cy_section.specs.declared.types.BodyMessage.{BodyMessage}
use Rattle.cy_section.specs.declared.types.Channel.{Channel}
use Rattle.cy_section.specs.Section.{message_field}
use Rattle.cy_section.specs.Chunks.{takes}
use Rattle.cy_section.specs.RecordText.{chunk_header_part, chunk_body_part}
use Rattle.cy_writer.specs.Writes.{Makes, puts_into}
use Rattle.cy_writer.specs.Calls.{LeavesOut}
use Rattle.cy_writer.specs.Given.{Given, with_chunk, with_message, message_on, chunk_puts}
use Rattle.cy_writer.specs.Kept.{IsChunkOf, BeginsAt}
use Rattle.cy_writer.specs.RecordWrites.{file_writes, front_puts, given_channels}
use Rattle.cy_writer.specs.Stands.{Stands, StandsFor, IsHeld, IsThere}
use Rattle.cy_writer.specs.declared.error.WriteError.{WriteError}
use Rattle.cy_writer.specs.declared.error.WriteError.TheVariants as write_error
use Rattle.cy_writer.specs.declared.chunk.Chunk.{Chunk}
use Rattle.cy_writer.specs.declared.writing.Prepared.{Prepared}
use Rattle.cy_writer.specs.declared.writer.RecordWriter.{RecordWriter}
use Rattle.cy_writer.specs.declared.writing.Writing.{Writing}

-- A file is made, and has these channels and no message.
pub record StartsRecord (name : List ℕ) (channels : List Channel) (old new : StoreView)
    (result : Result RecordWriter WriteError) : Type 0 where
  pub given : IfOk result (λ w. Stands w (given_channels name channels))
  pub there : IfOk result (λ w. IsThere w new.files)
  pub makes : Makes (file_writes name (front_puts channels [])) old new result
  pub unbroken : IsErrOf result write_error.Broken → ⊥
  pub causes : HasWriteCauses (IsErrOf result write_error.Failed) old new

-- All is made that is needed to put the chunk that is gathered, and the writer stands for what it
-- stood for.
pub record Prepares (o p : Writing) (result : Result Prepared WriteError) : Type 0 where
  pub same : (g : Given) → StandsFor o g → StandsFor p g
  pub header : (g : Given) → StandsFor o g
      → IfOk result (λ r. r.header ≡ (chunk_header_part g.gathered).bytes)
  pub body : (g : Given) → StandsFor o g
      → OnOk result (p.chunk.section ≡ (chunk_body_part g.gathered).bytes)
  pub body_position : IfOk result (λ r. r.body_position ≡ o.place + length r.header)
  pub end : IfOk result (λ r. r.end ≡ r.body_position + length p.chunk.section)
  pub room : OnOk result (vec_len p.chunks + 1 ≤ vec_capacity p.chunks)
  pub name : p.name ≡ o.name
  pub place : p.place ≡ o.place
  pub channels : length p.channels.items ≡ length o.channels.items
  pub only_memory : IsOkUnless result write_error.Memory

-- The chunk that was put is noted, and the next one begins: the writer stands for what was given
-- with one chunk more.
pub record NotesChunk (o p : Writing) (r : Prepared) : Type 0 where
  pub given : (g : Given) → StandsFor o g → r.header ≡ (chunk_header_part g.gathered).bytes
      → o.chunk.section ≡ (chunk_body_part g.gathered).bytes
      → r.body_position ≡ o.place + length r.header
      → r.end ≡ r.body_position + length o.chunk.section → StandsFor p (with_chunk g)
  pub name : p.name ≡ o.name
  pub place : p.place ≡ r.end
  pub channels : length p.channels.items ≡ length o.channels.items

-- The chunk that is gathered is put, and the next one begins. Where it isn't, the writer stands for
-- what it stood for.
pub record PutsChunk {T : Type 0} (o p : Writing) (old new : StoreView)
    (result : Result T WriteError) : Type 0 where
  pub given : (g : Given) → StandsFor o g → OnOk result (StandsFor p (with_chunk g))
  pub same : (g : Given) → StandsFor o g → OnErr result (StandsFor p g)
  pub makes : (g : Given) → StandsFor o g → Makes (puts_into g.name (chunk_puts g)) old new result
  pub starved : (g : Given) → StandsFor o g → IsErrOf result write_error.Memory
      → LeavesOut (StandsFor p) g g old new
  pub held : (IsErrOf result write_error.Failed → ⊥) → IsHeld p new.files
  pub channels : length p.channels.items ≡ length o.channels.items
  pub told : OnOk result (new.files ≡ None → old.files ≡ None)
  pub unbroken : IsErrOf result write_error.Broken → ⊥
  pub causes : HasWriteCauses (IsErrOf result write_error.Failed) old new

-- Where a chunk has no message yet, room is made for the head of its section, and its first time is
-- noted.
pub record BeginsChunk {T : Type 0} (c d : Chunk) (time : ℕ) (result : Result T WriteError) : Type 0
  where
    pub same : (messages : List BodyMessage) → IsChunkOf c messages → IsChunkOf d messages
    pub first : (messages : List BodyMessage) (m : BodyMessage) → IsChunkOf c messages
        → m.time ≡ time → OnOk result (BeginsAt d.first_time (messages ++ m ∷ []))
    pub room : OnOk result (16 ≤ length d.section)
    pub header : d.header ≡ c.header
    pub only_memory : IsOkUnless result write_error.Memory

-- A message is put behind the others of a chunk's section. Without memory the section is as it was.
pub record PutsMessage {T : Type 0} (c d : Chunk) (m : BodyMessage) (result : Result T WriteError) :
    Type 0 where
  pub put : OnOk result (drop 16 d.section ≡ drop 16 c.section ++ message_field m)
  pub same : OnErr result (d.section ≡ c.section)
  pub room : 16 ≤ length d.section
  pub header : d.header ≡ c.header
  pub first : d.first_time ≡ c.first_time
  pub only_memory : IsOkUnless result write_error.Memory

-- A message that the chunk takes is gathered. Without memory the writer stands for what it stood
-- for.
pub record Gathers {T : Type 0} (o p : Writing) (channel time : ℕ) (content : List ℕ)
    (result : Result T WriteError) : Type 0 where
  pub given : (g : Given) (c : Channel) → StandsFor o g → slice_get g.channels channel ≡ Some c
      → takes g.gathered (message_on c time content) ≡ true
      → OnOk result (StandsFor p (with_message g (message_on c time content)))
  pub same : (g : Given) → StandsFor o g → OnErr result (StandsFor p g)
  pub place : p.place ≡ o.place
  pub name : p.name ≡ o.name
  pub channels : length p.channels.items ≡ length o.channels.items
  pub only_memory : IsOkUnless result write_error.Memory
