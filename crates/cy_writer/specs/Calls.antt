-- What the calls of a writer come to. `was` says what the writer stands for before a call, `is`
-- what it stands for after it.
use Rattle.std.specs.Prelude.{ℕ, ◌≡◌, ◌∷◌, ◌⊎◌, [], List, Some, slice_get, Result, IfOk, OnOk}
use Rattle.std.specs.Prelude.{IsErrOf}
use Rattle.cy_store.specs.Files.{Holds}
use Rattle.cy_store.specs.Write.{Create}
use Rattle.cy_store.specs.Store.{StoreView, HasWriteCauses}
use Rattle.cy_section.specs.declared.types.Channel.{Channel}
use Rattle.cy_writer.specs.Writes.{Makes, puts_into}
use Rattle.cy_writer.specs.Given.{Given, nothing_given, with_channel, with_chunk, with_message}
use Rattle.cy_writer.specs.Given.{message_on, IsLeft, IsTextOf, start_puts, channel_puts}
use Rattle.cy_writer.specs.Given.{message_puts, close_puts}
use Rattle.cy_writer.specs.Stands.{Stands, IsNewName, IsBroken, HasChannel, IsThere}
use Rattle.cy_writer.specs.declared.error.WriteError.{WriteError}
use Rattle.cy_writer.specs.declared.error.WriteError.TheVariants as write_error
use Rattle.cy_writer.specs.declared.writer.RecordWriter.{RecordWriter}

-- A file is begun: it is made, and the header of a record that is still being written is put.
pub record Begins {T : Type 0} (name : List ℕ) (old new : StoreView)
    (result : Result T WriteError) : Type 0 where
  pub makes : Makes (Create name ∷ puts_into name start_puts) old new result
  pub left : OnOk result (IsLeft (nothing_given name) new.files)
  pub unbroken : IsErrOf result write_error.Broken → ⊥
  pub causes : HasWriteCauses (IsErrOf result write_error.Failed) old new

-- A writer starts on a file that was begun: nothing was given to it yet.
pub record Starts (name : List ℕ) (old new : StoreView) (result : Result RecordWriter WriteError) :
    Type 0 where
  pub given : IfOk result (λ w. Stands w (nothing_given name))
  pub there : IfOk result (λ w. IsThere w new.files)
  pub begins : Begins name old new result

-- A channel is put: it is given from then on, where no message was given yet and no channel has its
-- name. Without memory nothing was given, and no file is touched.
pub record PutsChannel {T : Type 0} (was is : Given → Type 0) (c : Channel) (old new : StoreView)
    (result : Result T WriteError) : Type 0 where
  pub given : (g : Given) → was g → g.closed ≡ [] → g.gathered ≡ [] → IsNewName c.name g.channels
      → OnOk result (is (with_channel g c))
  pub memory : (g : Given) → was g → IsErrOf result write_error.Memory → is g
      × (new.files ≡ old.files)
  pub makes : (g : Given) → was g → Makes (puts_into g.name (channel_puts g c)) old new result
  pub left : (g : Given) → was g → g.closed ≡ [] → g.gathered ≡ [] → IsLeft g old.files
      → OnOk result (IsLeft (with_channel g c) new.files)
  pub causes : HasWriteCauses (IsErrOf result write_error.Failed) old new

-- A message was left out for want of memory: what was given before stays given, and its file is
-- left so.
pub record LeavesOut (is : Given → Type 0) (before after : Given)
    (old new : StoreView) : Type 0 where
  pub given : is after
  pub left : IsLeft before old.files → IsLeft after new.files

-- A message is taken, and stands in the chunk that is kept or, where that doesn't take it, in the
-- next one. Without memory it is left out, whether or not the chunk that was kept is put by then.
pub record TakesMessage {T : Type 0} (was is : Given → Type 0) (channel time : ℕ) (content : List ℕ)
    (old new : StoreView)
    (result : Result T WriteError) : Type 0 where
  pub given : (g : Given) (c : Channel) → was g → slice_get g.channels channel ≡ Some c
      → OnOk result (is (with_message g (message_on c time content)))
  pub memory : (g : Given) → was g → IsErrOf result write_error.Memory
      → LeavesOut is g g old new ⊎ LeavesOut is g (with_chunk g) old new
  pub makes : (g : Given) (c : Channel) → was g → slice_get g.channels channel ≡ Some c
      → Makes (puts_into g.name (message_puts g (message_on c time content))) old new result
  pub left : (g : Given) (c : Channel) → was g → slice_get g.channels channel ≡ Some c
      → IsLeft g old.files
      → OnOk result (IsLeft (with_message g (message_on c time content)) new.files)
  pub causes : HasWriteCauses (IsErrOf result write_error.Failed) old new

-- The last chunk, the index and the complete header are put: the file then is the text of what was
-- given.
pub record Closes {T : Type 0} (was : Given → Type 0) (old new : StoreView)
    (result : Result T WriteError) : Type 0 where
  pub makes : (g : Given) → was g → Makes (puts_into g.name (close_puts g)) old new result
  pub text : (g : Given) → was g → IsLeft g old.files
      → OnOk result (Holds new.files g.name (IsTextOf g))
  pub causes : HasWriteCauses (IsErrOf result write_error.Failed) old new

-- A broken writer answers Broken, and nothing else does; it puts nothing.
pub record IsRefusedBroken {T : Type 0} (w : RecordWriter) (old new : StoreView)
    (result : Result T WriteError) : Type 0 where
  pub broken : IsErrOf result write_error.Broken → IsBroken w
  pub refuses : IsBroken w → IsErrOf result write_error.Broken
  pub untouched : IsBroken w → new ≡ old

-- What a call leaves of the writer: it is broken exactly where it was or where the call answered
-- Failed, and may go on with the channels that it has.
pub record GoesOn {T : Type 0} (w v : RecordWriter) (old new : StoreView)
    (result : Result T WriteError) : Type 0 where
  pub there : IsThere v new.files
  pub channels : (n : ℕ) → HasChannel w n → HasChannel v n
  pub breaks : IsErrOf result write_error.Failed → IsBroken v
  pub stays_broken : IsBroken w → IsBroken v
  pub stays_whole : IsBroken v → (IsErrOf result write_error.Failed → ⊥) → IsBroken w
  pub refused : IsRefusedBroken w old new result
