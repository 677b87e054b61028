-- Messages for a record, as they are given one after another.
use Rattle.std.specs.Prelude.{ℕ, ◌≡◌, ◌∷◌, [], List, Option, None, Some, Result, IfOk, OnErr}
use Rattle.std.specs.Prelude.{IsOkUnless}
use Rattle.cy_writer.specs.declared.error.WriteError.{WriteError}
use Rattle.cy_writer.specs.declared.error.WriteError.TheVariants as write_error
use Rattle.cy_writer.specs.declared.messages.Stamp.{Stamp}

-- A message as it is given: the number of its channel, its time and its content.
pub record Message : Type 0 where
  pub channel : ℕ
  pub time : ℕ
  pub content : List ℕ

-- The content of the message that was given last, and the messages that are still to come.
pub record Giving : Type 0 where
  pub content : List ℕ
  pub rest : List Message

-- The next message is given, and its content is at hand; or none is, where none is left.
abbrev pub Gives : Giving → Giving → Option Stamp → Type 0
Gives old new None = (old.rest ≡ []) × (new.rest ≡ [])
Gives old new (Some stamp) = old.rest
    ≡ record { channel = stamp.channel; time = stamp.time; content = new.content } ∷ new.rest

-- What `next` answers. Without memory, its only error, it passes no message over.
pub record NextAnswer (old new : Giving) (result : Result (Option Stamp) WriteError) : Type 0 where
  pub gives : IfOk result (Gives old new)
  pub stays : OnErr result (new.rest ≡ old.rest)
  pub only_memory : IsOkUnless result write_error.Memory
