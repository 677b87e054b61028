-- What a reader of messages answers.
use Rattle.std.specs.Prelude.{◌≡◌, Option, Some, None, Result, Ok, Err}
use Rattle.cy_section.specs.declared.error.SectionError.{SectionError}
use Rattle.cy_section.specs.declared.body.MessageView.{MessageView}
use Rattle.cy_section.specs.Reading.{PlacedMessage, Messages, no_message, with_message}

-- A message of the program, without where its bytes lie in memory.
abbrev pub seen : MessageView → PlacedMessage
seen m = record {
  message = record { channel_name = m.channel_name.now; time = m.time; content = m.content.now };
  content_at = m.content_at;
}

-- The next message was answered, and those behind it are left; or there was none; or the fault that
-- ends them.
abbrev pub TakesMessage : Result (Option MessageView) SectionError → Messages → Messages → Type 0
TakesMessage (Ok None) old new = old ≡ no_message None
TakesMessage (Ok (Some message)) old new = old ≡ with_message (seen message) new
TakesMessage (Err fault) old new = old ≡ no_message (Some fault)
