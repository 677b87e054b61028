-- Single steps of writing the record of a tape.
use Rattle.std.specs.Prelude.{ℕ, ◌≡◌, ◌==◌, true, List, Some, map, slice_get, unwrap_or}
use Rattle.std.specs.Prelude.{option_copied}
use Rattle.std.specs.List.{list_any, position}
use Rattle.cy_msg.specs.declared.token.Token.{Token}
use Rattle.cy_writer.specs.Messages.{Message, Giving}
use Rattle.cy_recording.specs.Recording.{Source, source_of, content_of, IsWritable}
use Rattle.cy_recording.specs.declared.recording.tape_messages.TapeMessages.{TapeMessages}

-- The channel of each message stands in an order.
abbrev pub ArePlaced : List ℕ → List Token → Type 0
ArePlaced order tape = (n : ℕ) (t : Token) → slice_get tape n ≡ Some t
    → list_any (λ other. t.channel == other) order ≡ true

-- A message of a tape, with the number that its channel has in that order.
abbrev pub given_of : Source → List ℕ → Token → Message
given_of s order t = record {
  channel = unwrap_or (position (λ other. t.channel == other) order) 0;
  time = t.time;
  content = content_of s t;
}

abbrev pub all_given : Source → List ℕ → List Token → List Message
all_given s order tape = map (given_of s order) tape

-- What the messages of a tape show while they are given.
abbrev pub giving_of : TapeMessages → Giving
giving_of m = record {
  content = unwrap_or (option_copied m.lent) m.made;
  rest = all_given (source_of m.played.now) m.order.now.numbers m.rest.now;
}

-- Those that are still to come can be given.
pub record CanGoOn (m : TapeMessages) : Type 0 where
  pub placed : ArePlaced m.order.now.numbers m.rest.now
  pub writable : IsWritable (source_of m.played.now) m.rest.now
