-- The messages of the record that is made, and its channels.
use Rattle.std.specs.Prelude.{ℕ, zero, suc, ◌+◌, ◌*◌, ◌%◌, ◌==◌, nat_lt, ℤ, pos, ◌-ℤ◌}
use Rattle.std.specs.Prelude.{if◌then◌else◌, List, [], ◌∷◌, codes}
use Rattle.cy_wire.specs.Wire.{whole_content}
use Rattle.cy_section.specs.declared.types.Channel.{Channel}
use Rattle.cy_section.specs.declared.types.BodyMessage.{BodyMessage}

-- The value of the message of a number: at most 1000 from 0, up and down with no short period.
unfoldable pub value_of : ℕ → ℤ
value_of k = pos ((7 * k * k + 13 * k) % 2001) -ℤ pos 1000

-- Each third message stands on /b and the others on /a, and each comes a millisecond behind the
-- one before. Its content is the written form of its value.
abbrev pub channel_on : ℕ → List ℕ
channel_on k = if k % 3 == 0 then codes "/b" else codes "/a"

abbrev pub time_of : ℕ → ℕ
time_of k = 1000000 * k

abbrev pub message_of : ℕ → BodyMessage
message_of k = record {
  channel_name = channel_on k;
  time = time_of k;
  content = whole_content (value_of k);
}

-- So many messages behind the first k; and the messages 1 to n.
abbrev pub messages_after : ℕ → ℕ → List BodyMessage
messages_after k zero = []
messages_after k (suc n) = message_of (k + 1) ∷ messages_after (k + 1) n

abbrev pub messages_to : ℕ → List BodyMessage
messages_to n = messages_after 0 n

-- The channels of a record of n messages, of which there is at least one, in the order of their
-- first messages: the third one is the first on /b. They have no types.
abbrev pub untyped : List ℕ → Channel
untyped name = record { name = name; message_type = []; proto_desc = [] }

abbrev pub channels_of : ℕ → List Channel
channels_of n = untyped (codes "/a") ∷ (if nat_lt n 3 then [] else untyped (codes "/b") ∷ [])
