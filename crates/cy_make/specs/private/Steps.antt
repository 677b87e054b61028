-- Single steps of writing the record.
use Rattle.std.specs.Prelude.{ℕ, zero, suc, ◌+◌, ◌-◌, ◌%◌, ◌==◌, ◌≤◌, if◌then◌else◌, List, []}
use Rattle.std.specs.Prelude.{◌∷◌}
use Rattle.cy_wire.specs.Wire.{whole_content}
use Rattle.cy_writer.specs.Messages.{Message, Giving}
use Rattle.cy_make.specs.declared.messages.MadeMessages.{MadeMessages}
use Rattle.cy_make.specs.Messages.{value_of, time_of}

-- A message with the number of its channel, and so many of them behind the first k.
abbrev pub number_on : ℕ → ℕ
number_on k = if k % 3 == 0 then 1 else 0

abbrev pub given_of : ℕ → Message
given_of k = record {
  channel = number_on k;
  time = time_of k;
  content = whole_content (value_of k);
}

abbrev pub given_after : ℕ → ℕ → List Message
given_after k zero = []
given_after k (suc n) = given_of (k + 1) ∷ given_after (k + 1) n

-- What the messages show while they are given.
abbrev pub giving_of : MadeMessages → Giving
giving_of m = record { content = m.content; rest = given_after m.given (m.last - m.given) }

-- Not more were given than there are.
pub record CanGoOn (m : MadeMessages) : Type 0 where
  pub within : m.given ≤ m.last
  pub few : m.last ≤ 1048576
