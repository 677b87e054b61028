-- Single steps of writing messages that are kept.
use Rattle.std.specs.Prelude.{ℕ, ◌≡◌, ◌≤◌, ◌<◌, ◌+◌, ◌^◌, ◌==◌, true, List, Some}
use Rattle.std.specs.Prelude.{length, map, slice_get, unwrap_or, Result, IfOk, IsErrOf}
use Rattle.std.specs.List.{list_any, position}
use Rattle.cy_store.specs.Store.{StoreView, HasWriteCauses}
use Rattle.cy_reader.specs.Record.{Message}
use Rattle.cy_writer.specs.Messages as given
use Rattle.cy_writer.specs.Messages.{Giving}
use Rattle.cy_writer.specs.Order.{numbers_after}
use Rattle.cy_writer.specs.Writes.{Makes}
use Rattle.cy_writer.specs.declared.error.WriteError.{WriteError}
use Rattle.cy_writer.specs.declared.error.WriteError.TheVariants as write_error
use Rattle.cy_tools.specs.declared.kept.Kept.{Kept}
use Rattle.cy_tools.specs.declared.messages.KeptMessages.{KeptMessages}
use Rattle.cy_tools.specs.declared.numbering.Numbering.{Numbering}
use Rattle.cy_tools.specs.Kept.{numbers_of, kept_writes}
use Rattle.cy_tools.specs.Tools.{Tool}
use Rattle.cy_tools.specs.private.Keeping.{IsReady, all_kept, kept_from}

-- The numbers of the channels of the messages from a place on that are kept, behind known ones.
abbrev pub numbers_from : Kept → List ℕ → ℕ → List ℕ
numbers_from k known place =
    numbers_after known (map (λ (m : Message). m.channel) (kept_from k place))

-- The message at a place can be looked at: the channels are those of the record, no more messages
-- were counted than stand before it, and the next place has a number of 32 bits.
pub record CanLook (k : Kept) (place : ℕ) (n : Numbering) : Type 0 where
  pub all : n.order.all ≡ length k.loaded.channels
  pub few : n.count ≤ place
  pub countable : place + 1 < 2 ^ 32

-- The message at a place was looked at: what is noted by then and what is still to come are
-- together what they were before.
pub record LooksAt (k : Kept) (place : ℕ) (old new : Numbering) : Type 0 where
  pub numbers : numbers_from k new.order.numbers (place + 1)
      ≡ numbers_from k old.order.numbers place
  pub all : new.order.all ≡ old.order.all
  pub count : new.count + length (kept_from k (place + 1))
      ≡ old.count + length (kept_from k place)
  pub few : new.count ≤ old.count + 1

-- The numbers of the channels of all messages that are kept, and their number.
pub record IsNumbering (k : Kept) (n : Numbering) : Type 0 where
  pub numbers : n.order.numbers ≡ numbers_of (all_kept k)
  pub count : n.count ≡ length (all_kept k)

-- The channel of each message stands in an order.
abbrev pub ArePlaced : List ℕ → List Message → Type 0
ArePlaced order messages = (n : ℕ) (m : Message) → slice_get messages n ≡ Some m
    → list_any (λ other. m.channel == other) order ≡ true

-- A message with the number that its channel has in that order.
abbrev pub given_of : List ℕ → Message → given.Message
given_of order m = record {
  channel = unwrap_or (position (λ other. m.channel == other) order) 0;
  time = m.time;
  content = m.content;
}

-- What the messages show while they are given.
abbrev pub giving_of : KeptMessages → Giving
giving_of m = record {
  content = m.content.now;
  rest = map (given_of m.order.now.numbers) (kept_from m.kept.now m.place);
}

-- Those that are still to come can be given.
pub record CanGoOn (m : KeptMessages) : Type 0 where
  pub ready : IsReady m.kept.now
  pub placed : ArePlaced m.order.now.numbers (kept_from m.kept.now m.place)

-- What writing the messages that are kept comes to, with the writes of their record and how many
-- they are.
pub record WritesKept (name : List ℕ) (k : Kept) (old new : StoreView)
    (result : Result ℕ WriteError) : Type 0 where
  pub makes : Makes (kept_writes name k.loaded (all_kept k)) old new result
  pub count : IfOk result (λ n. n ≡ length (all_kept k))
  pub unbroken : IsErrOf result write_error.Broken → ⊥
  pub causes : HasWriteCauses (IsErrOf result write_error.Failed) old new

-- The same of a tool, for what was read.
pub record DoesWork {A T : Type 0} (tool : Tool A T) (to : List ℕ) (x : A) (old new : StoreView)
    (result : Result T WriteError) : Type 0 where
  pub makes : Makes (kept_writes to (tool.met x) (tool.kept x)) old new result
  pub tells : IfOk result (λ told. told ≡ tool.tells x)
  pub unbroken : IsErrOf result write_error.Broken → ⊥
  pub causes : HasWriteCauses (IsErrOf result write_error.Failed) old new
