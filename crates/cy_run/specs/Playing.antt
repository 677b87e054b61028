-- What the player does.
use Rattle.std.specs.Prelude.{ℕ, ◌+◌, ◌≡◌, ◌≤◌, nat_lt, true, false, List, [], ◌∷◌, ◌++◌, length}
use Rattle.std.specs.Prelude.{map, slice_get, slice_index, take, Some, None}
use Rattle.cy_msg.specs.declared.stop.Stop.{Stop}
use Rattle.cy_msg.specs.declared.token.Token.{Token}
use Rattle.cy_msg.specs.Tokens.{on_channel}
use Rattle.wake_core.specs.Run.{writes_from}
use Rattle.wake_core.specs.Fields.{IsWithin}
use Rattle.wake_core.specs.Rest.{IsToPlay}
use Rattle.wake_core.specs.Serial.{last_clock}
use Rattle.cy_table.specs.declared.pass.Pass.{Pass}
use Rattle.cy_table.specs.declared.table.FlagTable.{FlagTable}
use Rattle.cy_table.specs.Seats.{Seat, Entry}
use Rattle.cy_table.specs.Seats.Entry.{Clock, Closing}
use Rattle.cy_table.specs.Steps.{HasRaised}
use Rattle.cy_table.specs.Calls.{made_of, seat_of, pass_number}
use Rattle.cy_run.specs.Passes.{IsFree}

-- The player's pass, with nothing in hand and nothing owed.
pub record IsFreePlayer (t : FlagTable) (p : Pass) : Type 0 where
  pub free : IsFree t p
  pub player : pass_number p ≡ 0

-- A message may come next on the tape, once the clock is set to its time: the stop is raised where
-- as many messages were played as it says.
pub record IsNextFor (v : Seat) (token : Token) : Type 0 where
  pub later : v.clock ≤ token.time
  pub unwritten : writes_from 0 v.routes token.channel ≡ None
  pub next : token.seq ≡ length (on_channel token.channel v.played) + 1
  pub within : token.seq ≤ slice_index v.counts token.channel
  pub raised : (s : Stop) → v.stop ≡ Some s → length v.played ≡ s.after → v.raised ≡ true

-- The stop is raised just where fewer messages than so many are played before it.
abbrev pub IsRaisedBefore : ℕ → Seat → Type 0
IsRaisedBefore n v = (s : Stop) → v.stop ≡ Some s → v.raised ≡ nat_lt s.after n

-- It was played.
abbrev pub after_play : Seat → Token → Seat
after_play v token = record v {
  visit = None;
  tape = None;
  fills = [];
  news = [];
  token = token;
  played = v.played ++ token ∷ [];
  clock = token.time;
  note = v.note ++ Clock token.time ∷ [];
}

-- The table's world was made for this list and is at its beginning, for all that the player knows.
-- Its stop, where one is given, is raised at the latest behind the last message.
pub record IsToBePlayed (t : FlagTable) (tokens : List Token) (p : Pass) : Type 0 where
  pub mine : IsFreePlayer t p
  pub made : IsToPlay (made_of t) tokens
  pub within : IsWithin (made_of t).routes (made_of t).counts (made_of t).stop
  pub unraised : (seat_of p).raised ≡ false
  pub none_played : (seat_of p).played ≡ []
  pub start : (seat_of p).clock ≡ 0

-- The clock comes to its greatest value, and then the player says that all was played.
abbrev pub after_end : Seat → Seat
after_end v = record v {
  clock = last_clock;
  closing = true;
  note = v.note ++ Clock last_clock ∷ Closing true ∷ [];
}

-- What the player notes of the clock while it plays these messages.
abbrev pub clocks_of : List Token → List Entry
clocks_of tokens = map (λ (token : Token). Clock token.time) tokens

-- The list was played: just its messages, in order; the clock is at its greatest value; and the
-- player said that all was played, once the stop was raised where one is given. It set the clock to
-- the time of each message in turn, then to its greatest value, and behind that it closed.
pub record IsPlayed (t : FlagTable) (tokens : List Token) (p q : Pass) : Type 0 where
  pub mine : IsFreePlayer t q
  pub exact : (seat_of q).played ≡ tokens
  pub clock : (seat_of q).clock ≡ last_clock
  pub closed : (seat_of q).closing ≡ true
  pub raised : HasRaised (seat_of q)
  pub noted : (seat_of q).note
      ≡ (seat_of p).note ++ (clocks_of tokens ++ Clock last_clock ∷ Closing true ∷ [])
  pub split : (seat_of q).split ≡ (seat_of p).split

-- So many messages of the list were played.
pub record PlaysOn (t : FlagTable) (tokens : List Token) (n : ℕ) (p q : Pass) : Type 0 where
  pub mine : IsFreePlayer t q
  pub played : (seat_of q).played ≡ take n tokens
  pub noted : (seat_of q).note ≡ (seat_of p).note ++ clocks_of (take n tokens)
  pub split : (seat_of q).split ≡ (seat_of p).split
  pub bound : (seat_of q).clock ≤ last_clock
  pub clock : (token : Token) → slice_get tokens n ≡ Some token → (seat_of q).clock ≤ token.time
