-- How a message that was taped goes to its readers.
use Rattle.std.specs.Prelude.{ℕ, ◌+◌, ◌==◌, ◌≡◌, if◌then◌else◌, Bool, false, List, [], ◌∷◌, ◌++◌}
use Rattle.std.specs.Prelude.{drop, slice_get, Some, None}
use Rattle.cy_msg.specs.declared.token.Token.{Token}
use Rattle.wake_core.specs.declared.route.Route.{Route}
use Rattle.wake_core.specs.Run.{readers_of, readers_from, roles_of}
use Rattle.cy_table.specs.declared.pass.Pass.{Pass}
use Rattle.cy_table.specs.declared.table.FlagTable.{FlagTable}
use Rattle.cy_table.specs.Seats.{Seat}
use Rattle.cy_table.specs.Steps.{filling}
use Rattle.cy_table.specs.Calls.{made_of, seat_of, thread_of, knowing, Stays}
use Rattle.cy_run.specs.Passes.{IsSeated}

-- The pass taped a message, and owes it to the readers of its channel.
pub record Owes (t : FlagTable) (token : Token) (p : Pass) : Type 0 where
  pub seated : IsSeated t p
  pub message : (seat_of p).token ≡ token
  pub fills : (seat_of p).fills ≡ readers_of (made_of t).routes token.channel
  pub news : (seat_of p).news ≡ []
  pub clearing : (seat_of p).clearing ≡ []

-- All of them were filled, and those that it triggers were looked at.
abbrev pub delivered : Seat → Seat
delivered v = record v { visit = None; fills = []; news = [] }

-- These readers are filled, one after another.
abbrev pub filled_all : List (ℕ × ℕ) → Seat → Seat
filled_all [] v = v
filled_all (r ∷ rest) v = filled_all rest (filling v r.0 r.1 rest)

-- The components that a message triggers when it comes to these readers.
abbrev pub triggered : List (ℕ × ℕ) → List ℕ
triggered [] = []
triggered (r ∷ rest) = if r.1 == 0 then r.0 ∷ triggered rest else triggered rest

-- The readers of a channel from a component on, and from a role of that component on; and the
-- components that it triggers from one on.
abbrev pub fills_at : List Route → (channel component : ℕ) → List (ℕ × ℕ)
fills_at routes channel c = readers_from channel c (drop c routes)

abbrev pub fills_in : List Route → (channel component role : ℕ) → List ℕ → List (ℕ × ℕ)
fills_in routes channel c j readers =
    roles_of channel c j (drop j readers) ++ fills_at routes channel (c + 1)

abbrev pub news_at : List Route → (channel component : ℕ) → List ℕ
news_at routes channel c = triggered (fills_at routes channel c)

-- Whether a channel is that of the first reader.
abbrev pub is_first : (channel : ℕ) → List ℕ → Bool
is_first channel [] = false
is_first channel (r ∷ rest) = r == channel

-- A component's readers.
pub record IsReadBy (t : FlagTable) (c : ℕ) (readers : List ℕ) : Type 0 where
  pub route : Route
  pub at : slice_get (made_of t).routes c ≡ Some route
  pub readers_are : route.readers ≡ readers

-- A pass that has a message to fill readers with; and one that filled some of them, while the rest
-- comes to what all come to.
pub record Fills (t : FlagTable) (token : Token) (p : Pass) : Type 0 where
  pub seated : IsSeated t p
  pub message : (seat_of p).token ≡ token

pub record FillsOn (t : FlagTable) (token : Token) (p q : Pass) : Type 0 where
  pub stays : Stays t p q
  pub fills : Fills t token q
  pub out : (thread_of q).1 ≡ (thread_of p).1
  pub onward : filled_all (seat_of q).fills (seat_of q) ≡ filled_all (seat_of p).fills (seat_of p)

-- A pass that has filled all readers of a message; and one that looked at some of its news.
pub record Tells (t : FlagTable) (p : Pass) : Type 0 where
  pub seated : IsSeated t p
  pub filled : (seat_of p).fills ≡ []

pub record TellsOn (t : FlagTable) (p q : Pass) : Type 0 where
  pub stays : Stays t p q
  pub thread : thread_of q ≡ knowing p (record (seat_of p) { news = (seat_of q).news })
