-- What a run has come to, as its components and channels show it: no flags, states, phases or
-- threads.
use Rattle.std.specs.Prelude.{ℕ, ◌+◌, ◌==◌, if◌then◌else◌, Bool, false, List, [], ◌∷◌, ◌++◌, length}
use Rattle.std.specs.Prelude.{map, Option, filter, is_some, not}
use Rattle.cy_msg.specs.declared.token.Token.{Token}
use Rattle.cy_fuse.specs.Fusion.{Arrival, fused}
use Rattle.cy_fuse.specs.Fetch.{fetch}
use Rattle.cy_comp.specs.declared.call.Call.{Call}
use Rattle.cy_comp.specs.declared.plan.Plan.{Plan}
use Rattle.cy_comp.specs.Wiring.{writer_from}
use Rattle.cy_comp.specs.Calls.{cursor_after}
pub use Rattle.wake_core.specs.declared.route.Route.{Route}

-- What a run needs of a component of a wiring.
abbrev pub route_of : Plan → Route
route_of p = record {
  kind = p.kind;
  readers = p.readers;
  queue = p.queue;
  overflow = p.overflow;
  out = p.out;
}

abbrev pub routes_of : List Plan → List Route
routes_of plans = map route_of plans

-- Of each component, by its number: what arrived, its calls, whether its last output waits to be
-- sent, and whether it has ended: it is not resumed any more. Of all: the messages in the order in
-- which they were sent, and the clock.
pub record Run : Type 0 where
  pub arrivals : ℕ → List Arrival
  pub calls : ℕ → List Call
  pub unsent : ℕ → Bool
  pub ended : ℕ → Bool
  pub tape : List Token
  pub clock : ℕ

-- Before anything is played.
abbrev pub opening : Run
opening = record {
  arrivals = λ c. [];
  calls = λ c. [];
  unsent = λ c. false;
  ended = λ c. false;
  tape = [];
  clock = 0;
}

-- The same but at one place.
unfoldable pub set_at : {X : Type 0} → ℕ → X → (ℕ → X) → ℕ → X
set_at i x f k = if k == i then x else f k

-- The roles in which a component reads a channel, as pairs of the component and the role.
abbrev pub roles_of : (channel component role : ℕ) → List ℕ → List (ℕ × ℕ)
roles_of channel component role [] = []
roles_of channel component role (r ∷ rest) =
    if r == channel then (component, role)
    ∷ roles_of channel component (role + 1) rest else roles_of channel component (role + 1) rest

abbrev pub readers_from : (channel component : ℕ) → List Route → List (ℕ × ℕ)
readers_from channel component [] = []
readers_from channel component (x ∷ rest) = roles_of channel component 0 x.readers
    ++ readers_from channel (component + 1) rest

-- The readers of a channel, in the order of the components.
abbrev pub readers_of : List Route → ℕ → List (ℕ × ℕ)
readers_of routes channel = readers_from channel 0 routes

-- A message arrives at each of these readers.
abbrev pub arrive : List (ℕ × ℕ) → Token → (ℕ → List Arrival) → ℕ → List Arrival
arrive [] t at = at
arrive (r ∷ rest) t at = arrive rest t (set_at r.0 (at r.0 ++ (r.1, t) ∷ []) at)

-- A message is sent: it stands on the tape and arrives at each reader of its channel.
abbrev pub put : List Route → Token → Run → Run
put routes t w = record w {
  tape = w.tape ++ t
      ∷ [];
  arrivals = arrive (readers_of routes t.channel) t w.arrivals;
}

-- How many tuples were fused at a component.
abbrev pub tail_of : Route → Run → ℕ → ℕ
tail_of x w c = length (fused (w.arrivals c) (length x.readers))

-- The position that a fetch by a component finds.
abbrev pub finds : Route → Run → ℕ → Option ℕ
finds x w c = fetch (cursor_after (w.calls c)) (tail_of x w c) x.queue x.overflow

-- The component that writes a channel, where one does.
abbrev pub writes_from : ℕ → List Route → ℕ → Option ℕ
writes_from component routes channel = writer_from (λ (x : Route). x.out) component routes channel

-- The played messages of a tape: those on channels that no component writes.
abbrev pub played_of : List Route → List Token → List Token
played_of routes tape = filter (λ t. not (is_some (writes_from 0 routes t.channel))) tape
