-- Laws of places and of numbers: where the messages of a world stand, and of how many there can be.
use Rattle.std.specs.Prelude.{ℕ, ◌≡◌, ◌≤◌, ◌<◌, List, length, Some, slice_get}
use Rattle.cy_msg.specs.declared.token.Token.{Token}
use Rattle.cy_msg.specs.declared.token.Tuple.{Tuple}
use Rattle.cy_msg.specs.Tuple.{messages_of}
use Rattle.cy_msg.specs.Tokens.{IsNumbered}
use Rattle.cy_fuse.specs.Fusion.{Arrival, fused}
use Rattle.wake_core.specs.Run.{Route, writes_from}
use Rattle.wake_core.specs.Planned.{planned, planned_count, first_reader}
use Rattle.wake_core.specs.Plain.{Plain}
use Rattle.wake_core.specs.Sound.{StandsOn, Consistent}

-- Each message stands where its number says, on a tape and where it was fused; and who writes a
-- channel is a component.
pub record PlaceLaws : Type 0 where
  pub taped : (tape : List Token) → IsNumbered tape → (n : ℕ) (t : Token)
      → slice_get tape n ≡ Some t → StandsOn tape t
  pub fused_ones : (w : Plain) → Consistent w → (c roles n : ℕ) (tuple : Tuple)
      → slice_get (fused (w.arrivals c) roles) n ≡ Some tuple → (j : ℕ) (m : Token)
      → slice_get (messages_of tuple) j ≡ Some m → StandsOn w.tape m
  pub writer : (routes : List Route) (channel c : ℕ) → writes_from 0 routes channel ≡ Some c
      → (x : Route) × (slice_get routes c ≡ Some x) × (x.out ≡ channel)

-- No more messages stand on the tape, come to a channel, or are fused at a component than are
-- planned, and a tuple has one message of each role.
pub record BoundLaws : Type 0 where
  pub tape : (w : Plain) → Consistent w → length w.tape ≤ planned w.routes w.counts
  pub channel : (routes : List Route) (counts : List ℕ) (channel : ℕ) → channel < length counts
      → planned_count routes counts channel ≤ planned routes counts
  pub trigger : (routes : List Route) (counts : List ℕ) (c : ℕ) (x : Route)
      → slice_get routes c ≡ Some x → planned_count routes counts (first_reader x)
      ≤ planned routes counts
  pub tuples : (w : Plain) (c : ℕ) (x : Route) → slice_get w.routes c ≡ Some x → Consistent w
      → length (fused (w.arrivals c) (length x.readers))
      ≤ planned_count w.routes w.counts (first_reader x)
  pub messages : (roles : ℕ) (arrivals : List Arrival) → 1 ≤ roles → roles ≤ 4 → (n : ℕ)
      (tuple : Tuple) → slice_get (fused arrivals roles) n ≡ Some tuple
      → length (messages_of tuple) ≡ roles
