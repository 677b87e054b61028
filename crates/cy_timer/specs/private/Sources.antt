-- What is still to be played, of the messages and of each timer.
use Rattle.std.specs.Prelude.{ℕ, ◌≡◌, ◌+◌, ◌*◌, ◌<◌, ◌≤◌, ◌^◌, ◌++◌, nat_le, nat_lt, Bool, false}
use Rattle.std.specs.Prelude.{if◌then◌else◌, List, [], ◌∷◌, map, slice_get, slice_index_or}
use Rattle.std.specs.Prelude.{slice_set, Option, Some, None}
use Rattle.std.specs.List.{flat_map, range_with_len}
use Rattle.cy_msg.specs.Tokens.{IsTimed}
use Rattle.cy_msg.specs.declared.token.Token.{Token}
use Rattle.cy_timer.specs.Ticks.{last_time, ticks_at}

-- A number is the first whose multiple of a period isn't before a time.
pub record IsFirst (period begin first : ℕ) : Type 0 where
  pub not_before : begin ≤ first * period
  pub least : (k : ℕ) → k < first → k * period < begin

-- The ticks of a timer that are left: from a multiple of its period on, and from a number on.
abbrev pub ticks_left : (channel period number seq left : ℕ) → List Token
ticks_left channel period number seq left =
    ticks_at channel seq (map (λ k. k * period) (range_with_len number left))

-- The times and numbers of the ticks that are left can be told.
pub record CanTick (period number seq left : ℕ) : Type 0 where
  pub times : (k : ℕ) → k < left → (number + k) * period < 2 ^ 64
  pub numbers : number + left < 2 ^ 64
  pub seqs : seq + left < 2 ^ 32

-- The time of the first of some messages.
abbrev pub first_time : List Token → Option ℕ
first_time [] = None
first_time (t ∷ rest) = Some t.time

-- All that is left of the messages and of each timer's ticks.
abbrev pub all_left : List Token → List (List Token) → List Token
all_left messages ticks = messages ++ flat_map (λ ts. ts) ticks

-- The times of no timer's ticks fall, and neither do those of the messages.
abbrev pub AreTimed : List (List Token) → Type 0
AreTimed ticks = (k : ℕ) (ts : List Token) → slice_get ticks k ≡ Some ts → IsTimed ts

pub record AreRising (messages : List Token) (ticks : List (List Token)) : Type 0 where
  pub of_messages : IsTimed messages
  pub of_ticks : AreTimed ticks

-- Some messages begin by a time.
abbrev pub begin_by : List Token → ℕ → Bool
begin_by [] time = false
begin_by (t ∷ rest) time = nat_le t.time time

-- Ticks begin behind a time, or not before it, if there are any.
abbrev pub BeginBehind : ℕ → List Token → Type 0
BeginBehind time [] = Unit {0}
BeginBehind time (t ∷ rest) = time < t.time

abbrev pub BeginFrom : ℕ → List Token → Type 0
BeginFrom time [] = Unit {0}
BeginFrom time (t ∷ rest) = time ≤ t.time

-- Of the ticks of the first so many timers, those at a place are the first to come, at this time;
-- where more timers tick at that time, it is the first of them. None says that no ticks are left.
pub record IsAt (ticks : List (List Token)) (count place time : ℕ) : Type 0 where
  pub there : place < count
  pub head : first_time (slice_index_or ticks place []) ≡ Some time
  pub before : (k : ℕ) → k < place → BeginBehind time (slice_index_or ticks k [])
  pub all : (k : ℕ) → k < count → BeginFrom time (slice_index_or ticks k [])

abbrev pub IsEarliest : List (List Token) → ℕ → Option (ℕ × ℕ) → Type 0
IsEarliest ticks count None = (k : ℕ) → k < count → slice_index_or ticks k [] ≡ []
IsEarliest ticks count (Some p) = IsAt ticks count p.0 p.1

-- The earlier one of the first ticks so far and those at a place, if they begin at a time: at one
-- time the former.
abbrev pub earlier_of : Option (ℕ × ℕ) → ℕ → Option ℕ → Option (ℕ × ℕ)
earlier_of first place None = first
earlier_of None place (Some time) = Some (place, time)
earlier_of (Some p) place (Some time) = if nat_lt time p.1 then Some (place, time) else Some p

-- The first tick of the timer at a place is taken.
pub record TakesAt (old : List (List Token)) (place : ℕ) (t : Token) (new : List (List Token)) :
    Type 0 where
  pub rest : List Token
  pub at : slice_get old place ≡ Some (t ∷ rest)
  pub left : new ≡ slice_set old place rest

-- The times of the first and the last of some messages.
abbrev pub span_of : List Token → Option (ℕ × ℕ)
span_of [] = None
span_of (t ∷ rest) = Some (t.time, last_time t rest)
