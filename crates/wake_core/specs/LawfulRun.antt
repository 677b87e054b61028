-- Lost croutines, and runs that have come to their end.
use Rattle.std.specs.Prelude.{ℕ, ◌≡◌, ◌≢◌, ◌<◌, ◌⊎◌, true, List, length, Option, None}
use Rattle.cy_msg.specs.declared.token.Token.{Token}
use Rattle.wake_core.specs.Run.{Route, played_of}
use Rattle.wake_core.specs.Serial.{last_clock}
use Rattle.wake_core.specs.Plain.{Plain, Stop, DataWait, Finished, found_by, played_count, to_play}
use Rattle.wake_core.specs.Events.{IsFree, OwesNothing, IsRaised}
use Rattle.wake_core.specs.Sound.{Sound, Unnotified}

-- A croutine is lost: it is free, in DATA_WAIT and spent, a fetch would find something, and nobody
-- is about to tell it.
pub record Lost (w : Plain) (c : ℕ) : Type 0 where
  pub free : IsFree w.hands c
  pub waits : w.states c ≡ DataWait
  pub spent : w.spent c ≡ true
  pub unfetched : found_by w c ≢ None
  pub untold : Unnotified w.news w.clearing c

-- A run has come to its end: all is played, the stop is raised where one is given, nothing is held
-- or owed, the clock is at its greatest value, each flag is spent, and each croutine is finished,
-- or waits and would find nothing.
pub record Quiet (w : Plain) : Type 0 where
  pub played : played_count w ≡ to_play w
  pub raised : IsRaised w
  pub free : (p : ℕ) → w.hands p ≡ None
  pub owes : (p : ℕ) → OwesNothing p w
  pub clock : w.clock ≡ last_clock
  pub spent : (c : ℕ) → c < length w.routes → w.spent c ≡ true
  pub ends : (c : ℕ) → c < length w.routes
      → (w.states c ≡ Finished) ⊎ ((w.states c ≡ DataWait) × (found_by w c ≡ None))

-- A world is what a lawful run of these messages over these components, with this stop or none, has
-- come to.
pub record LawfulRun (tokens : List Token) (routes : List Route) (stop : Option Stop) (w : Plain)
    : Type 0 where
  pub wired : w.routes ≡ routes
  pub given : w.stop ≡ stop
  pub sound : Sound w
  pub quiet : Quiet w
  pub exact : played_of w.routes w.tape ≡ tokens
