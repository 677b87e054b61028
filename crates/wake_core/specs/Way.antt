-- The way of a play: what leads from one world to another, and what holds at each world between.
use Rattle.std.specs.Prelude.{ℕ, ◌≡◌, length}
use Rattle.wake_core.specs.Plain.{Plain, Phase, hand, opening_world}
use Rattle.wake_core.specs.Laws.{Event, Events, AgreesWithin, SaysNothing}
use Rattle.wake_core.specs.LawfulRun.{Lost}
use Rattle.wake_core.specs.Rest.{IsAtRest, at_rest}
use Rattle.wake_core.specs.Sound.{Sound}

-- Nobody has or owes anything, and all threads are replaced: the world says the same of the
-- components then.
pub record Replaces (w v : Plain) : Type 0 where
  pub idle : IsAtRest w
  pub same : AgreesWithin (at_rest w) v
  pub nothing : SaysNothing (length w.routes) v

-- From one world to another: one event after another, and threads that are replaced.
pub data Leads : Plain → Plain → Type 0 where
  ended : {w : Plain} → Leads w w
  happens : {w m v : Plain} → Event w m → Leads m v → Leads w v
  anew : {w m v : Plain} → Replaces w m → Leads m v → Leads w v

-- No croutine has two holders, and none is lost.
pub record IsSafe (w : Plain) : Type 0 where
  pub one_holder : (c p q : ℕ) (f g : Phase) → w.hands p ≡ hand c f → w.hands q ≡ hand c g → p ≡ q
  pub none_lost : (c : ℕ) → Lost w c → ⊥

-- A play led from one world to another: there is a way, and each world on such a way is safe.
pub record IsLed (from to : Plain) : Type 0 where
  pub way : Leads from to
  pub always : (w : Plain) → Leads from w → Leads w to → IsSafe w

-- A play led to this world from the one in which nothing had happened.
abbrev pub IsLedTo : Plain → Type 0
IsLedTo w = IsLed (opening_world w.routes w.counts w.stop) w

-- Each way keeps all that holds of a world, and leads on; and from a world of which it holds, each
-- world on it is safe.
pub record WayLaws : Type 0 where
  pub events : (w v : Plain) → Events w v → Leads w v
  pub onward : (w m v : Plain) → Leads w m → Leads m v → Leads w v
  pub sound : (w v : Plain) → Leads w v → Sound w → Sound v
  pub led : (w v : Plain) → Leads w v → Sound w → IsLed w v
