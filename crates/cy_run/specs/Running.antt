-- What a run needs, and how its workers come and go.
use Rattle.std.specs.Prelude.{ℕ, ◌+◌, ◌≡◌, ◌≤◌, ◌<◌, List, [], ◌∷◌, ◌++◌, All, length, map}
use Rattle.std.specs.Prelude.{replicate}
use Rattle.cy_msg.specs.declared.token.Token.{Token}
use Rattle.cy_msg.specs.declared.placement.ContextPlan.{ContextPlan}
use Rattle.cy_comp.specs.declared.plan.Plan.{Plan}
use Rattle.wake_core.specs.Plain.{Plain}
use Rattle.wake_core.specs.Run.{routes_of}
use Rattle.wake_core.specs.Rest.{MayPlay}
use Rattle.cy_table.specs.declared.pass.Pass.{Pass}
use Rattle.cy_table.specs.declared.table.FlagTable.{FlagTable}
use Rattle.cy_table.specs.Steps.{splitting}
use Rattle.cy_table.specs.Calls.{seat_of}
use Rattle.cy_run.specs.declared.crew.Worker.{Worker}
use Rattle.cy_run.specs.Passes.{IsFree}
use Rattle.cy_run.specs.Playing.{IsFreePlayer}

-- A world was made for these components and this list, nothing has happened in it, and the scan has
-- each component and no other number.
pub record MayRun (w : Plain) (plans : List Plan) (tokens : List Token) (scan : List ℕ) : Type 0
  where
    pub wired : w.routes ≡ routes_of plans
    pub play : MayPlay w tokens scan

-- The orders of contexts.
abbrev pub orders_of : List ContextPlan → List (List ℕ)
orders_of plans = map (λ plan. plan.order) plans

-- The player's pass, with no other one split off.
pub record IsAlone (t : FlagTable) (p : Pass) : Type 0 where
  pub mine : IsFreePlayer t p
  pub alone : (seat_of p).split ≡ 0

-- A pass with nothing in hand was split off the player, who is as before but for that; and one was
-- taken in again.
pub record IsHiredBy (t : FlagTable) (p q w : Pass) : Type 0 where
  pub mine : IsFreePlayer t q
  pub seat : seat_of q ≡ splitting (seat_of p)
  pub free : IsFree t w

pub record IsDismissed (t : FlagTable) (p q : Pass) : Type 0 where
  pub mine : IsFreePlayer t q
  pub split : (seat_of p).split ≡ (seat_of q).split + 1
  pub played : (seat_of q).played ≡ (seat_of p).played
  pub clock : (seat_of q).clock ≡ (seat_of p).clock
  pub raised : (seat_of q).raised ≡ (seat_of p).raised

-- A worker with one of so many contexts and one of so many parkers.
pub record IsHired (t : FlagTable) (contexts parkers : ℕ) (w : Worker) : Type 0 where
  pub free : IsFree t w.pass
  pub plan : w.plan < contexts
  pub me : w.me < parkers

-- So many workers were split off the player, who is as before but for that.
pub record IsCrew (t : FlagTable) (contexts parkers : ℕ) (p q : Pass) (crew : List Worker) : Type 0
  where
    pub mine : IsFreePlayer t q
    pub same : seat_of q ≡ record (seat_of p) { split = length crew }
    pub few : length crew ≤ parkers
    pub hired : All (IsHired t contexts parkers) crew

-- The context of each worker, in order: each context as often as it asks for processors.
abbrev pub posts_from : (first : ℕ) → List ContextPlan → List ℕ
posts_from n [] = []
posts_from n (plan ∷ rest) = replicate plan.processors n ++ posts_from (n + 1) rest

abbrev pub plans_of : List Worker → List ℕ
plans_of crew = map (λ w. w.plan) crew

-- All were taken in again.
pub record IsMustered (t : FlagTable) (p q : Pass) : Type 0 where
  pub alone : IsAlone t q
  pub played : (seat_of q).played ≡ (seat_of p).played
  pub clock : (seat_of q).clock ≡ (seat_of p).clock
  pub raised : (seat_of q).raised ≡ (seat_of p).raised
