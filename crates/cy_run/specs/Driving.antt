-- A drive of a whole list: what it needs of the player and the processors, and what it leaves.
use Rattle.std.specs.Prelude.{ℕ, ◌≡◌, ◌<◌, List, All, length, slice_index_or, Option}
use Rattle.std.specs.Prelude.{IfSome}
use Rattle.cy_msg.specs.declared.stop.Stop.{Stop}
use Rattle.cy_msg.specs.declared.token.Token.{Token}
use Rattle.cy_comp.specs.declared.plan.Plan.{Plan}
use Rattle.cy_table.specs.declared.pass.Pass.{Pass}
use Rattle.cy_table.specs.declared.table.FlagTable.{FlagTable}
use Rattle.cy_table.specs.Calls.{made_of, seat_of, pass_number}
use Rattle.cy_run.specs.declared.crew.Worker.{Worker}
use Rattle.cy_run.specs.Passes.{IsFree, IsMadeOf}
use Rattle.cy_run.specs.Playing.{IsToBePlayed}
use Rattle.cy_run.specs.Working.{EndsInVain, IsOrderOf}

-- A worker with one of the contexts, one of so many parkers, and a pass with nothing in hand; the
-- contexts have components of the table alone.
pub record IsManned (t : FlagTable) (contexts : List (List ℕ)) (parkers : ℕ) (w : Worker) : Type 0
  where
    pub free : IsFree t w.pass
    pub plan : w.plan < length contexts
    pub me : w.me < parkers
    pub orders : All (IsOrderOf t) contexts

abbrev pub AreManned : FlagTable → List (List ℕ) → (parkers : ℕ) → List Worker → Type 0
AreManned t contexts parkers crew = All (IsManned t contexts parkers) crew

-- A worker whose work is over, for its own context.
pub record HasWorked (t : FlagTable) (contexts : List (List ℕ)) (w u : Worker) : Type 0 where
  pub free : IsFree t u.pass
  pub same : pass_number u.pass ≡ pass_number w.pass
  pub over : (d : List ℕ) → EndsInVain (slice_index_or contexts w.plan d) (seat_of u.pass).note

abbrev pub HaveWorked : FlagTable → List (List ℕ) → (old new : List Worker) → Type 0
HaveWorked t contexts old new = (i : ℕ) (d : Worker) → i < length old
    → HasWorked t contexts (slice_index_or old i d) (slice_index_or new i d)

-- The player's deputy, for contexts that have components of the table alone, is a pass with nothing
-- in hand. There may be none.
pub record IsDeputy (t : FlagTable) (contexts : List (List ℕ)) (p : Pass) : Type 0 where
  pub free : IsFree t p
  pub orders : All (IsOrderOf t) contexts

abbrev pub MayDepute : FlagTable → List (List ℕ) → Option Pass → Type 0
MayDepute t contexts deputy = IfSome deputy (IsDeputy t contexts)

-- All that a drive needs.
pub record MayDrive (t : FlagTable) (plans : List Plan) (tokens : List Token)
    (contexts : List (List ℕ)) (parkers : ℕ) (player : Pass) (crew : List Worker)
    (stop : Option Stop) : Type 0 where
  pub made : IsMadeOf t plans
  pub given : (made_of t).stop ≡ stop
  pub list : IsToBePlayed t tokens player
  pub crew_is : AreManned t contexts parkers crew
