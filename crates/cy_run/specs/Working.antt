-- The work of a processor: what it needs, and how it ends.
use Rattle.std.specs.Prelude.{ℕ, ◌<◌, true, List, [], ◌∷◌, ◌++◌, All, length}
use Rattle.cy_comp.specs.declared.plan.Plan.{Plan}
use Rattle.cy_table.specs.declared.pass.Pass.{Pass}
use Rattle.cy_table.specs.declared.table.FlagTable.{FlagTable}
use Rattle.cy_table.specs.Seats.{Entry}
use Rattle.cy_table.specs.Seats.Entry.{Closing}
use Rattle.cy_table.specs.Calls.{made_of}
use Rattle.cy_ctx.specs.Note.{IsVain, GrewBy}
use Rattle.cy_run.specs.Passes.{IsMadeOf, IsFree}

-- The components of an order are those of the table.
abbrev pub IsOrderOf : FlagTable → List ℕ → Type 0
IsOrderOf t order = All (λ c. c < length (made_of t).routes) order

-- A processor with this order and number may work with the pass, at so many parkers.
pub record MayWork (t : FlagTable) (plans : List Plan) (order : List ℕ) (parkers me : ℕ) (p : Pass)
    : Type 0 where
  pub made : IsMadeOf t plans
  pub inside : IsOrderOf t order
  pub parker : me < parkers
  pub free : IsFree t p

-- The note ends with a load that found the run closing, and the entries of a scan in vain after it.
pub record EndsInVain (order : List ℕ) (note : List Entry) : Type 0 where
  pub before : List Entry
  pub last : GrewBy (IsVain order) (before ++ Closing true ∷ []) note
