-- Where a search among answers ends.
use Rattle.std.specs.Prelude.{ℕ, ◌≡◌, ◌<◌, ◌≤◌, List, length}
use Rattle.cy_comp.specs.declared.answers.Answer.{Answer}
use Rattle.cy_comp.specs.Answers.{call_at}

-- The answer at a place is of a call.
pub record IsAt (answers : List Answer) (call place : ℕ) : Type 0 where
  pub in_range : place < length answers
  pub is_its : call_at answers place ≡ call

-- No answer is of a call: those before a place are of earlier ones, and the others of later ones.
pub record IsGapFor (answers : List Answer) (call place : ℕ) : Type 0 where
  pub in_range : place ≤ length answers
  pub earlier_before : (j : ℕ) → j < place → call_at answers j < call
  pub later_from : (j : ℕ) → place ≤ j → j < length answers → call < call_at answers j
