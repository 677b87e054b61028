-- How `check` ends.
use Rattle.std.specs.Prelude.{ℕ, ◌≡◌, List, map}
use Rattle.cy_msg.specs.declared.placement.ContextPlan.{ContextPlan}
use Rattle.cy_sched.specs.Placing.{IsPlaced}
use Rattle.cy_setup.specs.Configuration.{Configured}
use Rattle.cy_args.specs.CheckWords.{CheckWords}
use Rattle.cy_commands.specs.Commands.CheckWork.{check_text_of}

-- The text of what was read, with its components placed.
pub record IsTextOf (w : CheckWords) (c : Configured) (text : List ℕ) : Type 0 where
  pub contexts : List ContextPlan
  pub placed : IsPlaced c.sched (map (λ d. d.name) c.dag.components) contexts
  pub is : text ≡ check_text_of w c contexts
