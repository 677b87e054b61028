-- What `check` makes of configuration files.
use Rattle.std.specs.Prelude.{ℕ, ◌≡◌, List, [], map, unwrap_or}
use Rattle.cy_store.specs.Files.{Files}
use Rattle.cy_store.specs.Reads.{Reads, Accepts, ◌>>=◌}
use Rattle.cy_msg.specs.declared.placement.ContextPlan.{ContextPlan}
use Rattle.cy_sched.specs.Placing.{IsPlaced}
use Rattle.cy_sched.specs.declared.sched.Sched.{Sched}
use Rattle.cy_sched.specs.declared.sched.Sched.TheVariants.{Classic, Choreography}
use Rattle.cy_report.specs.CheckText.{text_of}
use Rattle.cy_setup.specs.declared.error.Refusal.{Refusal}
use Rattle.cy_setup.specs.Configuration.{Configured, configuration_in}
use Rattle.cy_setup.specs.Wiring.{wiring_in}
use Rattle.cy_args.specs.CheckWords.{CheckWords}
use Rattle.cy_commands.specs.Work.{Work}

-- The files are read, and their components wired over no channels of a record.
abbrev pub checked_in : CheckWords → Files → Reads Refusal Configured
checked_in w files = do
  configured ← configuration_in w.dag w.sched files
  wired ← wiring_in w.dag [] configured
  Accepts configured

-- The fields of a scheduler file that aren't known.
abbrev pub unknown_in : Sched → List (List ℕ)
unknown_in (Classic groups unknown) = unknown
unknown_in (Choreography processors pool tasks unknown) = unknown

-- The text of what was read: the components, where they are placed, and what isn't known.
abbrev pub check_text_of : CheckWords → Configured → List ContextPlan → List ℕ
check_text_of w c contexts = text_of c.dag.components c.configs contexts w.dag c.dag.unknown
    (unwrap_or w.sched []) (unknown_in c.sched)

-- It prints that text and writes nothing.
pub record IsCheckWork (w : CheckWords) (read : Configured) (work : Work) : Type 0 where
  pub contexts : List ContextPlan
  pub placed : IsPlaced read.sched (map (λ c. c.name) read.dag.components) contexts
  pub silent : work.writes ≡ []
  pub text : work.text ≡ check_text_of w read contexts
