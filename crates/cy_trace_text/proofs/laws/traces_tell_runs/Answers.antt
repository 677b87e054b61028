use Rattle.wake_core.specs.Rest.{run_shown}
use Rattle.cy_trace.specs.TraceOfRun.{trace_of_run}
use Rattle.cy_trace_read.proofs.Prefixes.{texts_tell}
use Rattle.cy_trace_text.proofs.RunTexts.{run_text}
use Rattle.cy_trace_text.proofs.RunFits.{run_fits}
use Rattle.cy_trace_text.proofs.Telling.{came_to_same}
use Rattle.std.proofs.Common.{◌∙◌, sym}
use Rattle.cy_trace_text.proofs.laws.traces_tell_runs.Goals as goal

pub returns-clause-runs : goal.returns-clause-runs
returns-clause-runs k = came_to_same k.places.ensures

pub returns-clause-texts : goal.returns-clause-texts
returns-clause-texts k = λ names plans shadowed tokens stop w v are typed other_typed short same.
    came_to_same k.places.ensures names plans shadowed tokens stop w v are
    (texts_tell (trace_of_run names plans shadowed (run_shown w)) (trace_of_run names plans shadowed (run_shown v))
    (run_fits k.outcomes_are_answers.ensures k.places.ensures k.bounds.ensures names plans shadowed w are.made typed short are.run.sound)
    (run_fits k.outcomes_are_answers.ensures k.places.ensures k.bounds.ensures names plans shadowed v are.other_made other_typed short are.other_run.sound)
    (sym (run_text names plans shadowed (run_shown w)) ∙ same ∙ run_text names plans shadowed (run_shown v)))
