use Rattle.cy_trace.specs.TraceOfRun.{trace_of_run}
use Rattle.wake_core.specs.Rest.{run_shown}
use Rattle.cy_trace_text.proofs.RunTexts.{run_text}
use Rattle.cy_trace_text.proofs.RunFits.{run_fits}
use Rattle.cy_trace_text.proofs.laws.runs_are_read_back.Goals as goal

pub returns-clause-fit : goal.returns-clause-fit
returns-clause-fit k = run_fits k.outcomes_are_answers.ensures k.places.ensures k.bounds.ensures

pub returns-clause-back : goal.returns-clause-back
returns-clause-back k = λ names plans shadowed w of typed short s result reads.
    reads.back (trace_of_run names plans shadowed (run_shown w)) (run_fits k.outcomes_are_answers.ensures k.places.ensures k.bounds.ensures names plans shadowed w of typed short s) (run_text names plans shadowed (run_shown w))
