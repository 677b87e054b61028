use Rattle.wake_core.specs.Rest.{run_shown}
use Rattle.wake_core.specs.WorldOf.{plain_of}
use Rattle.cy_report.proofs.CallCounts.{CallsSoFar}
use Rattle.cy_report.proofs.summary.calls_in.Given as goal

abbrev pub invariant-loop-component : goal.invariant-loop-component
invariant-loop-component l = CallsSoFar (run_shown (plain_of l.world)) l.plans l.component l.count
