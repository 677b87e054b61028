use Rattle.std.proofs.Common.{◌≡◌, ◌++◌, drop}
use Rattle.wake_core.specs.WorldOf.{plain_of}
use Rattle.wake_core.specs.Rest.{run_shown}
use Rattle.cy_trace_text.specs.TraceText.{components_text}
use Rattle.cy_trace_text.proofs.text.push_components.Given as goal

abbrev pub invariant-loop-place : goal.invariant-loop-place
invariant-loop-place l =
    l.to.items ++ components_text l.version (run_shown (plain_of l.world)) l.place (drop l.place l.plans)
    ≡ l.fn.to.items ++ components_text l.version (run_shown (plain_of l.world)) 0 l.plans
