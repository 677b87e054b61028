use Rattle.std.proofs.Common.{sym}
use Rattle.wake_core.specs.Rest.{run_shown}
use Rattle.wake_core.specs.WorldOf.{plain_of}
use Rattle.cy_trace_text.proofs.Parting.{component_parts}
use Rattle.cy_trace_text.proofs.parts.push_component_parts.Goals as goal

pub returns : goal.returns
returns c = λ names plans shadowed p at.
    component_parts {w = run_shown (plain_of c.args.world.now)} c.args.component p c.calls_of.result c.args.parts.now.items _ _ _ at (sym c.calls_of.ensures) c.in_ok-push.ensures.items
    (λ known its. c.in_ok-push_call_parts.ensures names plans shadowed (run_shown (plain_of c.args.world.now)) known its) c.in_ok-push-2.ensures.items
