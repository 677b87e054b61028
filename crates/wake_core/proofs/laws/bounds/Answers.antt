-- The laws, from the lemmas on each part.
use Rattle.std.proofs.Common.{arith}
use Rattle.wake_core.specs.Planned.{planned}
use Rattle.wake_core.proofs.Arriving.{fused_planned, planned_trigger}
use Rattle.wake_core.proofs.Joining.{fused_messages}
use Rattle.wake_core.proofs.Limits.{count_limit, tape_limit}
use Rattle.wake_core.proofs.Totals.{tape_planned}
use Rattle.wake_core.proofs.laws.bounds.Goals as goal

pub returns : goal.returns
returns k = record {
  tape = λ w s. let few = tape_planned w s in let all = tape_limit w.routes w.counts in omega (arith, few, all);
  channel = λ routes counts channel known. count_limit routes counts channel (planned routes counts) (omega arith) known;
  trigger = planned_trigger;
  tuples = fused_planned;
  messages = fused_messages;
}
