-- The law, from the sum over all channels.
use Rattle.std.proofs.Common.{arith}
use Rattle.wake_core.proofs.Totals.{tape_planned}
use Rattle.wake_core.proofs.Limits.{tape_limit}
use Rattle.wake_core.proofs.laws.limits.Goals as goal

pub returns : goal.returns
returns k = record {
  tape = λ w s fixed.
      let few = tape_planned w s in
      let all = tape_limit w.routes w.counts in
      let most = fixed.limited in
      omega (arith, few, all, most);
}
