use Rattle.std.proofs.Common.{arith, rules}
use Rattle.std.proofs.lemmas.Grind.{common_steps}
use Rattle.cy_msg.proofs.OnceSteps.{IsOnce-push, slice_get-push, slice_get-push_kept}
use Rattle.cy_msg.proofs.names.Names.add.Goals as goal

pub invariant_of-self-2 : goal.invariant_of-self-2
invariant_of-self-2 c = grind (arith, common_steps, IsOnce-push)

pub returns : goal.returns
returns c = record {
  number = grind (arith, common_steps, slice_get-push);
  kept = λ n name h. grind (arith, slice_get-push_kept);
  grown = grind (arith, common_steps);
  known = λ h. grind (arith, common_steps);
  fresh = λ h. grind (arith, common_steps);
  full = grind (arith, common_steps);
  err = search rules;
}
