use Rattle.std.proofs.Common.{◌≤◌, nat_le, arith, ℕ}
use Rattle.std.specs.Bool.{Decides}
use Rattle.std.proofs.lemmas.Bool.Decides.{nat_tests}
use Rattle.wake_core.specs.Run.{routes_of}
use Rattle.cy_verify.proofs.OneLate.{obeys_tells}
use Rattle.cy_verify.proofs.obedient.obeys.Goals as goal

pub returns : goal.returns
returns c = λ calls same takes.
    obeys_tells (routes_of c.args.plans.now) c.args.after c.args.readers.now calls c.args.tape.now c.early_part.result c.counts_of.result
    c.args.told.now same c.requires.few c.requires.numbered takes c.early_part.ensures c.counts_of.ensures c.count_late.result c.count_late.ensures
    (nat_le c.count_late.result 1) (at_most c.count_late.result 1)
  where
    at_most : (m n : ℕ) → Decides (nat_le m n) (m ≤ n)
    at_most m n = (λ e. grind (arith, nat_tests, e), λ l. grind (arith, nat_tests, l))
