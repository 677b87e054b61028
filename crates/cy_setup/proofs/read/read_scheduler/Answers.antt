use Rattle.std.proofs.Common.{◌≡◌, Some, ap, sym}
use Rattle.cy_setup.specs.Configuration.{sched_in}
use Rattle.cy_setup.proofs.Coming.{comes_more}
use Rattle.cy_setup.proofs.read.read_scheduler.Goals as goal

pub returns-in-Some-clause-comes : goal.returns-in-Some-clause-comes
returns-in-Some-clause-comes g c =
    let name = c.in-Some.name.now in
    rw c.in-Some.is (comes_more (λ s. s) (sched_in (Some name)) (λ file. file ≡ name) (λ file. Some name ≡ Some file) _ _ c.read_sched_file.result (λ file asked. ap Some (sym asked)) c.read_sched_file.ensures.comes)
