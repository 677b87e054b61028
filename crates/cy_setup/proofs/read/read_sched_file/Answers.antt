use Rattle.std.proofs.Common.{◌≡◌}
use Rattle.std.proofs.lemmas.Result.{err_from_is_err_and}
use Rattle.cy_sched.specs.SchedFile.{sched_refusal, sched_of}
use Rattle.cy_setup.specs.declared.error.Fault.TheVariants as fault
use Rattle.cy_setup.specs.Configuration.{text_in}
use Rattle.cy_setup.specs.Faults.{in_file, unless}
use Rattle.cy_setup.specs.Steps.{sched_fault}
use Rattle.cy_setup.proofs.Judged.{first_err, then_value, then_fault, sched_accepted, sched_refused}
use Rattle.cy_setup.proofs.read.read_sched_file.Goals as goal

pub returns-in_err-tree-clause-comes : goal.returns-in_err-tree-clause-comes
returns-in_err-tree-clause-comes g c =
    let p = err_from_is_err_and c.from_residual.result c.from_residual.ensures.1 in
    let name = c.args.name.now in
    rw (p.1, p.2)
    (first_err (λ s. s) (text_in name) (λ file. in_file name fault.Sched (unless (sched_refusal file) (sched_of file))) (λ file. file ≡ name) (λ file. file ≡ name) _ _ _ (λ file asked. asked) c.in_err-tree.ensures.comes)

pub returns-in-Ok-clause-comes : goal.returns-in-Ok-clause-comes
returns-in-Ok-clause-comes g c =
    let name = c.args.name.now in
    then_value (λ s. s) (text_in name) (λ file. in_file name fault.Sched (unless (sched_refusal file) (sched_of file))) (λ file. file ≡ name) (λ file. file ≡ name) _ _ c.in_ok-tree.tree c.in-Ok.sched c.in_ok-tree.ensures.comes
    (sched_accepted name c.in_ok-tree.tree c.in-Ok.sched c.in-Ok.ensures.accepted)

pub returns-clause-comes : goal.returns-clause-comes
returns-clause-comes g c =
    let name = c.args.name.now in
    then_fault (λ s. s) (text_in name) (λ file. in_file name fault.Sched (unless (sched_refusal file) (sched_of file))) (λ file. file ≡ name) (λ file. file ≡ name) _ _ c.in_ok-tree.tree name (sched_fault c.in-Err.fault) _ c.in_ok-tree.ensures.comes c.sched_fault.ensures
    (sched_refused name c.in_ok-tree.tree c.in-Err.fault c.in-Err.ensures.refused)
