use Rattle.std.proofs.Common.{◌≡◌}
use Rattle.std.proofs.lemmas.Result.{err_from_is_err_and}
use Rattle.cy_setup.specs.declared.error.Fault.TheVariants as fault
use Rattle.cy_setup.specs.Configuration.{text_in, dag_of}
use Rattle.cy_setup.specs.Faults.{in_file}
use Rattle.cy_setup.specs.Steps.{dag_says, dag_fault}
use Rattle.cy_setup.proofs.Judged.{first_err, then_value, then_fault, dag_accepted, dag_refused}
use Rattle.cy_setup.proofs.read.read_dag_file.Goals as goal

pub returns-in_err-tree : goal.returns-in_err-tree
returns-in_err-tree g c =
    let p = err_from_is_err_and c.from_residual.result c.from_residual.ensures.1 in
    let name = c.args.name.now in
    rw (p.1, p.2) (first_err dag_says (text_in name) (λ file. in_file name fault.Dag (dag_of file)) (λ file. file ≡ name) (λ file. file ≡ name) _ _ _ (λ file asked. asked) c.in_err-tree.ensures.comes)

pub returns-in-Ok : goal.returns-in-Ok
returns-in-Ok g c =
    let name = c.args.name.now in
    then_value dag_says (text_in name) (λ file. in_file name fault.Dag (dag_of file)) (λ file. file ≡ name) (λ file. file ≡ name) _ _ c.in_ok-tree.tree c.in-Ok.dag c.in_ok-tree.ensures.comes
    (dag_accepted name c.in_ok-tree.tree c.in-Ok.dag c.in-Ok.ensures.accepted c.in-Ok.ensures.unknown)

pub returns : goal.returns
returns g c =
    let name = c.args.name.now in
    then_fault dag_says (text_in name) (λ file. in_file name fault.Dag (dag_of file)) (λ file. file ≡ name) (λ file. file ≡ name) _ _ c.in_ok-tree.tree name (dag_fault c.in-Err.fault) _ c.in_ok-tree.ensures.comes c.dag_fault.ensures
    (dag_refused name c.in_ok-tree.tree c.in-Err.fault c.in-Err.ensures.refused)
