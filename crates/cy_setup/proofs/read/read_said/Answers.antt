use Rattle.std.proofs.Common.{◌≡◌}
use Rattle.std.proofs.lemmas.Result.{err_from_is_err_and}
use Rattle.cy_dag.specs.Classes.{class_named}
use Rattle.cy_setup.specs.declared.error.Fault.TheVariants as fault
use Rattle.cy_setup.specs.Configuration.{text_in, config_by}
use Rattle.cy_setup.specs.Faults.{in_file}
use Rattle.cy_setup.specs.Steps.{dag_fault}
use Rattle.cy_setup.proofs.Judged.{first_err, then_value, then_fault, config_accepted, config_refused}
use Rattle.cy_setup.proofs.read.read_said.Goals as goal

pub returns-in_err-tree-clause-comes : goal.returns-in_err-tree-clause-comes
returns-in_err-tree-clause-comes g c =
    let p = err_from_is_err_and c.from_residual.result c.from_residual.ensures.1 in
    let component = c.args.component.now in
    let name = component.config_file_path in
    rw (p.1, p.2)
    (first_err (λ config. config) (text_in name) (λ file. in_file name fault.Dag (config_by c.args.number (class_named component.class_name) file)) (λ file. file ≡ name) (λ file. file ≡ name) _ _ _ (λ file asked. asked) (rw c.as_str-name.ensures.value at c.in_err-tree.ensures.comes))

pub returns-in-Ok-clause-comes : goal.returns-in-Ok-clause-comes
returns-in-Ok-clause-comes g c =
    let component = c.args.component.now in
    let name = component.config_file_path in
    then_value (λ config. config) (text_in name) (λ file. in_file name fault.Dag (config_by c.args.number (class_named component.class_name) file)) (λ file. file ≡ name) (λ file. file ≡ name) _ _ c.in_ok-tree.tree c.in-Ok.config (rw c.as_str-name.ensures.value at c.in_ok-tree.ensures.comes)
    (config_accepted name c.args.number component.class_name c.as_str.result.now c.in_ok-tree.tree c.in-Ok.config c.as_str.ensures.value c.in-Ok.ensures.config)

pub returns-clause-comes : goal.returns-clause-comes
returns-clause-comes g c =
    let component = c.args.component.now in
    let name = component.config_file_path in
    then_fault (λ config. config) (text_in name) (λ file. in_file name fault.Dag (config_by c.args.number (class_named component.class_name) file)) (λ file. file ≡ name) (λ file. file ≡ name) _ _ c.in_ok-tree.tree name (dag_fault c.in-Err.fault) _ (rw c.as_str-name.ensures.value at c.in_ok-tree.ensures.comes) (rw c.as_str-name.ensures.value at c.dag_fault.ensures)
    (config_refused name c.args.number component.class_name c.as_str.result.now c.in_ok-tree.tree c.in-Err.fault c.as_str.ensures.value c.in-Err.ensures.refused)
