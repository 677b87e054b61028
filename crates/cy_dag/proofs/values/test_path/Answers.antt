use Rattle.std.proofs.Common.{arith, ◌≡◌, ◌≤◌, List, Bor, length, map, codes, ap, ◌∙◌}
use Rattle.cy_text.specs.Entries.{held_of}
use Rattle.cy_text.specs.declared.tree.Value.{Value}
use Rattle.cy_config.specs.Lookups.{all_under}
use Rattle.cy_dag.proofs.ValueSteps.{path_accepted, path_due, some_where}
use Rattle.cy_dag.proofs.values.test_path.Goals as goal

pub returns-then-has_no_number-clause-refused : goal.returns-then-has_no_number-clause-refused
returns-then-has_no_number-clause-refused c =
    let path = c.deref.result.now in
    let least = some_where _ c.is_empty.result c.is_empty.ensures c.if-is_empty.false in
    let some : 1 ≤ length path = omega (arith, least) in
    let few : length path ≤ 16 = omega arith in
    let shown : map (λ (v : Bor Value). held_of v.now) path ≡ all_under (codes "path") c.args.fields.now = ap (λ (vs : List (Bor Value)). map (λ (v : Bor Value). held_of v.now) vs) c.deref.ensures.value ∙ c.in_ok-path.ensures in
    path_due c.args.component c.args.place path _ shown some few c.has_no_number.result c.has_no_number.ensures c.if-has_no_number.true

pub returns-clause-accepted : goal.returns-clause-accepted
returns-clause-accepted c =
    let path = c.deref.result.now in
    let least = some_where _ c.is_empty.result c.is_empty.ensures c.if-is_empty.false in
    let some : 1 ≤ length path = omega (arith, least) in
    let few : length path ≤ 16 = omega arith in
    let shown : map (λ (v : Bor Value). held_of v.now) path ≡ all_under (codes "path") c.args.fields.now = ap (λ (vs : List (Bor Value)). map (λ (v : Bor Value). held_of v.now) vs) c.deref.ensures.value ∙ c.in_ok-path.ensures in
    path_accepted c.args.component c.args.place path _ shown some few c.has_no_number.result c.has_no_number.ensures c.if-has_no_number.false
