use Rattle.std.proofs.Common.{Bor, List, ℕ, map}
use Rattle.std.proofs.lemmas.Result.{err_from_is_err_and}
use Rattle.cy_wiring.proofs.WireSteps.{count_due, few_named}
use Rattle.cy_wiring.proofs.wiring.tested_names.Goals as goal

pub returns-in_err-test_count-clause-refused : goal.returns-in_err-test_count-clause-refused
returns-in_err-test_count-clause-refused c =
    let all = map (λ (m : Bor (List ℕ)). m.now) c.args.mentions.now in
    let p = err_from_is_err_and c.from_residual-in_err-test_count.result c.from_residual-in_err-test_count.ensures.1 in
    rw (p.1, p.2) (count_due all c.in_ok-count_different.field-0 c.in_err-test_count.field-0.0 c.in_ok-count_different.ensures c.in_err-test_count.ensures.refused)

pub returns-clause-accepted : goal.returns-clause-accepted
returns-clause-accepted c =
    let all = map (λ (m : Bor (List ℕ)). m.now) c.args.mentions.now in
    few_named all c.in_ok-names.field-0 c.in_ok-count_different.field-0 c.in_ok-count_different.ensures c.in_ok-test_count.ensures.accepted c.in_ok-names.ensures.names
