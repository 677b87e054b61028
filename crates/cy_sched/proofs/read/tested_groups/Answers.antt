use Rattle.std.proofs.Common.{List, ◌≤◌, length, ap, ◌∙◌, arith}
use Rattle.cy_sched.specs.SchedFile.{groups_of, processors_of}
use Rattle.cy_sched.specs.declared.sched.Group.{Group}
use Rattle.cy_sched.proofs.Counts.{groups_fit}
use Rattle.cy_sched.proofs.Refused.{groups_accepted, groups_refused}
use Rattle.cy_sched.proofs.read.tested_groups.Goals as goal

pub test_groups-requires : goal.test_groups-requires
test_groups-requires c =
    let is = c.deref.ensures.value ∙ c.in_ok-groups.ensures.groups in
    let few : length (groups_of c.args.conf.now) ≤ 4294967295 = omega (arith, c.in_ok-groups.ensures.few, ap (λ (gs : List Group). length gs) c.in_ok-groups.ensures.groups) in
    omega (arith, groups_fit c.args.conf.now few, ap processors_of is)

pub returns-in-Ok-clause-accepted : goal.returns-in-Ok-clause-accepted
returns-in-Ok-clause-accepted c =
    let is = c.deref.ensures.value ∙ c.in_ok-groups.ensures.groups in
    (groups_accepted c.args.conf.now c.deref.result.now c.in_ok-groups.ensures.some is c.in-Ok.ensures.accepted, c.in_ok-groups.ensures.groups)

pub returns-in-Err-clause-refused : goal.returns-in-Err-clause-refused
returns-in-Err-clause-refused c =
    let is = c.deref.ensures.value ∙ c.in_ok-groups.ensures.groups in
    groups_refused c.args.conf.now c.deref.result.now c.in_ok-groups.ensures.some is c.in-Err.error c.in-Err.ensures.refused
