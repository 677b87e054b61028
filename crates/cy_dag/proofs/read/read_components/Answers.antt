use Rattle.std.proofs.Common.{List, Bor, ap, ◌∙◌, codes, map}
use Rattle.cy_text.specs.Fields.{Fields}
use Rattle.cy_dag.proofs.DagSteps.{all_components, fields_accepted, fields_refused, found_is}
use Rattle.cy_dag.proofs.read.read_components.Goals as goal

pub returns-clause-components : goal.returns-clause-components
returns-clause-components c =
    let file = c.args.tree.now in
    let said = λ (ms : List (Bor Fields)). map (λ (m : Bor Fields). m.now) ms in
    let found = found_is (codes "components") file c.in_ok-found.found.items c.in_ok-modules.modules.items _ c.in_ok-modules.ensures.messages c.deref.ensures.value c.in_ok-found.ensures in
    let timed = found_is (codes "timer_components") file c.in_ok-timers.timers.items c.in_ok-modules.modules.items _ c.in_ok-modules.ensures.messages c.deref-2.ensures.value c.in_ok-timers.ensures in
    all_components file (said c.deref-3.result.now) (said c.deref-4.result.now) (ap said c.deref-3.ensures.value ∙ found) (ap said c.deref-4.ensures.value ∙ timed) c.tested.result c.tested.ensures.components

pub returns-clause-accepted : goal.returns-clause-accepted
returns-clause-accepted c =
    let file = c.args.tree.now in
    let said = λ (ms : List (Bor Fields)). map (λ (m : Bor Fields). m.now) ms in
    let found = found_is (codes "components") file c.in_ok-found.found.items c.in_ok-modules.modules.items _ c.in_ok-modules.ensures.messages c.deref.ensures.value c.in_ok-found.ensures in
    let timed = found_is (codes "timer_components") file c.in_ok-timers.timers.items c.in_ok-modules.modules.items _ c.in_ok-modules.ensures.messages c.deref-2.ensures.value c.in_ok-timers.ensures in
    fields_accepted file (said c.deref-3.result.now) (said c.deref-4.result.now) (ap said c.deref-3.ensures.value ∙ found) (ap said c.deref-4.ensures.value ∙ timed) c.tested.result c.tested.ensures.accepted

pub returns-clause-refused : goal.returns-clause-refused
returns-clause-refused c =
    let file = c.args.tree.now in
    let said = λ (ms : List (Bor Fields)). map (λ (m : Bor Fields). m.now) ms in
    let found = found_is (codes "components") file c.in_ok-found.found.items c.in_ok-modules.modules.items _ c.in_ok-modules.ensures.messages c.deref.ensures.value c.in_ok-found.ensures in
    let timed = found_is (codes "timer_components") file c.in_ok-timers.timers.items c.in_ok-modules.modules.items _ c.in_ok-modules.ensures.messages c.deref-2.ensures.value c.in_ok-timers.ensures in
    fields_refused file (said c.deref-3.result.now) (said c.deref-4.result.now) (ap said c.deref-3.ensures.value ∙ found) (ap said c.deref-4.ensures.value ∙ timed) c.tested.result c.tested.ensures.refused
