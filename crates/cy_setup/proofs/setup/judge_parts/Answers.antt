use Rattle.std.proofs.Common.{◌∙◌, ap, arith, length, refl, sym}
use Rattle.std.proofs.lemmas.Result.{err_from_is_err_and}
use Rattle.cy_setup.specs.private.Judged.{judged_as}
use Rattle.cy_msg.specs.Request.{request_of}
use Rattle.cy_setup.specs.Stops.{stop_of}
use Rattle.cy_setup.specs.Wiring.{wired_by}
use Rattle.cy_setup.proofs.Judging.{judges_memory, passed_on}
use Rattle.cy_setup.proofs.Listed.{listed_below}
use Rattle.cy_setup.proofs.Setting.{channels_named, some_names, as_many, counted, stop_stops, list_stops, planned_stops, all_judged, planned_few, is_set_up}
use Rattle.cy_setup.proofs.setup.judge_parts.Goals as goal

pub list_all-requires : goal.list_all-requires
list_all-requires c = channels_named c.args.file.now (request_of c.args.request.now) c.args.configuration.now c.args.recorded.now c.args.wiring.now c.requires.wired

pub returns-in_err-test_stop-clause-judged : goal.returns-in_err-test_stop-clause-judged
returns-in_err-test_stop-clause-judged c =
    let p = err_from_is_err_and c.from_residual.result c.from_residual.ensures.1 in
    let view = judged_as c.args.configuration.now c.args.recorded.now c.args.wiring.now in
    passed_on _ _ c.from_residual.result p.0 _ p.1 p.2
    (stop_stops c.args.file.now (request_of c.args.request.now) c.args.configuration.now c.args.recorded.now c.args.wiring.now c.requires.wired view _ c.in_err-test_stop.ensures)

pub returns-in_err-list-clause-judged : goal.returns-in_err-list-clause-judged
returns-in_err-list-clause-judged c =
    let p = err_from_is_err_and c.from_residual-in_err-list.result c.from_residual-in_err-list.ensures.1 in
    let view = judged_as c.args.configuration.now c.args.recorded.now c.args.wiring.now in
    passed_on _ _ c.from_residual-in_err-list.result p.0 _ p.1 p.2
    (list_stops c.args.file.now (request_of c.args.request.now) c.args.configuration.now c.args.recorded.now c.args.wiring.now c.requires.wired view _ c.in_ok-test_stop.field-0 c.in_ok-test_stop.ensures c.in_err-list.ensures.judged)

pub counts_of-requires-clause-named : goal.counts_of-requires-clause-named
counts_of-requires-clause-named c =
    let some = some_names c.args.file.now (request_of c.args.request.now) c.args.configuration.now c.args.recorded.now c.args.wiring.now c.requires.wired in
    let w = c.args.wiring.now in
    rw (c.as_slice.ensures, c.count.ensures.count) (listed_below c.args.recorded.now c.args.request.now.filter.now (wired_by w) w.lawful c.in_ok-list.list c.in_ok-list.ensures.listed some)

pub counts_of-requires-clause-few : goal.counts_of-requires-clause-few
counts_of-requires-clause-few c = rw c.as_slice.ensures (let few = c.in_ok-list.ensures.few in omega (arith, few))

pub returns-in_err-counts-clause-judged : goal.returns-in_err-counts-clause-judged
returns-in_err-counts-clause-judged c =
    let p = err_from_is_err_and c.from_residual-in_err-counts.result c.from_residual-in_err-counts.ensures.1 in
    let view = judged_as c.args.configuration.now c.args.recorded.now c.args.wiring.now in
    passed_on _ _ c.from_residual-in_err-counts.result p.0 _ p.1 p.2 (judges_memory view _ _ refl)

pub test_planned-requires : goal.test_planned-requires
test_planned-requires c = ap length c.deref.ensures.value ∙ c.in_ok-counts.ensures.many ∙ c.count.ensures.count

pub returns-in_err-test_planned-clause-judged : goal.returns-in_err-test_planned-clause-judged
returns-in_err-test_planned-clause-judged c =
    let p = err_from_is_err_and c.from_residual-in_err-test_planned.result c.from_residual-in_err-test_planned.ensures.1 in
    let view = judged_as c.args.configuration.now c.args.recorded.now c.args.wiring.now in
    let are = rw (c.count.ensures.count, c.as_slice.ensures) at c.in_ok-counts.ensures in
    passed_on _ _ c.from_residual-in_err-test_planned.result p.0 _ p.1 p.2
    (planned_stops c.args.file.now (request_of c.args.request.now) c.args.configuration.now c.args.recorded.now c.args.wiring.now c.requires.wired c.in_ok-list.list c.in_ok-counts.counts.items
    c.in_ok-test_stop.field-0 c.in_ok-test_stop.ensures c.in_ok-list.ensures.judged c.in_ok-list.ensures.listed are view _ (rw c.deref.ensures.value at c.in_err-test_planned.ensures.judged))

pub returns-in_err-placement-clause-judged : goal.returns-in_err-placement-clause-judged
returns-in_err-placement-clause-judged c =
    let p = err_from_is_err_and c.from_residual-in_err-placement.result c.from_residual-in_err-placement.ensures.1 in
    let view = judged_as c.args.configuration.now c.args.recorded.now c.args.wiring.now in
    passed_on _ _ c.from_residual-in_err-placement.result p.0 _ p.1 p.2 (judges_memory view _ _ c.in_err-placement.ensures.only_memory)

pub stop_of-stop-requires : goal.stop_of-stop-requires
stop_of-stop-requires c =
    rw c.as_slice-2.ensures (let few = c.in_ok-list.ensures.few in omega (arith, few))

pub returns-clause-judged : goal.returns-clause-judged
returns-clause-judged c =
    let view = judged_as c.args.configuration.now c.args.recorded.now c.args.wiring.now in
    let are = rw (c.count.ensures.count, c.as_slice.ensures) at c.in_ok-counts.ensures in
    all_judged c.args.file.now (request_of c.args.request.now) c.args.configuration.now c.args.recorded.now c.args.wiring.now c.requires.wired c.in_ok-list.list c.in_ok-counts.counts.items
    c.in_ok-test_stop.field-0 c.in_ok-test_stop.ensures c.in_ok-list.ensures.judged c.in_ok-list.ensures.listed are view c.in_ok-test_planned.field-0 _ (rw c.deref.ensures.value at c.in_ok-test_planned.ensures.judged) refl

pub returns-clause-set_up : goal.returns-clause-set_up
returns-clause-set_up c =
    let request = request_of c.args.request.now in
    let conf = c.args.configuration.now in
    let recorded = c.args.recorded.now in
    let w = c.args.wiring.now in
    let wired = c.requires.wired in
    let are = rw (c.count.ensures.count, c.as_slice.ensures) at c.in_ok-counts.ensures in
    let file = c.args.file.now in
    let some = some_names file request conf recorded w wired in
    let many = as_many file request conf recorded w wired in
    let is = counted file request conf recorded w wired c.in_ok-list.list c.in_ok-counts.counts.items c.in_ok-test_stop.field-0 c.in_ok-test_stop.ensures c.in_ok-list.ensures.judged c.in_ok-list.ensures.listed are in
    let stopped = c.stop_of-stop.ensures ∙ ap (stop_of request.stop (wired_by w)) c.as_slice-2.ensures in
    let few = planned_few c.args.request.now.input.now (wired_by w) c.in_ok-counts.counts.items _ (rw c.deref.ensures.value at c.in_ok-test_planned.ensures.judged) in
    is_set_up c.put.ensures request _ c.in_ok-list.ensures.listed stopped c.in_ok-placement.ensures.placed (rw (sym c.new.ensures) at are) (c.new.ensures ∙ is) (rw c.new.ensures few) some c.in_ok-placement.ensures.scan many c.count.ensures.once
