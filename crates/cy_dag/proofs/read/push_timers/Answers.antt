use Rattle.std.proofs.Common.{refl}
use Rattle.std.proofs.lemmas.Result.{err_from_is_err_and}
use Rattle.cy_dag.proofs.TimersTested.{accepted_one, all_accepted, all_pushed, few_there, pushed_one, refused_one}
use Rattle.cy_dag.proofs.read.push_timers.Goals as goal

pub push_timer-requires : goal.push_timer-requires
push_timer-requires c =
    few_there c.args.timers.now c.loop-fields.fields-index c.args.components.now.items c.loop-fields.components.items c.loop-fields-test.true c.loop-fields.invariant.made c.requires

pub returns-in_err-push_timer-clause-refused : goal.returns-in_err-push_timer-clause-refused
returns-in_err-push_timer-clause-refused c =
    let p = err_from_is_err_and c.from_residual.result c.from_residual.ensures.1 in
    let items = c.loop-fields.components.items in
    rw (p.1, p.2) (refused_one c.args.timers.now c.loop-fields.fields-index c.fields-item.result items c.loop-fields-test.true c.fields-item.is c.args.components.now.items c.loop-fields.invariant.behind items refl
    c.in_err-push_timer.field-0.0 c.in_err-push_timer.ensures.refused)

pub loop-fields-preserved : goal.loop-fields-preserved
loop-fields-preserved c =
    let items = c.loop-fields.components.items in
    record {
      made = pushed_one c.args.timers.now c.loop-fields.fields-index c.fields-item.result items c.loop-fields-test.true c.fields-item.is c.args.components.now.items _ c.loop-fields.invariant.made c.in_ok-push_timer.ensures.pushed;
      behind = accepted_one c.args.timers.now c.loop-fields.fields-index c.fields-item.result items c.loop-fields-test.true c.fields-item.is c.args.components.now.items c.loop-fields.invariant.behind items refl _
          c.in_ok-push_timer.ensures.accepted c.in_ok-push_timer.ensures.pushed;
    }

pub returns-clause-accepted : goal.returns-clause-accepted
returns-clause-accepted c =
    all_accepted c.args.timers.now c.loop-fields.fields-index c.args.components.now.items c.loop-fields.components.items c.loop-fields-test.false c.loop-fields.invariant.behind

pub returns-clause-pushed : goal.returns-clause-pushed
returns-clause-pushed c = all_pushed c.args.timers.now c.loop-fields.fields-index c.args.components.now.items c.loop-fields.components.items c.loop-fields-test.false c.loop-fields.invariant.made
